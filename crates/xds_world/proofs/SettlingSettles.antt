-- A client whose test takes all that it is to show of what its replica knows is settled where settling ends.
use Rattle.std.proofs.Common.{◌≡◌, ◌⊎◌, inl, inr, ℕ, List, [], ◌∷◌, ◌++◌, Bool, true, false, ◌&&◌, ◌||◌, not, Option, Some, None, refl, sym, ap, subst, ◌∙◌}
use Rattle.std.specs.Prelude.{if◌then◌else◌, is_none, is_some, option_map}
use Rattle.std.specs.Option.{option_and_then, option_map_or}
use Rattle.std.specs.List.{list_any}
use Rattle.std.specs.FinMap as finmap
use Rattle.std.proofs.lemmas.Bool.{or_parts}
use Rattle.xds_resource.specs.declared.types.TypeName.{TypeName}
use Rattle.xds_resource.specs.Types.{row}
use Rattle.xds_resource.specs.PerType.{at}
use Rattle.xds_resource.specs.Resources.{value_of}
use Rattle.xds_resource.specs.Best.{best}
use Rattle.xds_resource.specs.Writes.{StampedWrite, version_of}
use Rattle.xds_resource.proofs.BoolsAndLists.{both_false}
use Rattle.xds_interest.specs.Interests.{Selection}
use Rattle.xds_interest.specs.Asked.{Asked}
use Rattle.xds_catalogue.specs.Holdings.{Entries}
use Rattle.xds_catalogue.proofs.Catalogues.{get-catalogue_of}
use Rattle.xds_message.specs.declared.draft.Draft.{Draft}
use Rattle.xds_ledger.specs.declared.variant.VariantName.{VariantName}
use Rattle.xds_ledger.specs.Owed.{version_shown, present}
use Rattle.xds_ledger.specs.Offers.{Offer, same_offer}
use Rattle.xds_ledger.specs.Ledgers as ledgers
use Rattle.xds_ledger.specs.Believing.{Sent}
use Rattle.xds_ledger.specs.Ledgers.{is_due, is_refused}
use Rattle.xds_ledger.specs.Sessions as sessions
use Rattle.xds_ledger.specs.Sessions.{Session}
use Rattle.xds_ledger.proofs.SameOffers.{offers_are_told_apart}
use Rattle.xds_core.specs.Stores.{Store}
use Rattle.xds_core.specs.Streams.{Stream, Message, session_after, owes_of}
use Rattle.xds_cache.specs.Shelves.{Wants, Holding, Shelf, interest}
use Rattle.xds_cache.specs.Faults.{Test}
use Rattle.xds_cache.specs.Clients.{Client, shelf}
use Rattle.xds_script.specs.Happenings.{Happening, PutsAResource}
use Rattle.xds_world.specs.Worlds.{Site, Link, Peer, World, empty_world, under_way, happens, after, world}
use Rattle.xds_world.specs.Knows.{TypedWrite, Knowledge, nothing_known, learned, knows, made_now, wants, cluster as cluster_of}
use Rattle.xds_world.specs.Claims.{holding_of, shown_of, writes_of, PutResources, asks_for, is_quiet, owes_nothing, is_settled}
use Rattle.xds_world.specs.Settling.{link_in, gave_nothing, Done, IsAtEnd, SettlesWhereAllIsTaken}
use Rattle.xds_world.proofs.Replicas.{some_is, bound_some, mapped_some, kept_start, never}
use Rattle.xds_world.proofs.Origins.{stamped_start}
use Rattle.xds_world.proofs.Ranges.{ranged_start, sites_known}
use Rattle.xds_world.proofs.Lanes.{Asks, Awaits}
use Rattle.xds_world.proofs.Queues.{lane_down, Speaks, Linked}
use Rattle.xds_world.proofs.Starting.{owes_started}
use Rattle.xds_world.proofs.Settled.{IsUnique, AllStamped, one_write, none_down}
use Rattle.xds_world.proofs.Delivering.{AllKnown, shown_in, stated_present}
use Rattle.xds_world.proofs.EveryEvent.{fine_start}
use Rattle.xds_world.proofs.Followed.{link_is, cluster_is, wants_are, placed_of, wanted_of}
use Rattle.xds_world.proofs.Sure.{Sure, sure as world_sure, sure_after}
use Rattle.xds_world.proofs.SettlingWalks.{then_there}
use Rattle.xds_world.proofs.SettlingSessions.{offer_now, never_both}
use Rattle.xds_world.proofs.LinkTakes.{spoken}
use Rattle.xds_world.proofs.SettlingSteps.{Spot, spot_of, link_at, linked_at, own_stream, ahead, folded_ahead}
use Rattle.xds_world.proofs.SettlingMoves.{session_at, held_at, puts_nothing, next_moved}
use Rattle.xds_world.proofs.SettlingPolls.{three_at}
use Rattle.xds_world.proofs.SettlingEnds.{link_settled, done_if_settled}
use Rattle.xds_world.proofs.SettlingFaults.{IsBlamed, present_version}
use Rattle.xds_world.proofs.RestPolls.{polls_start}
use Rattle.xds_world.proofs.SettlingFair.{IsFairWorld, fair_step, fair_start}
use Rattle.xds_world.proofs.RestAnswers.{TakesShown}

-- ---- worlds as they come

-- all that is kept of a world, and that what was refused is to be blamed
abbrev IsSound : Test → World → Type 0
IsSound test w = (k : Knowledge) × (all : List TypedWrite) × Sure w k all × IsFairWorld all test w

sound_step : (test : Test) (w y : World) (h : Happening) → happens test w h ≡ Some y → PutsAResource h → IsSound test w → IsSound test y
sound_step test w y h is puts sound =
    let k : Knowledge = sound.0 in
    let all : List TypedWrite = sound.1 in
    let sure = sound.2 in
    let next : Sure y (learned w h k) (all ++ made_now w h) =
    subst (λ o. Sure (option_map_or (λ x. x) o w) (option_map_or (λ x. learned w h k) o k) (option_map_or (λ x. all ++ made_now w h) o all)) is (sure_after test (h ∷ []) w k all (puts, tt) sure) in
    (learned w h k, all ++ made_now w h, next, fair_step test w y all h is (sites_known w k all sure.kept sure.stamped sure.ranged) sure.fine sound.3)

sound_or : (test : Test) (w : World) (h : Happening) (hs : List Happening) (o : Option World) → happens test w h ≡ o → PutsAResource h → IsSound test w → ((x : World) → IsSound test x → IsSound test (after test x hs))
    → IsSound test (after test (option_map_or (λ x. x) o w) hs)
sound_or test w h hs None is puts sound later = later w sound
sound_or test w h hs (Some x) is puts sound later = later x (sound_step test w x h is puts sound)

sound_after : (test : Test) (hs : List Happening) (w : World) → PutResources hs → IsSound test w → IsSound test (after test w hs)
sound_after test [] w put sound = sound
sound_after test (h ∷ hs) w put sound = sound_or test w h hs (happens test w h) refl put.0 sound (λ x. sound_after test hs x put.1)

world_sound : (test : Test) (hs : List Happening) → PutResources hs → IsSound test (world test hs)
world_sound test hs put = sound_after test hs empty_world put (nothing_known, [], record { kept = kept_start; stamped = stamped_start; ranged = ranged_start; fine = fine_start; polls = polls_start }, fair_start test)

-- ---- a session that owes something and sends nothing

pub owed_or_refused : (v : VariantName) (t : TypeName) (s : Session) (m : Entries) (begun due refused : Bool) → s.asked.begun ≡ begun → is_due v t s.asked.interest m s.account ≡ due → is_refused s.account (offer_now v t s m) ≡ refused → s.account.sent ≡ None → sessions.sending v t s m ≡ None
    → (sessions.owes v t s m ≡ false) ⊎ (is_refused s.account (offer_now v t s m) ≡ true)
owed_or_refused v t s m false due refused begins owes refuses none sends = inl (ap (λ b. b && ledgers.owes v t s.asked.interest m s.account) begins)
owed_or_refused v t s m true false refused begins owes refuses none sends = inl (λ i. begins i && (is_some (none i) || owes i))
owed_or_refused v t s m true true true begins owes refuses none sends = inr refuses
owed_or_refused v t s m true true false begins owes refuses none sends =
    let nothing : Some (offer_now v t s m) ≡ None =
    sym (λ i. if begins i then (if is_none (none i) && owes i && not (refuses i) then Some (offer_now v t s m) else None) else None) ∙ sends in absurd cc

refused_is : (o : Offer) (r : Option Offer) → option_map_or (same_offer o) r false ≡ true → r ≡ Some o
refused_is o None is = absurd cc
refused_is o (Some p) is = ap Some (sym ((offers_are_told_apart o p).0 is))

-- ---- where nothing of the type is under way

pub quiet_ahead : (t : TypeName) (s : Session) (ms : List Message) → list_any (asks_for t) ms ≡ false → ahead t s ms ≡ s
quiet_ahead t s [] none = refl
quiet_ahead t s (m ∷ ms) none =
    let parts = or_parts (asks_for t m) (list_any (asks_for t) ms) none in ap (λ b. ahead t (if b then session_after t s m else s) ms) parts.0 ∙ quiet_ahead t s ms parts.1

none_awaited : (v : VariantName) (all : List TypedWrite) (t : TypeName) (n : ℕ) (o : Option Sent) (w : Wants) (last : List ℕ) (down : Option Draft) → [] ≡ under_way down → Awaits v all t n o w last down → o ≡ None
none_awaited v all t n None w last down none is = refl
none_awaited v all t n (Some sent) w last None none is = absurd is
none_awaited v all t n (Some sent) w last (Some d) none is = absurd cc

-- nothing is unanswered
pub quiet_none : (v : VariantName) (all : List TypedWrite) (c : Client) (l : Link) (x : Stream) (t : TypeName) → Linked v all c l x → lane_down t l.down ≡ [] → (ahead t (at x.sessions t) l.up).account.sent ≡ None
quiet_none v all c l x t linked none =
    let lane = linked.lanes t in
    ap (λ (a : Session). a.account.sent) (sym (folded_ahead t (at x.sessions t) l.up)) ∙ none_awaited v all t _ _ (shelf c t).wants (shelf c t).nonce lane.down (sym none ∙ lane.downs_are) lane.abreast.awaits

-- a session that refused something has the client's interest
refused_asks : (v : VariantName) (cluster : List ℕ) (t : TypeName) (s : Session) (f : Shelf) (o : Offer) → s.account.refused ≡ Some o → Asks v cluster t s f → s.asked.interest ≡ interest t cluster f.wants
refused_asks v cluster t s f o refused (inl asked) = ap (λ (a : Asked). a.interest) asked.1
refused_asks v cluster t s f o refused (inr not_asked) = absurd (never o (sym (ap (λ (a : Session). a.account.refused) not_asked.1) ∙ refused))

asked_as : (v : VariantName) (all : List TypedWrite) (c : Client) (l : Link) (x : Stream) (t : TypeName) (o : Offer) → Linked v all c l x → (ahead t (at x.sessions t) l.up).account.refused ≡ Some o → (ahead t (at x.sessions t) l.up).asked.interest ≡ interest t c.cluster (shelf c t).wants
asked_as v all c l x t o linked refused =
    refused_asks v c.cluster t (ahead t (at x.sessions t) l.up) (shelf c t) o refused (subst (λ a. Asks v c.cluster t a (shelf c t)) (folded_ahead t (at x.sessions t) l.up) (linked.lanes t).abreast.asks)

-- ---- what is refused isn't what the client is to show

not_blamed : (v : VariantName) (all : List TypedWrite) (test : Test) (t : TypeName) (s : Session) (m : Entries) → IsUnique all → AllStamped all → AllKnown all t m → TakesShown test t m s.asked.interest → IsBlamed all test t (offer_now v t s m) → ⊥
not_blamed v all test t s m unique stamped known takes blamed =
    by_found (finmap.get m blamed.name) refl (stated_present v t s.asked.interest m s.account.beliefs blamed.name blamed.version blamed.states)
  where
    by_found : (o : Option StampedWrite) → finmap.get m blamed.name ≡ o → present s.asked.interest m blamed.name ≡ Some blamed.version → ⊥
    by_found None found here = never blamed.version (sym (ap (option_and_then (version_shown s.asked.interest blamed.name)) found) ∙ here)
    by_found (Some write) found here =
        let parts = present_version s.asked.interest m blamed.name blamed.version write found here in
        let held : Holding = record { version = version_of blamed.write; body = blamed.body } in
        let same : write ≡ blamed.write = one_write all t write blamed.write unique stamped (known blamed.name write found).made blamed.made (parts.2 ∙ sym blamed.is_at) in
        let shown : shown_in s.asked.interest m blamed.name ≡ Some held =
        ap (option_and_then (shown_of s.asked.interest blamed.name)) found ∙ ap (λ b. if b then holding_of write else None) parts.0 ∙ ap holding_of same
        ∙ ap (option_map (λ body. record { version = version_of blamed.write; body = body })) blamed.puts in
        never_both (test (row t).url blamed.name (value_of blamed.body)) (takes blamed.name held shown) blamed.refused

-- ---- the end

-- what a replica that is there owes
pub settled_at : (y : World) (c : ℕ) (t : TypeName) (z : Spot y c) → is_quiet t z.link ≡ true → owes_of z.site.core.store z.stream t ≡ false → is_settled y c t ≡ true
settled_at y c t z quiet nothing =
    link_settled y c t z.link (link_at y c z)
    ∙ (λ i. quiet i && option_map_or (owes_nothing t z.link.stream) (z.there i) false)
    ∙ ap (λ o. option_map_or (λ x. not (owes_of z.site.core.store x t)) o false) z.opened ∙ ap not nothing

owes_as : (v : VariantName) (cluster : List ℕ) (t : TypeName) (store : Store) (x : Stream) → Speaks v cluster x → sessions.owes v t (at x.sessions t) (at store t).entries ≡ false → owes_of store x t ≡ false
owes_as v cluster t store x (inl fresh) nothing = ap (λ o. option_map_or (λ k. sessions.owes k t (at x.sessions t) (at store t).entries) o false) fresh.0
owes_as v cluster t store x (inr is) nothing = ap (λ o. option_map_or (λ k. sessions.owes k t (at x.sessions t) (at store t).entries) o false) is ∙ nothing

pub owes_by : (v : VariantName) (t : TypeName) (y : World) (c : ℕ) (z : Spot y c) → Speaks v z.peer.client.cluster (own_stream y c z) → sessions.owes v t (at (own_stream y c z).sessions t) (at z.site.core.store t).entries ≡ false → owes_of z.site.core.store z.stream t ≡ false
owes_by v t y c z speaking nothing = sym (owes_started z.peer.client.cluster z.site.core.store z.stream t) ∙ owes_as v z.peer.client.cluster t z.site.core.store (own_stream y c z) speaking nothing

-- what the client at a spot wants
abbrev interest_at : (y : World) (c : ℕ) → TypeName → Spot y c → Selection
interest_at y c t z = interest t z.peer.client.cluster (shelf z.peer.client t).wants

-- where a poll of a quiet client sends nothing, it is settled
end_settled : (test : Test) (y : World) (c : ℕ) (t : TypeName) (z : Spot y c) → IsSound test y → TakesShown test t (held_at y c t z) (interest_at y c t z) → is_quiet t z.link ≡ true → sessions.sending (spoken z.peer.kind) t (session_at y c t z) (held_at y c t z) ≡ None
    → is_settled y c t ≡ true
end_settled test y c t z sound takes quiet sends =
    let all : List TypedWrite = sound.1 in
    let sure = sound.2 in
    let v : VariantName = spoken z.peer.kind in
    let a : Session = session_at y c t z in
    let m : Entries = held_at y c t z in
    let own : Stream = own_stream y c z in
    let linked = (linked_at y all c z sure.fine).1.1 in
    let parts = both_false (list_any (asks_for t) z.link.up) _ quiet in
    let none = quiet_none v all z.peer.client z.link own t linked (none_down t z.link.down parts.1) in
    let here : a ≡ at own.sessions t = quiet_ahead t (at own.sessions t) z.link.up parts.0 in
    elim (owed_or_refused v t a m a.asked.begun (is_due v t a.asked.interest m a.account) (is_refused a.account (offer_now v t a m)) refl refl refl none sends) [
      | inl nothing ↦ settled_at y c t z quiet (owes_by v t y c z linked.variant (ap (λ s. sessions.owes v t s m) (sym here) ∙ nothing))
      | inr refused ↦
          (let is = refused_is (offer_now v t a m) a.account.refused refused in
          let fair = sound.3 c z.link z.stream (link_at y c z) (ap (option_and_then (λ (s : Site). finmap.get s.core.streams z.link.stream)) z.there ∙ z.opened) z.peer.client.cluster t in
          let wanted : a.asked.interest ≡ interest_at y c t z = asked_as v all z.peer.client z.link own t (offer_now v t a m) linked is in
          absurd (not_blamed v all test t a m sure.stamped.unique sure.ranged.stamps (sites_known y sound.0 all sure.kept sure.stamped sure.ranged z.link.replica z.site t z.there) (subst (TakesShown test t m) (sym wanted) takes) (fair.refused (offer_now v t a m) is)))
    ]

-- nothing is done once a poll gave nothing
ended_settled : (test : Test) (c : ℕ) (t : TypeName) (y : World) (hs : List Happening) → is_settled y c t ≡ true → Done (IsAtEnd c t) test c t true y hs → is_settled (after test y hs) c t ≡ true
ended_settled test c t y [] settled done = settled
ended_settled test c t y (h ∷ hs) settled done = let not_more : true ≡ false = done.0 in absurd cc

settled_after : (test : Test) (c : ℕ) (t : TypeName) (hs : List Happening) (w : World) (s : Spot w c) → IsSound test w → TakesShown test t (held_at w c t s) (interest_at w c t s) → Done (IsAtEnd c t) test c t false w hs → is_settled (after test w hs) c t ≡ true
settled_after test c t [] w s sound takes (inl gave) = absurd cc
settled_after test c t [] w s sound takes (inr none) = done_if_settled w c t s.link (is_settled w c t) refl (link_at w c s) none
settled_after test c t (h ∷ hs) w s sound takes done =
    let there = then_there (happens test w h) (λ x. Done (IsAtEnd c t) test c t (gave_nothing t h (link_in x c)) x hs) done.1.1 in
    let y : World = there.0 in
    let three = three_at w c t h s done.1.0 in
    let m = next_moved test w y sound.1 c t h s three there.1 sound.2.fine in
    let next_sound = sound_step test w y h there.1 (puts_nothing c t s.link h three) sound in
    let left : after test (option_map_or (λ x. x) (happens test w h) w) hs ≡ after test y hs = ap (λ o. after test (option_map_or (λ x. x) o w) hs) there.1 in
    let still : TakesShown test t (held_at y c t m.spot) (interest_at y c t m.spot) =
    subst (λ e. TakesShown test t e (interest_at y c t m.spot)) (sym m.held) (subst (TakesShown test t (held_at w c t s)) (λ i. interest t (sym m.cluster i) (sym m.wants i)) takes) in
    let later = λ (gave : gave_nothing t h (link_in y c) ≡ false). settled_after test c t hs y m.spot next_sound still (subst (λ b. Done (IsAtEnd c t) test c t b y hs) gave there.2) in
    ap (λ x. is_settled x c t) left
    ∙ elim m.how [
      | inl stays ↦ later stays.4
      | inr (inl takes_it) ↦ later takes_it.5
      | inr (inr (inl sends)) ↦ later sends.gave
      | inr (inr (inr ends)) ↦
          ended_settled test c t y hs
          (end_settled test y c t m.spot next_sound still ends.2
          ((λ i. sessions.sending (spoken (m.kind i)) t (ends.3 i) (m.held i)) ∙ ends.4))
          (subst (λ b. Done (IsAtEnd c t) test c t b y hs) ends.1 there.2)
    ]

pub settles_where_all_is_taken : (test : Test) (hs : List Happening) → PutResources hs → SettlesWhereAllIsTaken test hs
settles_where_all_is_taken test hs put c r t more linked takes settling =
    let w : World = world test hs in
    let sound = world_sound test hs put in
    let sure = sound.2 in
    let peer = bound_some (λ (p : Peer). option_map (λ (l : Link). l.replica) p.link) (finmap.get w.peers c) r (sym (link_is test hs c) ∙ linked) in
    let at_link = mapped_some (λ (l : Link). l.replica) peer.0.link r peer.2 in
    let s = spot_of w sound.1 c at_link.0 sure.fine (ap (option_and_then (λ (p : Peer). p.link)) peer.1 ∙ at_link.1) in
    let link_same : s.link ≡ at_link.0 = some_is s.link at_link.0 (sym (link_at w c s) ∙ ap (option_and_then (λ (p : Peer). p.link)) peer.1 ∙ at_link.1) in
    let replica : s.link.replica ≡ r = ap (λ (l : Link). l.replica) link_same ∙ sym at_link.2 in
    let placed : cluster_of test hs c ≡ s.peer.client.cluster = cluster_is test hs c ∙ ap placed_of s.has in
    let wanted : wants test hs c t ≡ (shelf s.peer.client t).wants = wants_are test hs c t ∙ ap (wanted_of t) s.has in
    let held : (name : List ℕ) → finmap.get (held_at w c t s) name ≡ best (writes_of t (knows test hs r)) name =
    λ name. ap (λ m. finmap.get m name) ((world_sure test hs put).kept.holds s.link.replica s.site t s.there) ∙ get-catalogue_of (writes_of t (knows test hs s.link.replica)) name ∙ ap (λ n. best (writes_of t (knows test hs n)) name) replica in
    settled_after test c t more w s sound (λ name h is. takes name h ((λ i. option_and_then (shown_of (interest t (placed i) (wanted i)) name) (sym (held name) i)) ∙ is)) settling
