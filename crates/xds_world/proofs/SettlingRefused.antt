-- A client that isn't settled where settling ends refused what its replica would send it.
use Rattle.std.proofs.Common.{◌≡◌, ◌⊎◌, inl, inr, ℕ, List, [], ◌∷◌, Bool, true, false, None, refl, sym, ap, subst, ◌∙◌}
use Rattle.std.specs.Option.{option_map_or}
use Rattle.std.specs.List.{list_any}
use Rattle.std.specs.FinMap as finmap
use Rattle.xds_resource.specs.declared.types.TypeName.{TypeName}
use Rattle.xds_resource.specs.PerType.{at}
use Rattle.xds_resource.proofs.BoolsAndLists.{both_false}
use Rattle.xds_catalogue.specs.Holdings.{Entries}
use Rattle.xds_ledger.specs.declared.variant.VariantName.{VariantName}
use Rattle.xds_ledger.specs.Ledgers.{is_due, is_refused}
use Rattle.xds_ledger.specs.Sessions as sessions
use Rattle.xds_ledger.specs.Sessions.{Session}
use Rattle.xds_core.specs.Streams.{Stream}
use Rattle.xds_cache.specs.Faults.{Test}
use Rattle.xds_script.specs.Happenings.{Happening}
use Rattle.xds_world.specs.Worlds.{Site, Link, World, happens, after, world}
use Rattle.xds_world.specs.Claims.{PutResources, asks_for, is_quiet, is_settled}
use Rattle.xds_world.specs.Settling.{link_in, gave_nothing, would_repeat, is_held_back, Done, IsAtEnd, UnsettledHasRefused}
use Rattle.xds_world.proofs.Settled.{none_down}
use Rattle.xds_world.proofs.SettlingWalks.{then_there}
use Rattle.xds_world.proofs.SettlingSessions.{offer_now}
use Rattle.xds_world.proofs.Queues.{Speaks}
use Rattle.xds_world.proofs.Starting.{started_decided}
use Rattle.xds_world.proofs.LinkTakes.{spoken}
use Rattle.xds_world.proofs.SettlingSteps.{Spot, spot_of, link_at, linked_at, own_stream}
use Rattle.xds_world.proofs.SettlingMoves.{session_at, held_at, next_moved}
use Rattle.xds_world.proofs.SettlingPolls.{IsSure, world_sure, next_there, sure_next}
use Rattle.xds_world.proofs.SettlingEnds.{done_if_settled}
use Rattle.xds_world.proofs.SettlingSettles.{owed_or_refused, quiet_ahead, quiet_none, settled_at, owes_by}

abbrev IsEither : World → ℕ → TypeName → Type 0
IsEither w c t = (is_settled w c t ≡ true) ⊎ (is_held_back w c t ≡ true)

-- what a stream at a replica that is there would repeat
held_back_at : (y : World) (c : ℕ) (t : TypeName) (z : Spot y c) → would_repeat t z.site.core.store z.stream ≡ true → is_held_back y c t ≡ true
held_back_at y c t z repeats =
    ap (λ o. option_map_or (λ (l : Link). option_map_or (λ (s : Site). option_map_or (would_repeat t s.core.store) (finmap.get s.core.streams l.stream) false) (finmap.get y.sites l.replica) false) o false) (link_at y c z)
    ∙ ap (λ o. option_map_or (λ (s : Site). option_map_or (would_repeat t s.core.store) (finmap.get s.core.streams z.link.stream) false) o false) z.there
    ∙ ap (λ o. option_map_or (would_repeat t z.site.core.store) o false) z.opened ∙ repeats

abbrev refuses : TypeName → Stream → Entries → VariantName → Bool
refuses t x m v = is_refused (at x.sessions t).account (offer_now v t (at x.sessions t) m)

-- a stream that wasn't asked anything owes nothing
either_by : (v : VariantName) (y : World) (c : ℕ) (t : TypeName) (z : Spot y c) → Speaks v z.peer.client.cluster (own_stream y c z) → is_quiet t z.link ≡ true
    → (sessions.owes v t (at (own_stream y c z).sessions t) (held_at y c t z) ≡ false) ⊎ (refuses t (own_stream y c z) (held_at y c t z) v ≡ true) → IsEither y c t
either_by v y c t z speaking quiet (inl nothing) = inl (settled_at y c t z quiet (owes_by v t y c z speaking nothing))
either_by v y c t z (inl fresh) quiet (inr refused) =
    inl (settled_at y c t z quiet (ap (λ o. option_map_or (λ k. sessions.owes k t (at z.stream.sessions t) (held_at y c t z)) o false) fresh.0))
either_by v y c t z (inr is) quiet (inr refused) = inr (held_back_at y c t z (ap (λ o. option_map_or (refuses t z.stream (held_at y c t z)) o false) is
    ∙ ap (λ x. refuses t x (held_at y c t z) v) (sym (started_decided z.peer.client.cluster z.stream v is)) ∙ refused))

-- where a poll of a quiet client sends nothing
end_either : (y : World) (c : ℕ) (t : TypeName) (z : Spot y c) → IsSure y → is_quiet t z.link ≡ true → sessions.sending (spoken z.peer.kind) t (session_at y c t z) (held_at y c t z) ≡ None → IsEither y c t
end_either y c t z all quiet sends =
    let v : VariantName = spoken z.peer.kind in
    let a : Session = session_at y c t z in
    let m : Entries = held_at y c t z in
    let own : Stream = own_stream y c z in
    let linked = (linked_at y all.1 c z all.2.fine).1.1 in
    let parts = both_false (list_any (asks_for t) z.link.up) _ quiet in
    let none = quiet_none v all.1 z.peer.client z.link own t linked (none_down t z.link.down parts.1) in
    let here : a ≡ at own.sessions t = quiet_ahead t (at own.sessions t) z.link.up parts.0 in
    either_by v y c t z linked.variant quiet
    (subst (λ (s : Session). (sessions.owes v t s m ≡ false) ⊎ (is_refused s.account (offer_now v t s m) ≡ true)) here
    (owed_or_refused v t a m a.asked.begun (is_due v t a.asked.interest m a.account) (is_refused a.account (offer_now v t a m)) refl refl refl none sends))

-- nothing is done once a poll gave nothing
ended_either : (test : Test) (c : ℕ) (t : TypeName) (y : World) (hs : List Happening) → IsEither y c t → Done (IsAtEnd c t) test c t true y hs → IsEither (after test y hs) c t
ended_either test c t y [] either done = either
ended_either test c t y (h ∷ hs) either done = let not_more : true ≡ false = done.0 in absurd cc

either_after : (test : Test) (c : ℕ) (t : TypeName) (hs : List Happening) (w : World) (s : Spot w c) → IsSure w → Done (IsAtEnd c t) test c t false w hs → IsEither (after test w hs) c t
either_after test c t [] w s all (inl gave) = absurd cc
either_after test c t [] w s all (inr none) = inl (done_if_settled w c t s.link (is_settled w c t) refl (link_at w c s) none)
either_after test c t (h ∷ hs) w s all done =
    let there = then_there (happens test w h) (λ x. Done (IsAtEnd c t) test c t (gave_nothing t h (link_in x c)) x hs) done.1.1 in
    let y : World = there.0 in
    let next = next_there test w c t h all done.1.0 in
    let m = next_moved test w y all.1 c t h next.spot next.three there.1 all.2.fine in
    let sure = sure_next test w y c t h next.spot next.three there.1 all in
    let left : after test y hs ≡ after test (option_map_or (λ x. x) (happens test w h) w) hs = ap (λ o. after test (option_map_or (λ x. x) o w) hs) (sym there.1) in
    let later = λ (gave : gave_nothing t h (link_in y c) ≡ false). either_after test c t hs y m.spot sure (subst (λ b. Done (IsAtEnd c t) test c t b y hs) gave there.2) in
    subst (λ x. IsEither x c t) left
    (elim m.how [
      | inl stays ↦ later stays.4
      | inr (inl takes) ↦ later takes.5
      | inr (inr (inl sends)) ↦ later sends.gave
      | inr (inr (inr ends)) ↦
          ended_either test c t y hs
          (end_either y c t m.spot sure ends.2 ((λ i. sessions.sending (spoken (m.kind i)) t (ends.3 i) (m.held i)) ∙ ends.4))
          (subst (λ b. Done (IsAtEnd c t) test c t b y hs) ends.1 there.2)
    ])

unless_settled : (settled held : Bool) → (settled ≡ true) ⊎ (held ≡ true) → settled ≡ false → held ≡ true
unless_settled settled held (inl is) not_is = let never : true ≡ false = sym is ∙ not_is in absurd cc
unless_settled settled held (inr is) not_is = is

-- rule: refused-offer
pub unsettled_has_refused : (test : Test) (hs : List Happening) → PutResources hs → UnsettledHasRefused test hs
unsettled_has_refused test hs put c t more l settling linked unsettled =
    let w : World = world test hs in
    let all = world_sure test hs put in
    let s = spot_of w all.1 c l all.2.fine linked in
    unless_settled (is_settled (after test w more) c t) (is_held_back (after test w more) c t) (either_after test c t more w s all settling) unsettled
