-- What a client that polled shows: after an answer that it didn't reject, what its replica knew then; after one that was lost or
-- rejected, what it showed before.
use Rattle.std.proofs.Common.{◌≡◌, ◌⊎◌, inl, inr, ℕ, ◌≤◌, List, [], ◌∷◌, ◌++◌, Bool, true, false, ◌&&◌, Option, Some, None, Ok, Err, refl, sym, ap, subst, ◌∙◌}
use Rattle.std.specs.Prelude.{bytes_eq, if◌then◌else◌, is_some, IsSome, option_map}
use Rattle.std.specs.Option.{option_and_then, option_map_or}
use Rattle.std.specs.FinMap as finmap
use Rattle.xds_resource.specs.declared.types.TypeName.{TypeName}
use Rattle.xds_resource.specs.declared.refusal.Refusal.TheVariants.{BadMessage}
use Rattle.xds_resource.specs.Types.{row}
use Rattle.xds_resource.specs.PerType.{at}
use Rattle.xds_resource.specs.Stamps.{max_counter, max_writer}
use Rattle.xds_resource.specs.Best.{best}
use Rattle.xds_resource.specs.Writes.{StampedWrite}
use Rattle.xds_resource.proofs.NameMaps.{bytes_eq_same}
use Rattle.xds_resource.proofs.TypesApart.{at-with_at}
use Rattle.xds_interest.specs.Interests.{Selection}
use Rattle.xds_catalogue.specs.Holdings.{Holdings, Entries}
use Rattle.xds_catalogue.proofs.Catalogues.{get-catalogue_of}
use Rattle.xds_sessions.specs.Rest.{whole, asked_once}
use Rattle.xds_message.specs.Drafts.{Drafted, message_of}
use Rattle.xds_message.specs.Messages.{Request}
use Rattle.xds_ledger.specs.declared.variant.VariantName.TheVariants.{StateOfTheWorld}
use Rattle.xds_core.specs.Events as events
use Rattle.xds_core.specs.Events.{Event, Reply}
use Rattle.xds_core.specs.Steps.{step}
use Rattle.xds_cache.specs.Shelves.{Wants, Shelf, interest, is_wanted, wants_some, texts}
use Rattle.xds_cache.specs.Faults.{Test}
use Rattle.xds_cache.specs.Deliveries.{Delivery, sotw_delivery, fault_in}
use Rattle.xds_cache.specs.Clients.{Client, shelf, with_shelf, view}
use Rattle.xds_cache.specs.Rest.{rest_asking, rest_taking, rest_delivered, rest_answered, answers_poll, rest_receive}
use Rattle.xds_script.specs.declared.event.AnswerFate.{AnswerFate}
use Rattle.xds_script.specs.declared.event.AnswerFate.TheVariants.{Arrives, Lost}
use Rattle.xds_script.specs.declared.event.ClientKind.{ClientKind}
use Rattle.xds_script.specs.declared.event.ClientKind.TheVariants.{Sotw, Delta, Rest}
use Rattle.xds_script.specs.Happenings.{Happening, RestPoll}
use Rattle.xds_world.specs.Worlds.{Site, Link, Peer, World, empty_world, world, with_peer, recorded, answered_at, at_site, asked_by, poll_of, poll_event, client_in, answer_taken, rested, rest_polled, happens}
use Rattle.xds_world.specs.Knows.{TypedWrite, Knowledge, nothing_known, known_after, knows, made_after, wants, cluster as cluster_of}
use Rattle.xds_world.specs.Claims.{writes_of, shown_of, content_at, Shows as ShowsWrites, PutResources, IsPoll, is_rejected, is_rejected_by, rejects, PolledIsExact, PolledIsTaken, LostLeavesTheView, PollsArePossible, PollersHaveNoStream}
use Rattle.xds_world.proofs.Replicas.{some_is, IsRestPoll, rest_poll_is}
use Rattle.xds_world.proofs.Ranges.{sites_known}
use Rattle.xds_world.proofs.Delivering.{AllKnown, shown_in}
use Rattle.xds_world.proofs.Settled.{Shows}
use Rattle.xds_world.proofs.SettlingSessions.{never_both}
use Rattle.xds_world.proofs.RestShelves.{each_shelf, left_if, answers_stay}
use Rattle.xds_world.proofs.EveryEvent.{get_put, polls_as, linked_never}
use Rattle.xds_world.proofs.Followed.{placed_of, wanted_of, cluster_is, wants_are}
use Rattle.xds_world.proofs.RestAnswers.{TakesShown, answers_whole, answers_none, taken_shows, whole_is_taken}
use Rattle.xds_world.proofs.RestPolls.{IsPresent, IsAnswered, poll_answered, poll_reply}
use Rattle.xds_world.proofs.Sure.{Sure, sure}

-- ---- one answer

-- a body that answers the poll
addressed : (c : Client) (t : TypeName) (d : Drafted) → wants_some (shelf c t).wants ≡ true → d.kind ≡ t → answers_poll c t (message_of d).type_url ≡ true
addressed c t d some kind = λ i. some i && (ap (λ k. bytes_eq (row k).url (row t).url) kind ∙ bytes_eq_same (row t).url) i

rejects_none : (b : Bool) (c : Client) → is_rejected (if b then Ok (c, None) else Err BadMessage) ≡ false
rejects_none true c = refl
rejects_none false c = refl

-- it is rejected where it is at fault
rejects_fault : (test : Test) (c : Client) (t : TypeName) (d : Drafted) (b : Bool) → answers_poll c t (message_of d).type_url ≡ b → b ≡ true → is_rejected (rest_receive test c t (Some (message_of d))) ≡ is_some (fault_in t test (sotw_delivery t (message_of d)))
rejects_fault test c t d true is there = ap (λ x. is_rejected (if x then Ok (rest_answered test c t (message_of d)) else Err BadMessage)) is
rejects_fault test c t d false is there = absurd cc

no_fault : (o : Option (List ℕ)) → is_some o ≡ false → o ≡ None
no_fault None is = refl
no_fault (Some x) is = absurd cc

-- what a poll is about: the replica's numbers are in range, and what it holds is known
pub record IsSound (w : World) (all : List TypedWrite) (r : ℕ) (t : TypeName) (s : Site) : Type 0 where
  pub number : r ≤ max_writer
  pub within : (at s.core.store t).changes ≤ max_counter
  pub known : AllKnown all t (at s.core.store t).entries

-- after an answer that isn't rejected the client shows what its replica holds
polled_shows : (test : Test) (w : World) (all : List TypedWrite) (r : ℕ) (t : TypeName) (c x : Client) (draft : Option Drafted) → (is : IsAnswered w r t c draft) → IsSound w all r t is.site → answer_taken test Arrives c t draft ≡ Some x
    → is_rejected (rest_receive test c t (option_map message_of draft)) ≡ false → IsPresent w.sites c.cluster t (shelf c t) → Shows StateOfTheWorld c.cluster t (shelf x t) (at is.site.core.store t).entries
polled_shows test w all r t c x None is sound takes accepts present =
    let h : Holdings = at is.site.core.store t in
    let same : x ≡ c = left_if (wants_some (shelf c t).wants) _ x takes in
    let kept = present r h.changes sound.number sound.within (answers_none r t h (interest t c.cluster (shelf c t).wants) (shelf c t).accepted (sym is.says)) in
    let site : kept.0 ≡ is.site = some_is kept.0 is.site (sym kept.1 ∙ is.there) in
    subst (λ (y : Client). Shows StateOfTheWorld c.cluster t (shelf y t) h.entries) (sym same)
    (subst (λ (s : Site). Shows StateOfTheWorld c.cluster t (shelf c t) (at {X = Holdings} s.core.store t).entries) site (kept.3 (ap (λ (s : Site). (at {X = Holdings} s.core.store t).changes) (sym site))))
polled_shows test w all r t c x (Some d) is sound takes accepts present =
    let h : Holdings = at is.site.core.store t in
    let s : Selection = interest t c.cluster (shelf c t).wants in
    let whole_is : d ≡ whole r t h s = answers_whole r t h s (shelf c t).accepted d (sym is.says) in
    let fault : fault_in t test (sotw_delivery t (message_of d)) ≡ None =
    no_fault (fault_in t test (sotw_delivery t (message_of d))) (sym (rejects_fault test c t d _ refl (addressed c t d is.wants (ap (λ (y : Drafted). y.kind) whole_is))) ∙ accepts) in
    let left : x ≡ with_shelf c t (rest_delivered t test (shelf c t) (sotw_delivery t (message_of d))) = left_if _ (rest_answered test c t (message_of d)) x takes in
    let taken : shelf x t ≡ rest_taking t (shelf c t) (sotw_delivery t (message_of (whole r t h s))) =
    ap (λ y. shelf y t) left ∙ at-with_at c.shelves t (rest_delivered t test (shelf c t) (sotw_delivery t (message_of d))) ∙ ap (λ o. option_map_or (λ y. shelf c t) o (rest_taking t (shelf c t) (sotw_delivery t (message_of d)))) fault
    ∙ ap (λ (y : Drafted). rest_taking t (shelf c t) (sotw_delivery t (message_of y))) whole_is in
    subst (λ f. Shows StateOfTheWorld c.cluster t f h.entries) (sym taken) (taken_shows c.cluster all t (shelf c t) r h sound.known)

-- and none is rejected that the test takes all of
polled_taken : (test : Test) (w : World) (all : List TypedWrite) (r : ℕ) (t : TypeName) (c : Client) (draft : Option Drafted) → (is : IsAnswered w r t c draft) → IsSound w all r t is.site → TakesShown test t (at is.site.core.store t).entries (interest t c.cluster (shelf c t).wants)
    → is_rejected (rest_receive test c t (option_map message_of draft)) ≡ false
polled_taken test w all r t c None is sound takes = rejects_none (wants_some (shelf c t).wants) c
polled_taken test w all r t c (Some d) is sound takes =
    let h : Holdings = at is.site.core.store t in
    let s : Selection = interest t c.cluster (shelf c t).wants in
    let whole_is : d ≡ whole r t h s = answers_whole r t h s (shelf c t).accepted d (sym is.says) in
    rejects_fault test c t d _ refl (addressed c t d is.wants (ap (λ (y : Drafted). y.kind) whole_is))
    ∙ ap is_some (ap (λ (y : Drafted). fault_in t test (sotw_delivery t (message_of y))) whole_is ∙ whole_is_taken all test t r h s sound.known takes)

-- one that is lost or rejected leaves the views
view_by : (t : TypeName) (f : Shelf) (d : Delivery) (o : Option (List ℕ)) → is_some o ≡ true → (option_map_or (λ x. f) o (rest_taking t f d)).cache ≡ f.cache
view_by t f d None is = absurd cc
view_by t f d (Some x) is = refl

view_rejected : (test : Test) (c x : Client) (t : TypeName) (d : Drafted) (b : Bool) → is_rejected (if b then Ok (rest_answered test c t (message_of d)) else Err BadMessage) ≡ true → client_in (if b then Ok (rest_answered test c t (message_of d)) else Err BadMessage) ≡ Some x
    → (u : TypeName) → view x u ≡ view c u
view_rejected test c x t d true is takes u =
    let given : Delivery = sotw_delivery t (message_of d) in
    ap (λ y. view y u) (sym (some_is _ x takes)) ∙ each_shelf (λ v f. f.cache ≡ (shelf c v).cache) c t (rest_delivered t test (shelf c t) given) (view_by t (shelf c t) given (fault_in t test given) is) (λ v. refl) u
view_rejected test c x t d false is takes u = absurd cc

view_left : (test : Test) (answer : AnswerFate) (c x : Client) (t : TypeName) (draft : Option Drafted) → answer_taken test answer c t draft ≡ Some x → (answer ≡ Lost) ⊎ (is_rejected (rest_receive test c t (option_map message_of draft)) ≡ true) → (u : TypeName) → view x u ≡ view c u
view_left test Lost c x t draft takes why u = ap (λ y. view y u) (sym (some_is c x takes))
view_left test Arrives c x t draft takes (inl lost) u = absurd cc
view_left test Arrives c x t None takes (inr rejected) u = absurd (never_both _ rejected (rejects_none (wants_some (shelf c t).wants) c))
view_left test Arrives c x t (Some d) takes (inr rejected) u = view_rejected test c x t d (answers_poll c t (message_of d).type_url) rejected takes u

-- ---- in a world

rejected_by : (test : Test) (p : Peer) (t : TypeName) (reply : Reply) (w : World) (draft : Option Drafted) → reply ≡ events.Rested draft → is_rejected_by test p t (reply, w) ≡ is_rejected (rest_receive test p.client t (option_map message_of draft))
rejected_by test p t reply w draft says = ap (λ y. is_rejected_by test p t (y, w)) says

-- whether the client rejects is what it makes of what the replica answered
rejected_is : (test : Test) (w left : World) (c r : ℕ) (t : TypeName) (answer : AnswerFate) (x : IsRestPoll test w left c r t answer) → rejects test w c r t ≡ is_rejected (rest_receive test x.peer.client t (option_map message_of x.draft))
rejected_is test w left c r t answer x =
    ap (λ o. option_map_or (λ p. option_map_or (λ q. option_map_or (is_rejected_by test p t) (at_site w r (poll_event t q)) false) (poll_of p t) false) o false) x.has
    ∙ ap (λ o. option_map_or (λ q. option_map_or (is_rejected_by test x.peer t) (at_site w r (poll_event t q)) false) o false) x.asks ∙ ap (λ o. option_map_or (is_rejected_by test x.peer t) o false) x.answers
    ∙ rejected_by test x.peer t x.reply.0 x.reply.1 x.draft x.says

put_front : (hs more : List Happening) → PutResources (hs ++ more) → PutResources hs
put_front [] more put = tt
put_front (h ∷ hs) more put = (put.0, put_front hs more put.1)

-- what is known of a poll among what happened
module _ (test : Test) (hs : List Happening) (c r : ℕ) (t : TypeName) (answer : AnswerFate) (x : IsPoll test hs c r t answer) where
  abbrev here : World
  here = world test x.before

  abbrev poll : IsRestPoll test here x.left c r t answer
  poll = rest_poll_is test here x.left c r t answer x.possible

  pub asked_here : poll.peer ≡ x.polling
  asked_here = some_is poll.peer x.polling (sym poll.has ∙ x.asks)

  pub left_here : x.polled.client ≡ poll.client
  left_here =
      let after : Peer = record poll.peer { client = poll.client } in
      ap (λ (p : Peer). p.client) (some_is x.polled after (sym x.has ∙ ap (λ y. finmap.get y.peers c) poll.after ∙ get_put poll.reply.1.peers c after))

  pub placed_here : cluster_of test x.before c ≡ poll.peer.client.cluster
  placed_here = cluster_is test x.before c ∙ ap placed_of poll.has

  pub wanted_here : wants test x.before c t ≡ (shelf poll.peer.client t).wants
  wanted_here = wants_are test x.before c t ∙ ap (wanted_of t) poll.has

  module _ (put : PutResources hs) where
    abbrev known_here : Knowledge
    known_here = known_after test empty_world nothing_known x.before

    abbrev all_here : List TypedWrite
    all_here = made_after test empty_world [] x.before

    pub sure_here : Sure here known_here all_here
    sure_here = sure test x.before (put_front x.before (RestPoll c r t answer ∷ x.rest) (subst PutResources x.among put))

    pub answered_here : IsAnswered here r t poll.peer.client poll.draft
    answered_here = poll_answered test here x.left c r t answer poll sure_here.stamped.numbers

    pub sound_here : IsSound here all_here r t answered_here.site
    sound_here = record {
      number = (sure_here.ranged.sites r answered_here.site answered_here.there).1;
      within = sure_here.polls.within r answered_here.site t answered_here.there;
      known = sites_known here known_here all_here sure_here.kept sure_here.stamped sure_here.ranged r answered_here.site t answered_here.there;
    }

    pub present_here : IsPresent here.sites poll.peer.client.cluster t (shelf poll.peer.client t)
    present_here = sure_here.polls.present c poll.peer poll.has (polls_as poll.peer.kind poll.peer.client t poll.request poll.asks) t

    -- what the replica holds is the best of what it knows
    pub held_here : (name : List ℕ) → finmap.get (at answered_here.site.core.store t).entries name ≡ best (writes_of t (knows test x.before r)) name
    held_here name = ap (λ m. finmap.get m name) (sure_here.kept.holds r answered_here.site t answered_here.there) ∙ get-catalogue_of (writes_of t (knows test x.before r)) name

    -- what is to be shown of a name
    pub content_here : (name : List ℕ) → shown_in (interest t poll.peer.client.cluster (shelf poll.peer.client t).wants) (at answered_here.site.core.store t).entries name
        ≡ content_at t (writes_of t (knows test x.before r)) (cluster_of test x.before c) (wants test x.before c t) name
    content_here name = λ i. option_and_then (shown_of (interest t (sym placed_here i) (sym wanted_here i)) name) (held_here name i)

-- ---- the claims

-- what is shown of what a replica holds, by what it knows
shows_writes : (t : TypeName) (cluster : List ℕ) (f : Shelf) (m : Entries) (w : Wants) (ws : List StampedWrite) (of : List ℕ) → f.wants ≡ w → ((name : List ℕ) → shown_in (interest t cluster w) m name ≡ content_at t ws of w name) → Shows StateOfTheWorld cluster t f m → ShowsWrites t ws of w f.cache
shows_writes t cluster f m w ws of same content shows = (
  λ complete name. shows.exact name complete ∙ ap (λ v. option_map (λ h. h.body) (shown_in (interest t cluster v) m name)) same ∙ ap (option_map (λ h. h.body)) (content name),
  (λ name h is. shows.agrees name h (ap (λ v. shown_in (interest t cluster v) m name) same ∙ content name ∙ is), λ name unwanted. shows.within name (ap (λ v. is_wanted t v name) same ∙ unwanted)),
)

-- rule: not-modified
pub polled_is_exact : (test : Test) (hs : List Happening) → PutResources hs → PolledIsExact test hs
polled_is_exact test hs put c r t x accepts =
    let p = rest_poll_is test (world test x.before) x.left c r t Arrives x.possible in
    let is = answered_here test hs c r t Arrives x put in
    let shows = polled_shows test (world test x.before) _ r t p.peer.client p.client p.draft is (sound_here test hs c r t Arrives x put) p.takes (sym (rejected_is test (world test x.before) x.left c r t Arrives p) ∙ accepts) (present_here test hs c r t Arrives x put) in
    let wanted : (shelf p.client t).wants ≡ wants test x.before c t = (answers_stay test Arrives p.peer.client t p.draft p.client p.takes).wants t ∙ sym (wanted_here test hs c r t Arrives x) in
    subst (λ y. ShowsWrites t (writes_of t (knows test x.before r)) (cluster_of test x.before c) (wants test x.before c t) (view y t)) (sym (left_here test hs c r t Arrives x))
    (shows_writes t p.peer.client.cluster (shelf p.client t) (at is.site.core.store t).entries (wants test x.before c t) (writes_of t (knows test x.before r)) (cluster_of test x.before c) wanted
    (λ name. ap (λ v. shown_in (interest t p.peer.client.cluster v) (at is.site.core.store t).entries name) (wanted_here test hs c r t Arrives x) ∙ content_here test hs c r t Arrives x put name) shows)

-- rule: whole-or-nothing
pub polled_is_taken : (test : Test) (hs : List Happening) → PutResources hs → PolledIsTaken test hs
polled_is_taken test hs put c r t x takes =
    let p = rest_poll_is test (world test x.before) x.left c r t Arrives x.possible in
    let is = answered_here test hs c r t Arrives x put in
    rejected_is test (world test x.before) x.left c r t Arrives p
    ∙ polled_taken test (world test x.before) _ r t p.peer.client p.draft is (sound_here test hs c r t Arrives x put) (λ name h live. takes name h (sym (content_here test hs c r t Arrives x put name) ∙ live))

-- rule: whole-or-nothing
pub lost_leaves_the_view : (test : Test) (hs : List Happening) → LostLeavesTheView test hs
lost_leaves_the_view test hs c r t answer x why u =
    let p = rest_poll_is test (world test x.before) x.left c r t answer x.possible in
    ap (λ y. view y u) (left_here test hs c r t answer x) ∙ view_left test answer p.peer.client p.client t p.draft p.takes (reason why) u
    ∙ ap (λ (y : Peer). view y.client u) (asked_here test hs c r t answer x)
  where
    reason : (answer ≡ Lost) ⊎ (rejects test (world test x.before) c r t ≡ true) → let p = rest_poll_is test (world test x.before) x.left c r t answer x.possible in (answer ≡ Lost) ⊎ (is_rejected (rest_receive test p.peer.client t (option_map message_of p.draft)) ≡ true)
    reason (inl lost) = inl lost
    reason (inr rejected) = inr (sym (rejected_is test (world test x.before) x.left c r t answer (rest_poll_is test (world test x.before) x.left c r t answer x.possible)) ∙ rejected)

-- ---- a poll is possible

asks_by : (k : ClientKind) (c : Client) (t : TypeName) → k ≡ Rest → wants_some (shelf c t).wants ≡ true → asked_by k c t ≡ Some (rest_asking c t)
asks_by Rest c t is some = ap (λ b. if b then Some (rest_asking c t) else None) some
asks_by Sotw c t is some = absurd cc
asks_by Delta c t is some = absurd cc

pub takes_some : (test : Test) (answer : AnswerFate) (c : Client) (t : TypeName) (d : Option Drafted) → wants_some (shelf c t).wants ≡ true → ((y : Drafted) → d ≡ Some y → y.kind ≡ t) → (x : Client) × (answer_taken test answer c t d ≡ Some x)
takes_some test Lost c t d some kind = (c, refl)
takes_some test Arrives c t None some kind = (c, ap (λ b. client_in {X = Option (List ℕ)} (if b then Ok (c, None) else Err BadMessage)) some)
takes_some test Arrives c t (Some d) some kind =
    ((rest_answered test c t (message_of d)).0, ap (λ b. client_in (if b then Ok (rest_answered test c t (message_of d)) else Err BadMessage)) (addressed c t d some (kind d refl)))

poll_happens : (test : Test) (w : World) (c r : ℕ) (p : Peer) (s : Site) (t : TypeName) (answer : AnswerFate) → finmap.get w.peers c ≡ Some p → p.kind ≡ Rest → wants_some (shelf p.client t).wants ≡ true → finmap.get w.sites r ≡ Some s → IsSome (happens test w (RestPoll c r t answer))
poll_happens test w c r p s t answer has kind some there =
    let q : Request = rest_asking p.client t in
    let d : Option Drafted = poll_reply s.core t q in
    let e : Event = poll_event t q in
    let w1 : World = record w { sites = finmap.insert w.sites r (recorded s e (events.Rested d, s.core)) } in
    let answers : at_site w r e ≡ Some (events.Rested d, w1) = ap (option_and_then (λ x. answered_at w r x e (step x.core e))) there in
    let takes = takes_some test answer p.client t d some (λ y is. ap (λ (z : Drafted). z.kind) (answers_whole s.core.replica t (at s.core.store t) (asked_once t (texts (shelf p.client t).wants) p.client.cluster) (shelf p.client t).accepted y is)) in
    let left : World = with_peer w1 c (record p { client = takes.0 }) in
    let happened : happens test w (RestPoll c r t answer) ≡ Some left =
    ap (option_and_then (λ y. rest_polled test w c r t answer y)) has ∙ ap (option_and_then (λ y. option_and_then (rested test answer c t p) (at_site w r (poll_event t y)))) (asks_by p.kind p.client t kind some)
    ∙ ap (option_and_then (rested test answer c t p)) answers ∙ ap (option_map (λ x. with_peer w1 c (record p { client = x }))) takes.1 in
    subst IsSome (sym happened) refl

pub polls_are_possible : (test : Test) (hs : List Happening) → PollsArePossible test hs
polls_are_possible test hs c r p s t answer has kind some there =
    poll_happens test (world test hs) c r p s t answer has kind (ap wants_some (sym (wants_are test hs c t ∙ ap (wanted_of t) has)) ∙ some) there

-- ---- who polls has no stream

pub pollers_have_no_stream : (test : Test) (hs : List Happening) → PutResources hs → PollersHaveNoStream test hs
pollers_have_no_stream test hs put c p has kind = by_link p.link refl
  where
    by_link : (o : Option Link) → p.link ≡ o → o ≡ None
    by_link None is = refl
    by_link (Some l) is = absurd (linked_never (world test hs) (made_after test empty_world [] hs) c p l (sure test hs put).fine has is kind)
