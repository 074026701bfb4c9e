-- Every replica has each write under its own name, and streams with numbers that were given.
use Rattle.std.proofs.Common.{◌≡◌, ◌≢◌, ⊎_elim, ℕ, ◌+◌, ◌≤◌, ◌==◌, Option, Some, None, Result, Ok, Err, refl, sym, ap, subst, ◌∙◌, arith}
use Rattle.std.specs.Option.{option_map_or}
use Rattle.std.specs.Ordering.{nat_cmp}
use Rattle.std.specs.FinMap as finmap
use Rattle.std.proofs.lemmas.Bool.{cases_eq}
use Rattle.std.proofs.lemmas.Option.{none-some}
use Rattle.xds_resource.specs.declared.refusal.Refusal.{Refusal}
use Rattle.xds_resource.specs.declared.refusal.Refusal.TheVariants.{CounterSpent, NoStream}
use Rattle.xds_resource.specs.Stamps.{max_counter}
use Rattle.xds_resource.proofs.TypesApart.{at-each}
use Rattle.xds_resource.proofs.Refusing.{unless_once, ok_same}
use Rattle.xds_catalogue.specs.Holdings.{Holdings, IsCatalogue, nothing_held}
use Rattle.xds_message.specs.declared.draft.Draft.{Draft}
use Rattle.xds_core.specs.Events.{Event, Open, Request, Poll, Owes, Close, Put, Delete, Merge, Snapshot, Rest, Since, Reply, Opened, Answered, Polled, Owed, Closed, Written, Merged}
use Rattle.xds_core.specs.Laws.{stream_changed}
use Rattle.xds_core.specs.Legal.{left_by}
use Rattle.xds_core.specs.Steps.{Core, fresh, step, with_stream}
use Rattle.xds_core.specs.Stores.{merging, putting_at, deleting_at, if_done}
use Rattle.xds_core.specs.Streams.{Stream, opening, requested, polled_first, looked_at, owes_some}
use Rattle.xds_core.proofs.StepLaws.{streams_stand_apart, done_with}
use Rattle.xds_core.proofs.Fitting.{nothing_named}
use Rattle.xds_flows.specs.WakeLaws.{IsOrderly, ReplicasAreOrderly}
use Rattle.xds_flows.proofs.WakesCover.{still_sound}

none_open : (n : ℕ) (s : Stream) → finmap.get (finmap.empty {R = nat_cmp}) n ≡ Some s → ⊥
none_open n s there = some_none s (sym there ∙ finmap.get-empty nat_cmp n) where
  some_none : (x : Stream) → Some x ≡ None → ⊥
  some_none x e = absurd cc

fresh_orderly : (replica : ℕ) → IsOrderly (fresh replica)
fresh_orderly replica = record {
  catalogues = λ t. subst (λ (h : Holdings). IsCatalogue h.entries) (sym (at-each nothing_held t)) nothing_named;
  numbered = λ n s there. absurd (none_open n s there);
}

-- ---- which streams were open

-- the stream of an event that isn't refused is open, and no more were opened
module _ (c later : Core) (n : ℕ) (reply : Reply) (f : Stream → Result (Reply × Core) Refusal) (same : (s : Stream) → f s ≡ Ok (reply, later) → later.opened ≡ c.opened) where
  opened_at : (o : Option Stream) → option_map_or f o (Err NoStream) ≡ Ok (reply, later) → later.opened ≡ c.opened
  opened_at None is = absurd cc
  opened_at (Some s) is = same s is

  there_at : (o : Option Stream) → finmap.get c.streams n ≡ o → option_map_or f o (Err NoStream) ≡ Ok (reply, later) → (s : Stream) × (finmap.get c.streams n ≡ Some s)
  there_at None at_n is = absurd cc
  there_at (Some s) at_n is = (s, at_n)

stream_opened : {X : Type 0} (c later : Core) (n : ℕ) (reply : Reply) (h : X → Reply) (g : Stream → Result (X × Stream) Refusal) (s : Stream)
    → if_done {Y = Reply × Core} (λ p. (h p.0, with_stream c n p.1)) (g s) ≡ Ok (reply, later) → later.opened ≡ c.opened
stream_opened c later n reply h g s is = ap (λ x. x.1.opened) (done_with (λ p. (h p.0, with_stream c n p.1)) (g s) (reply, later) is).2

plain_opened : (c k later : Core) (reply answer : Reply) → k.opened ≡ c.opened → ◌≡◌ {A = Result (Reply × Core) Refusal} (Ok (answer, k)) (Ok (reply, later)) → later.opened ≡ c.opened
plain_opened c k later reply answer same is = ap (λ x. x.1.opened) (ok_same (answer, k) (reply, later) is) ∙ same

opening_opened : (c later : Core) (reply : Reply) → step c Open ≡ Ok (reply, later) → later.opened ≡ c.opened + 1
opening_opened c later reply is =
    ap (λ x. x.1.opened)
    (unless_once (c.opened == max_counter) CounterSpent (Opened (c.opened + 1), record c { opened = c.opened + 1; streams = finmap.insert c.streams (c.opened + 1) opening }) (reply, later) is)

-- ---- numbers

module _ (c later : Core) (reply : Reply) (orderly : IsOrderly c) where
  -- of a stream that the event leaves alone
  apart_numbered : (e : Event) (n : ℕ) (s : Stream) → step c e ≡ Ok (reply, later) → c.opened ≤ later.opened → stream_changed c e ≢ Some n → finmap.get later.streams n ≡ Some s → n ≤ later.opened
  apart_numbered e n s is more apart there =
      let before = orderly.numbered n s (sym (ap (λ (k : Core). finmap.get k.streams n) (sym (ap (left_by c) is)) ∙ streams_stand_apart c e n apart) ∙ there) in
      omega (arith, before, more)

  -- and of the stream that is the event's own
  own_numbered : (e : Event) (k n : ℕ) (s : Stream) → step c e ≡ Ok (reply, later) → later.opened ≡ c.opened → stream_changed c e ≡ Some k → (x : Stream) × (finmap.get c.streams k ≡ Some x)
      → finmap.get later.streams n ≡ Some s → n ≤ later.opened
  own_numbered e k n s is same changes was there =
      ⊎_elim
      (λ here. let before = orderly.numbered k was.0 was.1 in omega (arith, before, same, here))
      (λ other. apart_numbered e n s is (omega (arith, same)) (λ to_n. other (number_is (sym changes ∙ to_n))) there) (cases_eq k n) where
        number_is : {x y : ℕ} → Some x ≡ Some y → x ≡ y
        number_is e = cc

numbers_given : (c later : Core) (e : Event) (reply : Reply) → step c e ≡ Ok (reply, later) → IsOrderly c → (n : ℕ) (s : Stream) → finmap.get later.streams n ≡ Some s → n ≤ later.opened
numbers_given c later Open reply is orderly n s there =
    let more = opening_opened c later reply is in
    ⊎_elim (λ here. omega (arith, here, more)) (λ other. apart_numbered c later reply orderly Open n s is (omega (arith, more)) (λ to_n. other (number_is to_n)) there) (cases_eq (c.opened + 1) n) where
      number_is : {x y : ℕ} → Some x ≡ Some y → x ≡ y
      number_is e = cc
numbers_given c later (Request k m) reply is orderly n s there =
    let f : Stream → Result (Reply × Core) Refusal = λ x. if_done {Y = Reply × Core} (λ p. (Answered p.0, with_stream c k p.1)) (requested x m) in
    let same = opened_at c later k reply f (λ x. stream_opened c later k reply Answered (λ y. requested y m) x) (finmap.get c.streams k) is in
    own_numbered c later reply orderly (Request k m) k n s is same refl
    (there_at c later k reply f (λ x. stream_opened c later k reply Answered (λ y. requested y m) x) (finmap.get c.streams k) refl is) there
numbers_given c later (Poll k which) reply is orderly n s there =
    let g : Stream → Result (Option Draft × Stream) Refusal = λ y. polled_first c.replica c.store y (looked_at which) in
    let f : Stream → Result (Reply × Core) Refusal = λ x. if_done {Y = Reply × Core} (λ p. (Polled p.0, with_stream c k p.1)) (g x) in
    let same = opened_at c later k reply f (λ x. stream_opened c later k reply Polled g x) (finmap.get c.streams k) is in
    own_numbered c later reply orderly (Poll k which) k n s is same refl
    (there_at c later k reply f (λ x. stream_opened c later k reply Polled g x) (finmap.get c.streams k) refl is) there
numbers_given c later (Owes k which) reply is orderly n s there =
    let same = opened_at c later k reply (λ x. Ok (Owed (owes_some c.store x (looked_at which)), c)) (λ x. plain_opened c c later reply _ refl) (finmap.get c.streams k) is in
    apart_numbered c later reply orderly (Owes k which) n s is (omega (arith, same)) (none-some n) there
numbers_given c later (Close k) reply is orderly n s there =
    let left = record c { streams = finmap.remove c.streams k } in
    let f : Stream → Result (Reply × Core) Refusal = λ x. Ok (Closed, left) in
    let same = opened_at c later k reply f (λ x. plain_opened c left later reply Closed refl) (finmap.get c.streams k) is in
    own_numbered c later reply orderly (Close k) k n s is same refl
    (there_at c later k reply f (λ x. plain_opened c left later reply Closed refl) (finmap.get c.streams k) refl is) there
numbers_given c later (Put t r groups) reply is orderly n s there =
    let made = done_with (λ p. (Written p.0 c.replica, record c { store = p.1 })) (putting_at c.store t r groups c.replica) (reply, later) is in
    let same = ap (λ x. x.1.opened) made.2 in
    apart_numbered c later reply orderly (Put t r groups) n s is (omega (arith, same)) (none-some n) there
numbers_given c later (Delete t name) reply is orderly n s there =
    let made = done_with (λ p. (Written p.0 c.replica, record c { store = p.1 })) (deleting_at c.store t name c.replica) (reply, later) is in
    let same = ap (λ x. x.1.opened) made.2 in
    apart_numbered c later reply orderly (Delete t name) n s is (omega (arith, same)) (none-some n) there
numbers_given c later (Merge b) reply is orderly n s there =
    let made = done_with (λ p. (Merged p.0, record c { store = p.1 })) (merging c.store b) (reply, later) is in
    let same = ap (λ x. x.1.opened) made.2 in
    apart_numbered c later reply orderly (Merge b) n s is (omega (arith, same)) (none-some n) there
numbers_given c later Snapshot reply is orderly n s there =
    let same = plain_opened c c later reply _ refl is in
    apart_numbered c later reply orderly Snapshot n s is (omega (arith, same)) (none-some n) there
numbers_given c later (Rest t names version cluster) reply is orderly n s there =
    let same = plain_opened c c later reply _ refl is in
    apart_numbered c later reply orderly (Rest t names version cluster) n s is (omega (arith, same)) (none-some n) there
numbers_given c later (Since marks) reply is orderly n s there =
    let same = plain_opened c c later reply _ refl is in
    apart_numbered c later reply orderly (Since marks) n s is (omega (arith, same)) (none-some n) there

pub replicas_are_orderly : ReplicasAreOrderly
replicas_are_orderly =
    (fresh_orderly, λ c later e reply is orderly. record { catalogues = still_sound c later e reply orderly.catalogues is; numbered = numbers_given c later e reply is orderly })
