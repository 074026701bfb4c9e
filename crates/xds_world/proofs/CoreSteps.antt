-- What a step of a replica that isn't refused does to its streams.
use Rattle.std.proofs.Common.{◌≡◌, inl, inr, ℕ, ◌+◌, ◌≤◌, Bool, Option, Some, None, Result, Ok, Err, refl, sym, ap, subst, ◌∙◌, arith}
use Rattle.std.specs.Prelude.{◌==◌}
use Rattle.std.specs.Option.{option_map_or}
use Rattle.std.specs.Cmp.{nat_cmp_total}
use Rattle.std.specs.FinMap as finmap
use Rattle.std.specs.FinMap.{nat_cmp-IsAntisymmetric}
use Rattle.xds_resource.specs.declared.refusal.Refusal.{Refusal}
use Rattle.xds_resource.specs.declared.refusal.Refusal.TheVariants.{CounterSpent, NoStream}
use Rattle.xds_resource.specs.Stamps.{max_counter}
use Rattle.xds_resource.proofs.Refusing.{unless_once}
use Rattle.xds_catalogue.proofs.Lookups.{get-inserted, get-removed}
use Rattle.xds_core.specs.Stores.{Store, putting_at, deleting_at, merging, if_done}
use Rattle.xds_core.specs.Streams.{Stream, opening, requested, polled_first, looked_at, owes_some}
use Rattle.xds_core.specs.Events.{Event, Open, Request, Poll, Owes, Close, Put, Delete, Merge, Snapshot, Rest, Since, Reply, Opened, Answered, Polled, Owed, Closed, Written, Merged}
use Rattle.xds_core.specs.Steps.{Core, Step, step, with_stream, stream_step}
use Rattle.xds_core.proofs.StepLaws.{done_with, opened_to}
use Rattle.xds_world.proofs.Replicas.{never}

stepped_is : (p q : Reply × Core) → ◌≡◌ {A = Step} (Ok p) (Ok q) → q ≡ p
stepped_is p q e = cc

stream_found : {X : Type 0} (c : Core) (n : ℕ) (reply : X → Reply) (f : Stream → Result (X × Stream) Refusal) (q : Reply × Core) (o : Option Stream) → finmap.get c.streams n ≡ o
    → option_map_or (λ s. if_done (λ p. (reply p.0, with_stream c n p.1)) (f s)) o (Err NoStream) ≡ Ok q
    → (x : Stream) × (a : X × Stream) × (finmap.get c.streams n ≡ Some x) × (f x ≡ Ok a) × (q ≡ (reply a.0, with_stream c n a.1))
stream_found c n reply f q None has is = absurd cc
stream_found c n reply f q (Some x) has is = let made = done_with (λ p. (reply p.0, with_stream c n p.1)) (f x) q is in (x, made.0, has, made.1, made.2)

-- an event of a stream: it is open, and only it changes
pub stream_step_is : {X : Type 0} (c : Core) (n : ℕ) (reply : X → Reply) (f : Stream → Result (X × Stream) Refusal) (q : Reply × Core) → stream_step c n reply f ≡ Ok q
    → (x : Stream) × (a : X × Stream) × (finmap.get c.streams n ≡ Some x) × (f x ≡ Ok a) × (q ≡ (reply a.0, with_stream c n a.1))
stream_step_is c n reply f q is = stream_found c n reply f q (finmap.get c.streams n) refl is

pub open_is : (c : Core) (q : Reply × Core) → step c Open ≡ Ok q → q ≡ (Opened (c.opened + 1), opened_to c)
open_is c q is = unless_once (c.opened == max_counter) CounterSpent (Opened (c.opened + 1), opened_to c) q is

closed_found : (c : Core) (n : ℕ) (q : Reply × Core) (o : Option Stream) → ◌≡◌ {A = Step} (option_map_or (λ s. Ok (Closed, record c { streams = finmap.remove c.streams n })) o (Err NoStream)) (Ok q) → q ≡ (Closed, record c { streams = finmap.remove c.streams n })
closed_found c n q None is = absurd cc
closed_found c n q (Some x) is = stepped_is (Closed, record c { streams = finmap.remove c.streams n }) q is

pub close_is : (c : Core) (n : ℕ) (q : Reply × Core) → step c (Close n) ≡ Ok q → q ≡ (Closed, record c { streams = finmap.remove c.streams n })
close_is c n q is = closed_found c n q (finmap.get c.streams n) is

-- ---- the numbers of open streams

-- none is above the number of streams that were opened
abbrev pub IsCounted : Core → Type 0
IsCounted c = (n : ℕ) (x : Stream) → finmap.get c.streams n ≡ Some x → n ≤ c.opened

put_counted : (c : Core) (n : ℕ) (x y : Stream) → finmap.get c.streams n ≡ Some x → IsCounted c → IsCounted (with_stream c n y)
put_counted c n x y has counted m z is =
    elim (get-inserted nat_cmp_total nat_cmp-IsAntisymmetric c.streams n y m) [
      | inl here ↦ subst (λ k. k ≤ c.opened) here.0 (counted n x has)
      | inr other ↦ counted m z (sym other.1 ∙ is)
    ]

opened_counted : (c : Core) → IsCounted c → IsCounted (opened_to c)
opened_counted c counted m z is =
    elim (get-inserted nat_cmp_total nat_cmp-IsAntisymmetric c.streams (c.opened + 1) opening m) [
      | inl here ↦ subst (λ k. k ≤ c.opened + 1) here.0 (omega arith)
      | inr other ↦ (let below = counted m z (sym other.1 ∙ is) in omega (arith, below))
    ]

closed_counted : (c : Core) (n : ℕ) → IsCounted c → IsCounted (record c { streams = finmap.remove c.streams n })
closed_counted c n counted m z is =
    elim (get-removed nat_cmp_total nat_cmp-IsAntisymmetric c.streams n m) [
      | inl here ↦ absurd (never z (sym here.1 ∙ is))
      | inr other ↦ counted m z (sym other.1 ∙ is)
    ]

stored_counted : {N : Type 0} (c : Core) (reply : N → Reply) (r : Result (N × Store) Refusal) (q : Reply × Core) → if_done (λ p. (reply p.0, record c { store = p.1 })) r ≡ Ok q → IsCounted c → IsCounted q.1
stored_counted c reply r q is counted = let made = done_with (λ p. (reply p.0, record c { store = p.1 })) r q is in subst IsCounted (sym (ap (λ y. y.1) made.2)) counted

looked_counted : (c : Core) (n : ℕ) (f : Stream → Bool) (q : Reply × Core) (o : Option Stream) → ◌≡◌ {A = Step} (option_map_or (λ s. Ok (Owed (f s), c)) o (Err NoStream)) (Ok q) → IsCounted c → IsCounted q.1
looked_counted c n f q None is counted = absurd cc
looked_counted c n f q (Some x) is counted = subst IsCounted (sym (ap (λ y. y.1) (stepped_is (Owed (f x), c) q is))) counted

pub step_counted : (c : Core) (e : Event) (q : Reply × Core) → step c e ≡ Ok q → IsCounted c → IsCounted q.1
step_counted c Open q is counted = subst IsCounted (sym (ap (λ y. y.1) (open_is c q is))) (opened_counted c counted)
step_counted c (Request n m) q is counted = let made = stream_step_is c n Answered (λ s. requested s m) q is in subst IsCounted (sym (ap (λ y. y.1) made.4)) (put_counted c n made.0 made.1.1 made.2 counted)
step_counted c (Poll n which) q is counted = let made = stream_step_is c n Polled (λ s. polled_first c.replica c.store s (looked_at which)) q is in subst IsCounted (sym (ap (λ y. y.1) made.4)) (put_counted c n made.0 made.1.1 made.2 counted)
step_counted c (Owes n which) q is counted = looked_counted c n (λ s. owes_some c.store s (looked_at which)) q (finmap.get c.streams n) is counted
step_counted c (Close n) q is counted = subst IsCounted (sym (ap (λ y. y.1) (close_is c n q is))) (closed_counted c n counted)
step_counted c (Put t r groups) q is counted = stored_counted c (λ n. Written n c.replica) (putting_at c.store t r groups c.replica) q is counted
step_counted c (Delete t name) q is counted = stored_counted c (λ n. Written n c.replica) (deleting_at c.store t name c.replica) q is counted
step_counted c (Merge b) q is counted = stored_counted c Merged (merging c.store b) q is counted
step_counted c Snapshot q is counted = subst IsCounted (sym (ap (λ y. y.1) (stepped_is _ q is))) counted
step_counted c (Rest t names version cluster) q is counted = subst IsCounted (sym (ap (λ y. y.1) (stepped_is _ q is))) counted
step_counted c (Since marks) q is counted = subst IsCounted (sym (ap (λ y. y.1) (stepped_is _ q is))) counted
