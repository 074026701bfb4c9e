-- Proofs of the laws of steps and of lists of records.
use Rattle.std.proofs.Common.{◌≡◌, ◌≢◌, ◌⊎◌, inl, inr, ℕ, ◌+◌, ◌≤◌, List, [], ◌∷◌, ◌++◌, Bool, true, false, Option, Some, None, Result, Ok, Err, refl, sym, ap, subst, ◌∙◌, arith}
use Rattle.std.specs.Prelude.{◌==◌, if◌then◌else◌, not}
use Rattle.std.proofs.lemmas.List.Elements.{Contains-append_left}
use Rattle.std.specs.Option.{option_map_or}
use Rattle.std.specs.Ordering.{nat_cmp}
use Rattle.std.specs.Cmp.{nat_cmp_total}
use Rattle.std.specs.FinMap as finmap
use Rattle.std.specs.FinMap.{FinMap, nat_cmp-IsAntisymmetric}
use Rattle.xds_resource.specs.declared.types.TypeName.{TypeName}
use Rattle.xds_resource.specs.declared.types.TypeName.TheVariants.{Cluster, Endpoint, Listener, Route, Secret}
use Rattle.xds_resource.specs.declared.refusal.Refusal.{Refusal}
use Rattle.xds_resource.specs.declared.refusal.Refusal.TheVariants.{NoStream, CounterSpent, NotFound}
use Rattle.xds_resource.specs.PerType.{at, with_at}
use Rattle.xds_resource.specs.Resources.{NamedBody, written, deleted}
use Rattle.xds_resource.specs.Stamps.{max_counter}
use Rattle.xds_resource.specs.Types.{is_same_type}
use Rattle.xds_resource.proofs.TypesApart.{at-with_at, at-with_at_other, same_type}
use Rattle.xds_resource.proofs.Refusing.{unless_twice, unless_thrice, unless_once}
use Rattle.xds_resource.specs.Writes.{StampedWrite}
use Rattle.xds_catalogue.specs.Holdings.{Holdings, Entries}
use Rattle.xds_catalogue.specs.Joins.{joined}
use Rattle.xds_catalogue.specs.Local.{greatest_counter, greatest_counter_of, next_counter, putting, deleting, has_live}
use Rattle.xds_catalogue.proofs.Counters.{counter-le, greatest_counter_of-le, greatest_counter-held}
use Rattle.xds_catalogue.proofs.Lookups.{get-inserted, get-removed}
use Rattle.xds_events.specs.Stores.{Store, Batch, merging, putting_at, deleting_at, if_done, is_spent, grown, merged}
use Rattle.xds_events.specs.Streams.{Stream, opening, requested, looked_at, polled_first, owes_some}
use Rattle.xds_events.specs.Events.{Event, Open, Request, Poll, Owes, Close, Put, Delete, Merge, Snapshot, Rest, Since, Reply, Opened, Answered, Polled, Owed, Closed, Written, Merged}
use Rattle.xds_events.specs.Steps.{Core, step, stream_step, with_stream}
use Rattle.xds_events.specs.Legal.{after, left_by, answer_of, IsLegal}
use Rattle.xds_core.specs.Laws.{RefusalsChangeNothing, BeginningsAreLegal, EndsAreLegal, EventsDecide, StreamsStandApart, is_write, OnlyWritesChangeTheStore, NumberStays, CountersNeverFall, OwnCountersRise, OwnDeletionsRise}

-- rule: refused-event
pub refusals_change_nothing : RefusalsChangeNothing
refusals_change_nothing c e refusal is = ap (left_by c) is

pub beginnings_are_legal : BeginningsAreLegal
beginnings_are_legal c [] ss legal = tt
beginnings_are_legal c (r ∷ rs) ss legal = (legal.0, beginnings_are_legal (after c r.event) rs ss legal.1)

pub ends_are_legal : EndsAreLegal
ends_are_legal c [] ss legal = legal
ends_are_legal c (r ∷ rs) ss legal = ends_are_legal (after c r.event) rs ss legal.1

abbrev head_or : {X : Type 0} → X → List X → X
head_or x [] = x
head_or x (y ∷ ys) = y

abbrev tail_of : {X : Type 0} → List X → List X
tail_of [] = []
tail_of (y ∷ ys) = ys

pub events_decide : EventsDecide
events_decide c [] [] same left right = refl
events_decide c [] (s ∷ ss) same left right = absurd cc
events_decide c (r ∷ rs) [] same left right = absurd cc
events_decide c (r ∷ rs) (s ∷ ss) same left right =
    let event : r.event ≡ s.event = ap (head_or r.event) same in
    let answer : r.answer ≡ s.answer = sym left.0 ∙ ap (λ e. answer_of (step c e)) event ∙ right.0 in
    let later = events_decide (after c r.event) rs ss (ap tail_of same) left.1 (subst (λ e. IsLegal (after c e) ss) (sym event) right.1) in
    (λ i. record { event = event i; answer = answer i } ∷ later i)

-- ---- what a step of a stream leaves

module _ {X : Type 0} (c : Core) (n : ℕ) (reply : X → Reply) (f : Stream → Result (X × Stream) Refusal) where
  kept_by : {Y : Type 0} (look : Core → Y) → ((s : Stream) → look (with_stream c n s) ≡ look c) → (r : Result (X × Stream) Refusal) → look (left_by c (if_done (λ p. (reply p.0, with_stream c n p.1)) r)) ≡ look c
  kept_by look same (Ok p) = same p.1
  kept_by look same (Err e) = refl

  kept_at : {Y : Type 0} (look : Core → Y) → ((s : Stream) → look (with_stream c n s) ≡ look c) → (o : Option Stream) → look (left_by c (option_map_or (λ s. if_done (λ p. (reply p.0, with_stream c n p.1)) (f s)) o (Err NoStream))) ≡ look c
  kept_at look same None = refl
  kept_at look same (Some s) = kept_by look same (f s)

  -- what no stream's change changes
  stream_keeps : {Y : Type 0} (look : Core → Y) → ((s : Stream) → look (with_stream c n s) ≡ look c) → look (left_by c (stream_step c n reply f)) ≡ look c
  stream_keeps look same = kept_at look same (finmap.get c.streams n)

looked_at_kept : {Y : Type 0} (look : Core → Y) (c : Core) (f : Stream → Reply) (o : Option Stream) → look (left_by c (option_map_or (λ s. Ok (f s, c)) o (Err NoStream))) ≡ look c
looked_at_kept look c f None = refl
looked_at_kept look c f (Some s) = refl

closed_keeps : {Y : Type 0} (look : Core → Y) (c : Core) (n : ℕ) (r : Reply) → look (record c { streams = finmap.remove c.streams n }) ≡ look c → (o : Option Stream)
    → look (left_by c (option_map_or (λ s. Ok (r, record c { streams = finmap.remove c.streams n })) o (Err NoStream))) ≡ look c
closed_keeps look c n r same None = refl
closed_keeps look c n r same (Some s) = same

opened_keeps : {Y : Type 0} (look : Core → Y) (c left : Core) (r : Reply) (spent : Bool) → look left ≡ look c → look (left_by c (if spent then Err CounterSpent else Ok (r, left))) ≡ look c
opened_keeps look c left r true same = refl
opened_keeps look c left r false same = same

stored_keeps : {Y : Type 0} {N : Type 0} (look : Core → Y) (c : Core) (reply : N → Reply) → ((s : Store) → look (record c { store = s }) ≡ look c) → (r : Result (N × Store) Refusal) → look (left_by c (if_done (λ p. (reply p.0, record c { store = p.1 })) r)) ≡ look c
stored_keeps look c reply same (Ok p) = same p.1
stored_keeps look c reply same (Err e) = refl

-- a stream opens
abbrev pub opened_to : Core → Core
opened_to c = record c { opened = c.opened + 1; streams = finmap.insert c.streams (c.opened + 1) opening }

pub number_stays : NumberStays
number_stays c Open = opened_keeps (λ k. k.replica) c (opened_to c) (Opened (c.opened + 1)) (c.opened == max_counter) refl
number_stays c (Request n m) = stream_keeps c n Answered (λ s. requested s m) (λ k. k.replica) (λ s. refl)
number_stays c (Poll n which) = stream_keeps c n Polled (λ s. polled_first c.replica c.store s (looked_at which)) (λ k. k.replica) (λ s. refl)
number_stays c (Owes n which) = looked_at_kept (λ k. k.replica) c (λ s. Owed (owes_some c.store s (looked_at which))) (finmap.get c.streams n)
number_stays c (Close n) = closed_keeps (λ k. k.replica) c n Closed refl (finmap.get c.streams n)
number_stays c (Put t r groups) = stored_keeps (λ k. k.replica) c (λ n. Written n c.replica) (λ s. refl) (putting_at c.store t r groups c.replica)
number_stays c (Delete t name) = stored_keeps (λ k. k.replica) c (λ n. Written n c.replica) (λ s. refl) (deleting_at c.store t name c.replica)
number_stays c (Merge b) = stored_keeps (λ k. k.replica) c Merged (λ s. refl) (merging c.store b)
number_stays c Snapshot = refl
number_stays c (Rest t names version cluster) = refl
number_stays c (Since marks) = refl

pub only_writes_change_the_store : OnlyWritesChangeTheStore
only_writes_change_the_store c Open other = opened_keeps (λ k. k.store) c (opened_to c) (Opened (c.opened + 1)) (c.opened == max_counter) refl
only_writes_change_the_store c (Request n m) other = stream_keeps c n Answered (λ s. requested s m) (λ k. k.store) (λ s. refl)
only_writes_change_the_store c (Poll n which) other = stream_keeps c n Polled (λ s. polled_first c.replica c.store s (looked_at which)) (λ k. k.store) (λ s. refl)
only_writes_change_the_store c (Owes n which) other = looked_at_kept (λ k. k.store) c (λ s. Owed (owes_some c.store s (looked_at which))) (finmap.get c.streams n)
only_writes_change_the_store c (Close n) other = closed_keeps (λ k. k.store) c n Closed refl (finmap.get c.streams n)
only_writes_change_the_store c (Put t r groups) other = absurd cc
only_writes_change_the_store c (Delete t name) other = absurd cc
only_writes_change_the_store c (Merge b) other = absurd cc
only_writes_change_the_store c Snapshot other = refl
only_writes_change_the_store c (Rest t names version cluster) other = refl
only_writes_change_the_store c (Since marks) other = refl

-- another number keeps its stream
put_elsewhere : (m : FinMap nat_cmp Stream) (k n : ℕ) (s : Stream) → Some k ≢ Some n → finmap.get (finmap.insert m k s) n ≡ finmap.get m n
put_elsewhere m k n s other =
    elim (get-inserted nat_cmp_total nat_cmp-IsAntisymmetric m k s n) [
      | inl here ↦ absurd (other (ap Some here.0))
      | inr there ↦ there.1
    ]

taken_elsewhere : (m : FinMap nat_cmp Stream) (k n : ℕ) → Some k ≢ Some n → finmap.get (finmap.remove m k) n ≡ finmap.get m n
taken_elsewhere m k n other =
    elim (get-removed nat_cmp_total nat_cmp-IsAntisymmetric m k n) [
      | inl here ↦ absurd (other (ap Some here.0))
      | inr there ↦ there.1
    ]

pub streams_stand_apart : StreamsStandApart
streams_stand_apart c Open n other =
    opened_keeps (λ k. finmap.get k.streams n) c (opened_to c) (Opened (c.opened + 1)) (c.opened == max_counter) (put_elsewhere c.streams (c.opened + 1) n opening other)
streams_stand_apart c (Request k m) n other = stream_keeps c k Answered (λ s. requested s m) (λ k. finmap.get k.streams n) (λ s. put_elsewhere c.streams k n s other)
streams_stand_apart c (Poll k which) n other = stream_keeps c k Polled (λ s. polled_first c.replica c.store s (looked_at which)) (λ k. finmap.get k.streams n) (λ s. put_elsewhere c.streams k n s other)
streams_stand_apart c (Owes k which) n other = looked_at_kept (λ k. finmap.get k.streams n) c (λ s. Owed (owes_some c.store s (looked_at which))) (finmap.get c.streams k)
streams_stand_apart c (Close k) n other = closed_keeps (λ k. finmap.get k.streams n) c k Closed (taken_elsewhere c.streams k n other) (finmap.get c.streams k)
streams_stand_apart c (Put t r groups) n other = stored_keeps (λ k. finmap.get k.streams n) c (λ n. Written n c.replica) (λ s. refl) (putting_at c.store t r groups c.replica)
streams_stand_apart c (Delete t name) n other = stored_keeps (λ k. finmap.get k.streams n) c (λ n. Written n c.replica) (λ s. refl) (deleting_at c.store t name c.replica)
streams_stand_apart c (Merge b) n other = stored_keeps (λ k. finmap.get k.streams n) c Merged (λ s. refl) (merging c.store b)
streams_stand_apart c Snapshot n other = refl
streams_stand_apart c (Rest t names version cluster) n other = refl
streams_stand_apart c (Since marks) n other = refl

-- ---- counters

greatest_first : (vs ws : List StampedWrite) → greatest_counter_of vs ≤ greatest_counter_of (vs ++ ws)
greatest_first vs ws = greatest_counter_of-le (greatest_counter_of (vs ++ ws)) vs (λ w among. counter-le (vs ++ ws) w (Contains-append_left vs ws w among))

-- a join never lowers the greatest counter
pub greatest_joined : (h : Holdings) (ws : List StampedWrite) → greatest_counter h.entries ≤ greatest_counter (joined h ws).entries
greatest_joined h ws = subst (λ n. greatest_counter h.entries ≤ n) (sym (greatest_counter-held (finmap.values h.entries ++ ws))) (greatest_first (finmap.values h.entries) ws)

same_counter : (m : Entries) → greatest_counter m ≤ greatest_counter m
same_counter m = omega arith

placed_by : (p : Store) (t s : TypeName) (h : Holdings) → greatest_counter (at p t).entries ≤ greatest_counter h.entries → ((s ≡ t) × (is_same_type s t ≡ true)) ⊎ ((s ≢ t) × (is_same_type s t ≡ false)) → greatest_counter (at p s).entries ≤ greatest_counter (at (with_at p t h) s).entries
placed_by p t s h le (inl same) =
    subst (λ u. greatest_counter (at p u).entries ≤ greatest_counter (at (with_at p t h) u).entries) (sym same.0)
    (subst (λ (k : Holdings). greatest_counter (at p t).entries ≤ greatest_counter k.entries) (sym (at-with_at p t h)) le)
placed_by p t s h le (inr other) =
    subst (λ (k : Holdings). greatest_counter (at p s).entries ≤ greatest_counter k.entries) (sym (at-with_at_other p t h s other.0)) (same_counter (at p s).entries)

placed_at : (p : Store) (t s : TypeName) (h : Holdings) → greatest_counter (at p t).entries ≤ greatest_counter h.entries → greatest_counter (at p s).entries ≤ greatest_counter (at (with_at p t h) s).entries
placed_at p t s h le = placed_by p t s h le (same_type s t)

merged_at : (p : Store) (b : Batch) (t : TypeName) → greatest_counter (at p t).entries ≤ greatest_counter (at (merged p b) t).entries
merged_at p b Cluster = greatest_joined p.cluster b.cluster
merged_at p b Endpoint = greatest_joined p.endpoint b.endpoint
merged_at p b Listener = greatest_joined p.listener b.listener
merged_at p b Route = greatest_joined p.route b.route
merged_at p b Secret = greatest_joined p.secret b.secret

abbrev Rises : Store → TypeName → Core → Type 0
Rises p s c = greatest_counter (at p s).entries ≤ greatest_counter (at c.store s).entries

-- what a write leaves, from what its parts leave
written_rises : {N : Type 0} (c : Core) (reply : N → Reply) (s : TypeName) (r : Result (N × Store) Refusal) → ((p : N × Store) → r ≡ Ok p → greatest_counter (at c.store s).entries ≤ greatest_counter (at p.1 s).entries)
    → Rises c.store s (left_by c (if_done (λ p. (reply p.0, record c { store = p.1 })) r))
written_rises c reply s (Ok p) rises = rises p refl
written_rises c reply s (Err e) rises = same_counter (at c.store s).entries

pub done_with : {X Y : Type 0} (f : X → Y) (r : Result X Refusal) (y : Y) → if_done f r ≡ Ok y → (x : X) × (r ≡ Ok x) × (y ≡ f x)
done_with f (Ok x) y is = (x, refl, cc)
done_with f (Err e) y is = absurd cc

pub put_is : (p : Store) (t : TypeName) (r : NamedBody) (groups : List (List ℕ)) (writer : ℕ) (q : ℕ × Store) → putting_at p t r groups writer ≡ Ok q → (q.0 ≡ next_counter (at p t)) × (q.1 ≡ with_at p t (joined (at p t) (written (next_counter (at p t)) writer r groups ∷ [])))
put_is p t r groups writer q is =
    let made = done_with (λ x. (x.0, with_at p t x.1)) (putting (at p t) r groups writer) q is in
    let which = unless_twice (greatest_counter (at p t).entries == max_counter) ((at p t).changes == max_counter) CounterSpent CounterSpent (next_counter (at p t), joined (at p t) (written (next_counter (at p t)) writer r groups ∷ [])) made.0 made.1 in
    (ap (λ x. x.0) made.2 ∙ ap (λ x. x.0) which, ap (λ x. x.1) made.2 ∙ ap (λ x. with_at p t x.1) which)

pub delete_is : (p : Store) (t : TypeName) (name : List ℕ) (writer : ℕ) (q : ℕ × Store) → deleting_at p t name writer ≡ Ok q → (q.0 ≡ next_counter (at p t)) × (q.1 ≡ with_at p t (joined (at p t) (deleted (next_counter (at p t)) writer name ∷ [])))
delete_is p t name writer q is =
    let made = done_with (λ x. (x.0, with_at p t x.1)) (deleting (at p t) name writer) q is in
    let which = unless_thrice (not (has_live (at p t).entries name)) (greatest_counter (at p t).entries == max_counter) ((at p t).changes == max_counter) NotFound CounterSpent CounterSpent (next_counter (at p t), joined (at p t) (deleted (next_counter (at p t)) writer name ∷ [])) made.0 made.1 in
    (ap (λ x. x.0) made.2 ∙ ap (λ x. x.0) which, ap (λ x. x.1) made.2 ∙ ap (λ x. with_at p t x.1) which)

kept_counter : (c : Core) (e : Event) (s : TypeName) → is_write e ≡ false → Rises c.store s (after c e)
kept_counter c e s other = subst (λ (p : Store). greatest_counter (at c.store s).entries ≤ greatest_counter (at p s).entries) (sym (only_writes_change_the_store c e other)) (same_counter (at c.store s).entries)

pub counters_never_fall : CountersNeverFall
counters_never_fall c Open s = kept_counter c Open s refl
counters_never_fall c (Request n m) s = kept_counter c (Request n m) s refl
counters_never_fall c (Poll n which) s = kept_counter c (Poll n which) s refl
counters_never_fall c (Owes n which) s = kept_counter c (Owes n which) s refl
counters_never_fall c (Close n) s = kept_counter c (Close n) s refl
counters_never_fall c Snapshot s = kept_counter c Snapshot s refl
counters_never_fall c (Rest t names version cluster) s = kept_counter c (Rest t names version cluster) s refl
counters_never_fall c (Since marks) s = kept_counter c (Since marks) s refl
counters_never_fall c (Put t r groups) s =
    written_rises c (λ n. Written n c.replica) s (putting_at c.store t r groups c.replica)
    (λ p is. subst (λ (q : Store). greatest_counter (at c.store s).entries ≤ greatest_counter (at q s).entries) (sym (put_is c.store t r groups c.replica p is).1)
    (placed_at c.store t s (joined (at c.store t) (written (next_counter (at c.store t)) c.replica r groups ∷ [])) (greatest_joined (at c.store t) _)))
counters_never_fall c (Delete t name) s =
    written_rises c (λ n. Written n c.replica) s (deleting_at c.store t name c.replica)
    (λ p is. subst (λ (q : Store). greatest_counter (at c.store s).entries ≤ greatest_counter (at q s).entries) (sym (delete_is c.store t name c.replica p is).1)
    (placed_at c.store t s (joined (at c.store t) (deleted (next_counter (at c.store t)) c.replica name ∷ [])) (greatest_joined (at c.store t) _)))
counters_never_fall c (Merge b) s =
    written_rises c Merged s (merging c.store b)
    (λ p is. subst (λ (q : Store). greatest_counter (at c.store s).entries ≤ greatest_counter (at q s).entries) (sym (ap (λ x. x.1) (unless_once (is_spent c.store b) CounterSpent (grown c.store b, merged c.store b) p is))) (merged_at c.store b s))

written_counter : (a b k l : ℕ) → Written a b ≡ Written k l → a ≡ k
written_counter a b k l is = cc

pub own_counters_rise : OwnCountersRise
own_counters_rise c left t r groups counter writer is =
    let made = done_with (λ p. (Written p.0 c.replica, record c { store = p.1 })) (putting_at c.store t r groups c.replica) (Written counter writer, left) is in
    written_counter counter writer made.0.0 c.replica (ap (λ x. x.0) made.2) ∙ (put_is c.store t r groups c.replica made.0 made.1).0

-- rule: tombstones
pub own_deletions_rise : OwnDeletionsRise
own_deletions_rise c left t name counter writer is =
    let made = done_with (λ p. (Written p.0 c.replica, record c { store = p.1 })) (deleting_at c.store t name c.replica) (Written counter writer, left) is in
    written_counter counter writer made.0.0 c.replica (ap (λ x. x.0) made.2) ∙ (delete_is c.store t name c.replica made.0 made.1).0
