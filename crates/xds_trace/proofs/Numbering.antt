-- The streams of the lines of the trace of every legal list of records have numbers that a stream may have.
use Rattle.std.proofs.Common.{◌≡◌, ◌≢◌, inl, inr, ℕ, ◌+◌, ◌<◌, ◌≤◌, List, [], ◌∷◌, map, Bool, true, false, Option, Some, None, Result, Ok, Err, refl, sym, subst, ◌∙◌, arith}
use Rattle.std.specs.Prelude.{if◌then◌else◌, ◌==◌, All}
use Rattle.std.specs.List.{flat_map}
use Rattle.std.specs.Cmp.{nat_cmp_total}
use Rattle.std.specs.FinMap as finmap
use Rattle.std.specs.FinMap.{nat_cmp-IsAntisymmetric}
use Rattle.std.proofs.lemmas.Bool.Decides.{eqb_tells}
use Rattle.std.proofs.lemmas.List.Elements.{All-nil, All-cons, All-append}
use Rattle.xds_resource.specs.declared.types.TypeName.{TypeName}
use Rattle.xds_resource.specs.declared.refusal.Refusal.{Refusal}
use Rattle.xds_resource.specs.declared.refusal.Refusal.TheVariants.{CounterSpent}
use Rattle.xds_resource.specs.PerType.{at}
use Rattle.xds_resource.specs.Resources.{NamedBody, written, deleted}
use Rattle.xds_resource.specs.Stamps.{max_counter}
use Rattle.xds_resource.specs.Types.{types}
use Rattle.xds_resource.specs.Writes.{StampedWrite}
use Rattle.xds_resource.proofs.Refusing.{unless_once, ok_same}
use Rattle.xds_catalogue.proofs.Joining.{below_top}
use Rattle.xds_catalogue.proofs.Lookups.{get-inserted, get-removed}
use Rattle.xds_message.specs.declared.draft.Draft.{Draft}
use Rattle.xds_ledger.specs.declared.outcome.Outcome.{Outcome}
use Rattle.xds_core.specs.Stores.{Store, Batch, if_done, merging, putting_at, deleting_at}
use Rattle.xds_core.specs.Streams.{Stream, Message, opening, requested, looked_at, polled_first, owes_some}
use Rattle.xds_core.specs.Events.{Event, Open, Request, Poll, Owes, Close, Put, Delete, Merge, Snapshot, Rest, Since, Reply, Opened, Answered, Polled, Owed, Closed, Written, Merged}
use Rattle.xds_core.specs.Steps.{Core, Step, step, fresh, with_stream}
use Rattle.xds_core.specs.Legal.{Record, IsLegal, after, answer_of, left_by}
use Rattle.xds_core.proofs.StepLaws.{done_with}
use Rattle.xds_check.specs.declared.line.Line.{Line}
use Rattle.xds_check.specs.declared.line.Line.TheVariants as lines
use Rattle.xds_check.specs.Texts.{HasStream}
use Rattle.xds_check.specs.Words.{IsStream}
use Rattle.xds_trace.specs.Making as making
use Rattle.xds_trace.specs.Making.{Naming, asking_of, write_line, sent_lines, idle_lines, answered_lines, lines_by, lines_of, trace_by}
use Rattle.xds_trace.specs.Claims.{EveryStreamHasANumber}
use Rattle.xds_trace.proofs.Judging.{unless_true}
use Rattle.xds_trace.proofs.Following.{absent}
use Rattle.xds_trace.proofs.Keeping.{stream_found}

-- the open streams have numbers up to the count of those that were opened
pub record IsNumbered (c : Core) : Type 0 where
  pub most : c.opened ≤ max_counter
  pub each : (n : ℕ) (s : Stream) → finmap.get c.streams n ≡ Some s → (1 ≤ n) × (n ≤ c.opened)

-- what an event leaves
abbrev Left : Naming → Event → Reply × Core → Type 0
Left named e q = IsNumbered q.1 × All HasStream (answered_lines named e q.0)

no_lines : All HasStream []
no_lines = All-nil HasStream

one_line : (l : Line) → HasStream l → All HasStream (l ∷ [])
one_line l has = All-cons HasStream l [] has no_lines

write_lines : (t : TypeName) (ws : List StampedWrite) → All HasStream (map (write_line t) ws)
write_lines t [] = no_lines
write_lines t (w ∷ ws) = All-cons HasStream (write_line t w) (map (write_line t) ws) tt (write_lines t ws)

lines_of_types : (b : Batch) (ts : List TypeName) → All HasStream (flat_map (λ t. map (write_line t) (at b t)) ts)
lines_of_types b [] = no_lines
lines_of_types b (t ∷ ts) = All-append HasStream (map (write_line t) (at b t)) (flat_map (λ u. map (write_line u) (at b u)) ts) (write_lines t (at b t)) (lines_of_types b ts)

not_spent : {X : Type 0} (n : ℕ) (b : Bool) (x y : X) → (n == max_counter) ≡ b → ◌≡◌ {A = Result X Refusal} (if b then Err CounterSpent else Ok x) (Ok y) → n ≢ max_counter
not_spent n true x y is ok same = absurd cc
not_spent n false x y is ok same = elim (eqb_tells n max_counter) [ inl equal ↦ unless_true (n == max_counter) is equal.0 | inr other ↦ absurd (other.1 same) ]

module _ (named : Naming) (c : Core) (numbered : IsNumbered c) where
  within : (n : ℕ) (s : Stream) → finmap.get c.streams n ≡ Some s → IsStream n
  within n s has = let bounds = numbered.each n s has in (bounds.0, omega (arith, bounds.1, numbered.most))

  stream_numbered : (n : ℕ) (s left : Stream) → finmap.get c.streams n ≡ Some s → IsNumbered (with_stream c n left)
  stream_numbered n s left has = record {
    most = numbered.most;
    each = λ k x there.
        elim (get-inserted nat_cmp_total nat_cmp-IsAntisymmetric c.streams n left k) [
          | inl same ↦ subst (λ z. (1 ≤ z) × (z ≤ c.opened)) same.0 (numbered.each n s has)
          | inr other ↦ numbered.each k x (sym other.1 ∙ there)
        ];
  }

  numbered_open : (q : Reply × Core) → step c Open ≡ Ok q → Left named Open q
  numbered_open q is =
      let now : Reply × Core = (Opened (c.opened + 1), record c { opened = c.opened + 1; streams = finmap.insert c.streams (c.opened + 1) opening }) in
      let below : c.opened < max_counter = below_top c.opened max_counter numbered.most (not_spent c.opened (c.opened == max_counter) now q refl is) in
      subst (Left named Open) (sym (unless_once (c.opened == max_counter) CounterSpent now q is)) (
        record {
          most = omega (arith, below);
          each = λ k x there.
              elim (get-inserted nat_cmp_total nat_cmp-IsAntisymmetric c.streams (c.opened + 1) opening k) [
                | inl same ↦ (omega (arith, same.0), omega (arith, same.0))
                | inr other ↦ later k (numbered.each k x (sym other.1 ∙ there))
              ];
        },
        one_line (lines.Open (c.opened + 1)) (omega arith, omega (arith, below)),
      )
    where
      later : (k : ℕ) → (1 ≤ k) × (k ≤ c.opened) → (1 ≤ k) × (k ≤ c.opened + 1)
      later k bounds = (bounds.0, omega (arith, bounds.1))

  numbered_request : (n : ℕ) (m : Message) (q : Reply × Core) → step c (Request n m) ≡ Ok q → Left named (Request n m) q
  numbered_request n m q is =
      let there = stream_found (λ s. if_done (λ (p : Outcome × Stream). (Answered p.0, with_stream c n p.1)) (requested s m)) (finmap.get c.streams n) q is in
      let made = done_with (λ (p : Outcome × Stream). (Answered p.0, with_stream c n p.1)) (requested there.0 m) q there.2 in
      subst (Left named (Request n m)) (sym made.2) (stream_numbered n there.0 made.0.1 there.1, one_line (lines.Request n (asking_of m)) (within n there.0 there.1))

  sent_numbered : (n : ℕ) (o : Option Draft) → IsStream n → All HasStream (sent_lines named n o)
  sent_numbered n None is = no_lines
  sent_numbered n (Some d) is = one_line (lines.Response n (making.answer_of named d)) is

  numbered_poll : (n : ℕ) (which : Option TypeName) (q : Reply × Core) → step c (Poll n which) ≡ Ok q → Left named (Poll n which) q
  numbered_poll n which q is =
      let there = stream_found (λ s. if_done (λ (p : Option Draft × Stream). (Polled p.0, with_stream c n p.1)) (polled_first c.replica c.store s (looked_at which))) (finmap.get c.streams n) q is in
      let made = done_with (λ (p : Option Draft × Stream). (Polled p.0, with_stream c n p.1)) (polled_first c.replica c.store there.0 (looked_at which)) q there.2 in
      subst (Left named (Poll n which)) (sym made.2) (stream_numbered n there.0 made.0.1 there.1, sent_numbered n made.0.0 (within n there.0 there.1))

  idle_numbered : (n : ℕ) (which : Option TypeName) (owed : Bool) → IsStream n → All HasStream (idle_lines n which (Owed owed))
  idle_numbered n None owed is = no_lines
  idle_numbered n (Some t) true is = no_lines
  idle_numbered n (Some t) false is = one_line (lines.Idle n t) is

  numbered_owes : (n : ℕ) (which : Option TypeName) (q : Reply × Core) → step c (Owes n which) ≡ Ok q → Left named (Owes n which) q
  numbered_owes n which q is =
      let there = stream_found (λ s. Ok (Owed (owes_some c.store s (looked_at which)), c)) (finmap.get c.streams n) q is in
      subst (Left named (Owes n which)) (sym (ok_same _ q there.2)) (numbered, idle_numbered n which (owes_some c.store there.0 (looked_at which)) (within n there.0 there.1))

  numbered_close : (n : ℕ) (q : Reply × Core) → step c (Close n) ≡ Ok q → Left named (Close n) q
  numbered_close n q is =
      let there = stream_found (λ s. Ok (Closed, record c { streams = finmap.remove c.streams n })) (finmap.get c.streams n) q is in
      subst (Left named (Close n)) (sym (ok_same _ q there.2)) (
        record {
          most = numbered.most;
          each = λ k x has.
              elim (get-removed nat_cmp_total nat_cmp-IsAntisymmetric c.streams n k) [
                | inl gone ↦ absurd (differ (sym gone.1 ∙ has))
                | inr other ↦ numbered.each k x (sym other.1 ∙ has)
              ];
        },
        one_line (lines.Close n) (within n there.0 there.1),
      )
    where
      differ : {x : Stream} → None ≡ Some x → ⊥
      differ e = cc

  numbered_put : (t : TypeName) (r : NamedBody) (groups : List (List ℕ)) (q : Reply × Core) → step c (Put t r groups) ≡ Ok q → Left named (Put t r groups) q
  numbered_put t r groups q is =
      let made = done_with (λ (p : ℕ × Store). (Written p.0 c.replica, record c { store = p.1 })) (putting_at c.store t r groups c.replica) q is in
      subst (Left named (Put t r groups)) (sym made.2) (record { most = numbered.most; each = numbered.each }, one_line (write_line t (written made.0.0 c.replica r groups)) tt)

  numbered_delete : (t : TypeName) (name : List ℕ) (q : Reply × Core) → step c (Delete t name) ≡ Ok q → Left named (Delete t name) q
  numbered_delete t name q is =
      let made = done_with (λ (p : ℕ × Store). (Written p.0 c.replica, record c { store = p.1 })) (deleting_at c.store t name c.replica) q is in
      subst (Left named (Delete t name)) (sym made.2) (record { most = numbered.most; each = numbered.each }, one_line (write_line t (deleted made.0.0 c.replica name)) tt)

  numbered_merge : (b : Batch) (q : Reply × Core) → step c (Merge b) ≡ Ok q → Left named (Merge b) q
  numbered_merge b q is =
      let made = done_with (λ (p : ℕ × Store). (Merged p.0, record c { store = p.1 })) (merging c.store b) q is in
      subst (Left named (Merge b)) (sym made.2) (record { most = numbered.most; each = numbered.each }, lines_of_types b types)

  event_numbered : (e : Event) (q : Reply × Core) → step c e ≡ Ok q → Left named e q
  event_numbered Open q is = numbered_open q is
  event_numbered (Request n m) q is = numbered_request n m q is
  event_numbered (Poll n which) q is = numbered_poll n which q is
  event_numbered (Owes n which) q is = numbered_owes n which q is
  event_numbered (Close n) q is = numbered_close n q is
  event_numbered (Put t r groups) q is = numbered_put t r groups q is
  event_numbered (Delete t name) q is = numbered_delete t name q is
  event_numbered (Merge b) q is = numbered_merge b q is
  event_numbered Snapshot q is = (subst (λ (p : Reply × Core). IsNumbered p.1) (sym (ok_same _ q is)) numbered, no_lines)
  event_numbered (Rest t names version cluster) q is = (subst (λ (p : Reply × Core). IsNumbered p.1) (sym (ok_same _ q is)) numbered, no_lines)
  event_numbered (Since marks) q is = (subst (λ (p : Reply × Core). IsNumbered p.1) (sym (ok_same _ q is)) numbered, no_lines)

  step_numbered : (e : Event) (s : Step) → step c e ≡ s → IsNumbered (left_by c s) × All HasStream (lines_by named e (answer_of s))
  step_numbered e (Ok q) is = event_numbered e q is
  step_numbered e (Err refusal) is = (numbered, no_lines)

records_numbered : (named : Naming) (rs : List Record) (c : Core) → IsNumbered c → IsLegal c rs → All HasStream (trace_by named rs)
records_numbered named [] c numbered legal = no_lines
records_numbered named (r ∷ rs) c numbered legal =
    let made = step_numbered named c numbered r.event (step c r.event) refl in
    All-append HasStream (lines_of named r) (trace_by named rs) (subst (λ a. All HasStream (lines_by named r.event a)) legal.0 made.1) (records_numbered named rs (after c r.event) made.0 legal.1)

pub every_stream_has_a_number : EveryStreamHasANumber
every_stream_has_a_number named replica rs legal = records_numbered named rs (fresh replica) (record { most = omega arith; each = λ n s has. absent n s has }) legal
