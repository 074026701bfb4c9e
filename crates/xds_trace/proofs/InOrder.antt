-- The lines of the trace of every legal list of records stand in an order that a trace may have.
use Rattle.std.proofs.Common.{◌≡◌, ℕ, ◌+◌, List, [], ◌∷◌, ◌++◌, reverse, Bool, true, false, Option, Some, None, Ok, Err, refl, sym, ap, subst, arith, append-nil}
use Rattle.std.specs.Prelude.{◌==◌, is_none}
use Rattle.std.specs.Option.{unwrap_or}
use Rattle.std.specs.FinMap as finmap
use Rattle.xds_resource.specs.declared.types.TypeName.{TypeName}
use Rattle.xds_resource.specs.declared.refusal.Refusal.TheVariants.{CounterSpent}
use Rattle.xds_resource.specs.Resources.{NamedBody}
use Rattle.xds_resource.specs.Stamps.{max_counter}
use Rattle.xds_resource.specs.Types.{types}
use Rattle.xds_resource.proofs.Refusing.{unless_once, ok_same}
use Rattle.xds_message.specs.declared.draft.Draft.{Draft}
use Rattle.xds_ledger.specs.declared.outcome.Outcome.{Outcome}
use Rattle.xds_core.specs.Stores.{Store, Batch, if_done, merging, putting_at, deleting_at}
use Rattle.xds_core.specs.Streams.{Stream, Message, opening, requested, looked_at, polled_first, owes_some}
use Rattle.xds_core.specs.Events.{Event, Open, Request, Poll, Owes, Close, Put, Delete, Merge, Snapshot, Rest, Since, Reply, Opened, Answered, Polled, Owed, Closed, Written, Merged}
use Rattle.xds_core.specs.Steps.{Core, Step, step, fresh, with_stream}
use Rattle.xds_core.specs.Legal.{Record, IsLegal, after, answer_of, left_by}
use Rattle.xds_core.proofs.StepLaws.{done_with}
use Rattle.xds_check.specs.declared.line.Line.{Line}
use Rattle.xds_check.specs.declared.line.Line.TheVariants as lines
use Rattle.xds_check.specs.Streams.{AllFollow}
use Rattle.xds_trace.specs.Making as making
use Rattle.xds_trace.specs.Making.{Naming, asking_of, batch_lines, answered_lines, lines_by, lines_of, trace_by}
use Rattle.xds_trace.specs.Claims.{EveryLegalTraceIsInOrder}
use Rattle.xds_trace.proofs.StreamPolls.{polled_some, polled_none}
use Rattle.xds_trace.proofs.Tracing.{behind}
use Rattle.xds_trace.proofs.Following.{absent}
use Rattle.xds_trace.proofs.Keeping.{stream_found}
use Rattle.xds_trace.proofs.Speaking.{Orders, stream_ordered, stream_back, line_ordered, open_ordered, close_ordered, mute_idle, mute_request, mute_response, request_speaks, response_speaks, AreFree, free_reverse, free_flat, follow_free, writes_ordered}

-- what an event leaves
abbrev Left : Naming → Event → List Line → Reply × Core → Type 0
Left named e ls q = Orders q.1 (reverse (answered_lines named e q.0) ++ ls) × (AllFollow ls → AllFollow (reverse (answered_lines named e q.0) ++ ls))

-- ---- events

module _ (named : Naming) (c : Core) (ls : List Line) (orders : Orders c ls) where
  no_line : (e : Event) (q : Reply × Core) → answered_lines named e q.0 ≡ [] → Orders q.1 ls → Left named e ls q
  no_line e q none kept = subst (λ l. Orders q.1 (reverse l ++ ls) × (AllFollow ls → AllFollow (reverse l ++ ls))) (sym none) (kept, λ all. all)

  ordered_request : (n : ℕ) (m : Message) (q : Reply × Core) → step c (Request n m) ≡ Ok q → Left named (Request n m) ls q
  ordered_request n m q is =
      let there = stream_found (λ s. if_done (λ (p : Outcome × Stream). (Answered p.0, with_stream c n p.1)) (requested s m)) (finmap.get c.streams n) q is in
      let made = done_with (λ (p : Outcome × Stream). (Answered p.0, with_stream c n p.1)) (requested there.0 m) q there.2 in
      let speaks = request_speaks n there.0 m made.0 ls made.1 (orders.speaks n there.0 there.1) in
      subst (Left named (Request n m) ls) (sym made.2)
      (stream_ordered c ls orders n there.0 made.0.1 (lines.Request n (asking_of m)) there.1 speaks.0 (λ k other. mute_request k n m other), λ all. (speaks.1, all))

  polled_ordered : (n : ℕ) (which : Option TypeName) (s left : Stream) (o : Option Draft) → finmap.get c.streams n ≡ Some s → polled_first c.replica c.store s (looked_at which) ≡ Ok (o, left) → Left named (Poll n which) ls (Polled o, with_stream c n left)
  polled_ordered n which s left None has is = (stream_back c ls orders n s left has (polled_none c.replica c.store s (looked_at which) left is), λ all. all)
  polled_ordered n which s left (Some d) has is =
      let speaks = response_speaks named n c.replica c.store s d left ls (polled_some c.replica c.store s (looked_at which) d left is) (orders.speaks n s has) in
      (stream_ordered c ls orders n s left (lines.Response n (making.answer_of named d)) has speaks.0 (λ k other. mute_response k n (making.answer_of named d) other), λ all. (speaks.1, all))

  ordered_poll : (n : ℕ) (which : Option TypeName) (q : Reply × Core) → step c (Poll n which) ≡ Ok q → Left named (Poll n which) ls q
  ordered_poll n which q is =
      let there = stream_found (λ s. if_done (λ (p : Option Draft × Stream). (Polled p.0, with_stream c n p.1)) (polled_first c.replica c.store s (looked_at which))) (finmap.get c.streams n) q is in
      let made = done_with (λ (p : Option Draft × Stream). (Polled p.0, with_stream c n p.1)) (polled_first c.replica c.store there.0 (looked_at which)) q there.2 in
      subst (Left named (Poll n which) ls) (sym made.2) (polled_ordered n which there.0 made.0.1 made.0.0 there.1 made.1)

  idle_ordered : (n : ℕ) (t : TypeName) (s : Stream) (owed : Bool) → finmap.get c.streams n ≡ Some s → Left named (Owes n (Some t)) ls (Owed owed, c)
  idle_ordered n t s true has = (orders, λ all. all)
  idle_ordered n t s false has = (line_ordered c ls orders (lines.Idle n t) (λ k. mute_idle k n t), λ all. (ap (λ o. unwrap_or o false) (orders.speaks n s has).standing, all))

  owes_ordered : (n : ℕ) (which : Option TypeName) (s : Stream) → finmap.get c.streams n ≡ Some s → Left named (Owes n which) ls (Owed (owes_some c.store s (looked_at which)), c)
  owes_ordered n None s has = (orders, λ all. all)
  owes_ordered n (Some t) s has = idle_ordered n t s (owes_some c.store s (t ∷ [])) has

  ordered_owes : (n : ℕ) (which : Option TypeName) (q : Reply × Core) → step c (Owes n which) ≡ Ok q → Left named (Owes n which) ls q
  ordered_owes n which q is =
      let there = stream_found (λ s. Ok (Owed (owes_some c.store s (looked_at which)), c)) (finmap.get c.streams n) q is in
      subst (Left named (Owes n which) ls) (sym (ok_same _ q there.2)) (owes_ordered n which there.0 there.1)

  ordered_close : (n : ℕ) (q : Reply × Core) → step c (Close n) ≡ Ok q → Left named (Close n) ls q
  ordered_close n q is =
      let there = stream_found (λ s. Ok (Closed, record c { streams = finmap.remove c.streams n })) (finmap.get c.streams n) q is in
      subst (Left named (Close n) ls) (sym (ok_same _ q there.2))
      (close_ordered c ls orders n there.0 there.1, λ all. (ap (λ o. unwrap_or o false) (orders.speaks n there.0 there.1).standing, all))

  ordered_open : (q : Reply × Core) → step c Open ≡ Ok q → Left named Open ls q
  ordered_open q is =
      subst (Left named Open ls) (sym (unless_once (c.opened == max_counter) CounterSpent (Opened (c.opened + 1), record c { opened = c.opened + 1; streams = finmap.insert c.streams (c.opened + 1) opening }) q is))
      (open_ordered c ls orders, λ all. (ap is_none (orders.unopened (c.opened + 1) (omega arith)).standing, all))

  ordered_put : (t : TypeName) (r : NamedBody) (groups : List (List ℕ)) (q : Reply × Core) → step c (Put t r groups) ≡ Ok q → Left named (Put t r groups) ls q
  ordered_put t r groups q is =
      let made = done_with (λ (p : ℕ × Store). (Written p.0 c.replica, record c { store = p.1 })) (putting_at c.store t r groups c.replica) q is in
      subst (Left named (Put t r groups) ls) (sym made.2)
      (line_ordered (record c { store = made.0.1 }) ls (writes_ordered c (record c { store = made.0.1 }) ls [] refl refl tt orders) _ (λ k. record { standing = refl; delta = refl }), λ all. (refl, all))

  ordered_delete : (t : TypeName) (name : List ℕ) (q : Reply × Core) → step c (Delete t name) ≡ Ok q → Left named (Delete t name) ls q
  ordered_delete t name q is =
      let made = done_with (λ (p : ℕ × Store). (Written p.0 c.replica, record c { store = p.1 })) (deleting_at c.store t name c.replica) q is in
      subst (Left named (Delete t name) ls) (sym made.2)
      (line_ordered (record c { store = made.0.1 }) ls (writes_ordered c (record c { store = made.0.1 }) ls [] refl refl tt orders) _ (λ k. record { standing = refl; delta = refl }), λ all. (refl, all))

  ordered_merge : (b : Batch) (q : Reply × Core) → step c (Merge b) ≡ Ok q → Left named (Merge b) ls q
  ordered_merge b q is =
      let made = done_with (λ (p : ℕ × Store). (Merged p.0, record c { store = p.1 })) (merging c.store b) q is in
      let free : AreFree (reverse (batch_lines b)) = free_reverse (batch_lines b) (free_flat b types) in
      subst (Left named (Merge b) ls) (sym made.2)
      (writes_ordered c (record c { store = made.0.1 }) ls (reverse (batch_lines b)) refl refl free orders, λ all. follow_free (reverse (batch_lines b)) ls free all)

  pub event_ordered : (e : Event) (q : Reply × Core) → step c e ≡ Ok q → Left named e ls q
  event_ordered Open q is = ordered_open q is
  event_ordered (Request n m) q is = ordered_request n m q is
  event_ordered (Poll n which) q is = ordered_poll n which q is
  event_ordered (Owes n which) q is = ordered_owes n which q is
  event_ordered (Close n) q is = ordered_close n q is
  event_ordered (Put t r groups) q is = ordered_put t r groups q is
  event_ordered (Delete t name) q is = ordered_delete t name q is
  event_ordered (Merge b) q is = ordered_merge b q is
  event_ordered Snapshot q is = no_line Snapshot q refl (subst (λ (p : Reply × Core). Orders p.1 ls) (sym (ok_same _ q is)) orders)
  event_ordered (Rest t names version cluster) q is = no_line (Rest t names version cluster) q refl (subst (λ (p : Reply × Core). Orders p.1 ls) (sym (ok_same _ q is)) orders)
  event_ordered (Since marks) q is = no_line (Since marks) q refl (subst (λ (p : Reply × Core). Orders p.1 ls) (sym (ok_same _ q is)) orders)

-- ---- lists of records

step_ordered : (named : Naming) (c : Core) (ls : List Line) (e : Event) (s : Step) → Orders c ls → AllFollow ls → step c e ≡ s
    → Orders (left_by c s) (reverse (lines_by named e (answer_of s)) ++ ls) × AllFollow (reverse (lines_by named e (answer_of s)) ++ ls)
step_ordered named c ls e (Ok q) orders all is = let made = event_ordered named c ls orders e q is in (made.0, made.1 all)
step_ordered named c ls e (Err refusal) orders all is = (orders, all)

records_ordered : (named : Naming) (rs : List Record) (c : Core) (ls : List Line) → Orders c ls → AllFollow ls → IsLegal c rs → AllFollow (reverse (trace_by named rs) ++ ls)
records_ordered named [] c ls orders all legal = all
records_ordered named (r ∷ rs) c ls orders all legal =
    let made = step_ordered named c ls r.event (step c r.event) orders all refl in
    let now : Orders (after c r.event) (reverse (lines_of named r) ++ ls) × AllFollow (reverse (lines_of named r) ++ ls) =
    subst (λ a. Orders (after c r.event) (reverse (lines_by named r.event a) ++ ls) × AllFollow (reverse (lines_by named r.event a) ++ ls)) legal.0 made in
    subst AllFollow (behind (lines_of named r) (trace_by named rs) ls) (records_ordered named rs (after c r.event) (reverse (lines_of named r) ++ ls) now.0 now.1 legal.1)

fresh_ordered : (replica : ℕ) → Orders (fresh replica) []
fresh_ordered replica = record {
  speaks = λ n s has. absent n s has;
  counted = λ n s has. absent n s has;
  unopened = λ n above. record { standing = refl; delta = refl };
}

pub every_legal_trace_is_in_order : EveryLegalTraceIsInOrder
every_legal_trace_is_in_order named replica rs legal = subst AllFollow (append-nil (reverse (trace_by named rs))) (records_ordered named rs (fresh replica) [] (fresh_ordered replica) tt legal)
