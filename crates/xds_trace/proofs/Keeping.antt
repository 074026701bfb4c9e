-- What every event keeps of what the lines of a trace say of a replica; and its lines break no rule.
use Rattle.std.proofs.Common.{◌≡◌, ℕ, ◌+◌, List, [], ◌∷◌, ◌++◌, reverse, Bool, true, false, ◌||◌, Option, Some, None, Ok, Err, refl, sym, ap, subst, ◌∙◌}
use Rattle.std.specs.Prelude.{◌==◌, All}
use Rattle.std.specs.Option.{option_map_or}
use Rattle.std.specs.FinMap as finmap
use Rattle.xds_resource.specs.declared.types.TypeName.{TypeName}
use Rattle.xds_resource.specs.declared.refusal.Refusal.TheVariants.{NoStream, CounterSpent}
use Rattle.xds_resource.specs.PerType.{at, with_at}
use Rattle.xds_resource.specs.Resources.{NamedBody, written, deleted}
use Rattle.xds_resource.specs.Stamps.{max_counter}
use Rattle.xds_resource.specs.Types.{types}
use Rattle.xds_resource.specs.Writes.{StampedWrite}
use Rattle.xds_resource.proofs.Refusing.{unless_once, ok_same}
use Rattle.xds_catalogue.specs.Joins.{joined}
use Rattle.xds_catalogue.specs.Local.{next_counter}
use Rattle.xds_message.specs.declared.draft.Draft.{Draft}
use Rattle.xds_ledger.specs.declared.outcome.Outcome.{Outcome}
use Rattle.xds_core.specs.Stores.{Store, Batch, if_done, merging, merged, grown, is_spent, putting_at, deleting_at}
use Rattle.xds_core.specs.Streams.{Stream, Message, opening, requested, looked_at, polled_first, owes_some, owes_of}
use Rattle.xds_core.specs.Events.{Event, Open, Request, Poll, Owes, Close, Put, Delete, Merge, Snapshot, Rest, Since, Reply, Opened, Answered, Polled, Owed, Closed, Written, Merged}
use Rattle.xds_core.specs.Steps.{Core, Step, step, with_stream}
use Rattle.xds_core.proofs.StepLaws.{done_with, put_is, delete_is}
use Rattle.xds_check.specs.declared.line.Line.{Line}
use Rattle.xds_check.specs.declared.line.Line.TheVariants as lines
use Rattle.xds_check.specs.Rules.{KeepsRules, AllKeep}
use Rattle.xds_trace.specs.Making.{Naming, IsCalled, IsWellNamed, asking_of, answer_of, write_line, batch_lines, answered_lines}
use Rattle.xds_trace.proofs.Writes.{holds_one, holds_merged}
use Rattle.xds_trace.proofs.StreamLines.{silent_request, silent_response, silent_idle}
use Rattle.xds_trace.proofs.StreamRequests.{follows_requested}
use Rattle.xds_trace.proofs.StreamPolls.{polled_some, polled_none}
use Rattle.xds_trace.proofs.StreamAnswers.{idle_keeps}
use Rattle.xds_trace.proofs.StreamSends.{sent_keeps}
use Rattle.xds_trace.proofs.Following.{Keeps, Made, stream_kept, stream_same, line_kept, opened_kept, closed_kept, AreQuiet, quiet_reverse, quiet_write, quiet_flat, keep_quiet, store_kept}

-- ---- events

pub stream_found : (f : Stream → Step) (o : Option Stream) (q : Reply × Core) → option_map_or f o (Err NoStream) ≡ Ok q → (s : Stream) × (o ≡ Some s) × (f s ≡ Ok q)
stream_found f None q is = absurd cc
stream_found f (Some s) q is = (s, refl, is)

module _ (named : Naming) (c : Core) (ls : List Line) (keeps : Keeps named c ls) where
  abbrev Left : Event → Reply × Core → Type 0
  Left e q = Made named e ls q

  nothing_made : (e : Event) (q : Reply × Core) → answered_lines named e q.0 ≡ [] → Keeps named q.1 ls → Left e q
  nothing_made e q none kept = subst (λ l. Keeps named q.1 (reverse l ++ ls) × (AllKeep ls → AllKeep (reverse l ++ ls))) (sym none) (kept, λ all. all)

  made_open : (q : Reply × Core) → step c Open ≡ Ok q → Left Open q
  made_open q is =
      subst (Left Open) (sym (unless_once (c.opened == max_counter) CounterSpent (Opened (c.opened + 1), record c { opened = c.opened + 1; streams = finmap.insert c.streams (c.opened + 1) opening }) q is))
      (opened_kept named c ls keeps, λ all. (λ rule broken. broken, all))

  made_request : (n : ℕ) (m : Message) (q : Reply × Core) → step c (Request n m) ≡ Ok q → Left (Request n m) q
  made_request n m q is =
      let there = stream_found (λ s. if_done (λ (p : Outcome × Stream). (Answered p.0, with_stream c n p.1)) (requested s m)) (finmap.get c.streams n) q is in
      let made = done_with (λ (p : Outcome × Stream). (Answered p.0, with_stream c n p.1)) (requested there.0 m) q there.2 in
      subst (Left (Request n m)) (sym made.2) (
        stream_kept named c ls keeps n there.0 made.0.1 (lines.Request n (asking_of m)) there.1 (follows_requested n ls there.0 m made.0 made.1 (keeps.follows n there.0 there.1))
            (λ k other. silent_request n k (asking_of m) other) (λ t. refl),
        λ all. (λ rule broken. broken, all),
      )

  polled_made : (n : ℕ) (which : Option TypeName) (s after : Stream) (o : Option Draft) → finmap.get c.streams n ≡ Some s → polled_first c.replica c.store s (looked_at which) ≡ Ok (o, after) → Left (Poll n which) (Polled o, with_stream c n after)
  polled_made n which s after None has is = (stream_same named c ls keeps n s after has (polled_none c.replica c.store s (looked_at which) after is), λ all. all)
  polled_made n which s after (Some d) has is =
      let sent = sent_keeps named n ls c.replica c.store s d after keeps.holds (keeps.follows n s has) (polled_some c.replica c.store s (looked_at which) d after is) in (
        stream_kept named c ls keeps n s after (lines.Response n (answer_of named d)) has sent.1 (λ k other. silent_response n k (answer_of named d) other) (λ t. refl),
        λ all. (sent.0, all),
      )

  made_poll : (n : ℕ) (which : Option TypeName) (q : Reply × Core) → step c (Poll n which) ≡ Ok q → Left (Poll n which) q
  made_poll n which q is =
      let there = stream_found (λ s. if_done (λ (p : Option Draft × Stream). (Polled p.0, with_stream c n p.1)) (polled_first c.replica c.store s (looked_at which))) (finmap.get c.streams n) q is in
      let made = done_with (λ (p : Option Draft × Stream). (Polled p.0, with_stream c n p.1)) (polled_first c.replica c.store there.0 (looked_at which)) q there.2 in
      subst (Left (Poll n which)) (sym made.2) (polled_made n which there.0 made.0.1 made.0.0 there.1 made.1)

  idle_made : (n : ℕ) (t : TypeName) (s : Stream) (owed : Bool) → finmap.get c.streams n ≡ Some s → (owes_of c.store s t || false) ≡ owed → Left (Owes n (Some t)) (Owed owed, c)
  idle_made n t s true has is = (keeps, λ all. all)
  idle_made n t s false has is = (
    line_kept named c ls keeps (lines.Idle n t) (λ k. silent_idle k n t) (λ u. refl),
    λ all. (idle_keeps named n ls c.store s t keeps.holds (keeps.follows n s has) (first_false (owes_of c.store s t) is), all),
  )
    where
      first_false : (b : Bool) → (b || false) ≡ false → b ≡ false
      first_false true e = absurd cc
      first_false false e = refl

  owes_made : (n : ℕ) (which : Option TypeName) (s : Stream) → finmap.get c.streams n ≡ Some s → Left (Owes n which) (Owed (owes_some c.store s (looked_at which)), c)
  owes_made n None s has = (keeps, λ all. all)
  owes_made n (Some t) s has = idle_made n t s (owes_of c.store s t || false) has refl

  made_owes : (n : ℕ) (which : Option TypeName) (q : Reply × Core) → step c (Owes n which) ≡ Ok q → Left (Owes n which) q
  made_owes n which q is =
      let there = stream_found (λ s. Ok (Owed (owes_some c.store s (looked_at which)), c)) (finmap.get c.streams n) q is in
      subst (Left (Owes n which)) (sym (ok_same _ q there.2)) (owes_made n which there.0 there.1)

  made_close : (n : ℕ) (q : Reply × Core) → step c (Close n) ≡ Ok q → Left (Close n) q
  made_close n q is =
      let there = stream_found (λ s. Ok (Closed, record c { streams = finmap.remove c.streams n })) (finmap.get c.streams n) q is in
      subst (Left (Close n)) (sym (ok_same _ q there.2)) (closed_kept named c ls keeps n, λ all. (λ rule broken. broken, all))

  -- a write of the replica's own
  made_one : (t : TypeName) (w : StampedWrite) → IsCalled named t w → Keeps named (record c { store = with_at c.store t (joined (at c.store t) (w ∷ [])) }) (write_line t w ∷ ls)
  made_one t w called = store_kept named c ls (write_line t w ∷ []) (with_at c.store t (joined (at c.store t) (w ∷ []))) keeps (quiet_write t w, tt) (holds_one named c.store ls t w keeps.holds called)

  made_put : (t : TypeName) (r : NamedBody) (groups : List (List ℕ)) (q : Reply × Core) → named t r.body ≡ r.name → step c (Put t r groups) ≡ Ok q → Left (Put t r groups) q
  made_put t r groups q called is =
      let made = done_with (λ (p : ℕ × Store). (Written p.0 c.replica, record c { store = p.1 })) (putting_at c.store t r groups c.replica) q is in
      let parts = put_is c.store t r groups c.replica made.0 made.1 in
      subst (Left (Put t r groups)) (sym (made.2 ∙ (λ i. (Written (parts.0 i) c.replica, record c { store = parts.1 i })))) (
        made_one t (written (next_counter (at c.store t)) c.replica r groups) called,
        λ all. (λ rule broken. broken, all),
      )

  made_delete : (t : TypeName) (name : List ℕ) (q : Reply × Core) → step c (Delete t name) ≡ Ok q → Left (Delete t name) q
  made_delete t name q is =
      let made = done_with (λ (p : ℕ × Store). (Written p.0 c.replica, record c { store = p.1 })) (deleting_at c.store t name c.replica) q is in
      let parts = delete_is c.store t name c.replica made.0 made.1 in
      subst (Left (Delete t name)) (sym (made.2 ∙ (λ i. (Written (parts.0 i) c.replica, record c { store = parts.1 i })))) (
        made_one t (deleted (next_counter (at c.store t)) c.replica name) tt,
        λ all. (λ rule broken. broken, all),
      )

  made_merge : (b : Batch) (q : Reply × Core) → ((t : TypeName) → All (IsCalled named t) (at b t)) → step c (Merge b) ≡ Ok q → Left (Merge b) q
  made_merge b q called is =
      let made = done_with (λ (p : ℕ × Store). (Merged p.0, record c { store = p.1 })) (merging c.store b) q is in
      let which = unless_once (is_spent c.store b) CounterSpent (grown c.store b, merged c.store b) made.0 made.1 in
      let quiet : AreQuiet (reverse (batch_lines b)) = quiet_reverse (batch_lines b) (quiet_flat b types) in
      subst (Left (Merge b)) (sym (made.2 ∙ ap (λ (p : ℕ × Store). (Merged p.0, record c { store = p.1 })) which)) (
        store_kept named c ls (reverse (batch_lines b)) (merged c.store b) keeps quiet (holds_merged named c.store ls b keeps.holds called),
        λ all. keep_quiet (reverse (batch_lines b)) ls quiet all,
      )

  -- what every event that isn't refused keeps
  pub event_made : (e : Event) (q : Reply × Core) → IsWellNamed named e → step c e ≡ Ok q → Left e q
  event_made Open q called is = made_open q is
  event_made (Request n m) q called is = made_request n m q is
  event_made (Poll n which) q called is = made_poll n which q is
  event_made (Owes n which) q called is = made_owes n which q is
  event_made (Close n) q called is = made_close n q is
  event_made (Put t r groups) q called is = made_put t r groups q called is
  event_made (Delete t name) q called is = made_delete t name q is
  event_made (Merge b) q called is = made_merge b q called is
  event_made Snapshot q called is = nothing_made Snapshot q refl (subst (λ (p : Reply × Core). Keeps named p.1 ls) (sym (ok_same _ q is)) keeps)
  event_made (Rest t names version cluster) q called is = nothing_made (Rest t names version cluster) q refl (subst (λ (p : Reply × Core). Keeps named p.1 ls) (sym (ok_same _ q is)) keeps)
  event_made (Since marks) q called is = nothing_made (Since marks) q refl (subst (λ (p : Reply × Core). Keeps named p.1 ls) (sym (ok_same _ q is)) keeps)

  -- a line that says truly that nothing is owed
  pub quiet_made : (n : ℕ) (t : TypeName) (s : Stream) → finmap.get c.streams n ≡ Some s → owes_of c.store s t ≡ false → Keeps named c (lines.Idle n t ∷ ls) × KeepsRules ls (lines.Idle n t)
  quiet_made n t s has none = (line_kept named c ls keeps (lines.Idle n t) (λ k. silent_idle k n t) (λ u. refl), idle_keeps named n ls c.store s t keeps.holds (keeps.follows n s has) none)
