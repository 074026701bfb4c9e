-- The trace of every legal list of records from a fresh replica breaks no rule.
use Rattle.std.proofs.Common.{◌≡◌, ℕ, List, [], ◌∷◌, ◌++◌, map, reverse, false, Option, Some, None, Ok, Err, refl, sym, ap, subst, ◌∙◌, append-nil, append_assoc}
use Rattle.std.specs.Prelude.{All, IfOk, IsSomeAnd, Result}
use Rattle.std.specs.FinMap as finmap
use Rattle.std.proofs.lemmas.List.{reverse-append}
use Rattle.std.proofs.lemmas.List.Elements.{All-head, All-tail, All-weaker}
use Rattle.xds_resource.specs.declared.types.TypeName.{TypeName}
use Rattle.xds_core.specs.Streams.{Stream, owes_of}
use Rattle.xds_core.specs.Events.{Event}
use Rattle.xds_core.specs.Steps.{Core, Step, step, fresh}
use Rattle.xds_core.specs.Legal.{Record, IsLegal, replayed, after, answer_of, left_by}
use Rattle.xds_check.specs.declared.line.Line.{Line}
use Rattle.xds_check.specs.declared.line.Line.TheVariants as lines
use Rattle.xds_check.specs.Rules.{AllKeep, NoneBroken}
use Rattle.xds_trace.specs.Making.{Naming, IsWellNamed, lines_by, lines_of, trace_by}
use Rattle.xds_trace.specs.Claims.{EveryLegalTraceKeepsTheRules, SoDoIdleEnds, IsQuiet}
use Rattle.xds_trace.proofs.Following.{Keeps, keeps_fresh}
use Rattle.xds_trace.proofs.Keeping.{event_made, quiet_made}

-- what was taken goes by the names that it gives
abbrev pub IsNamedRecord : Naming → Record → Type 0
IsNamedRecord named r = IfOk r.answer (λ reply. IsWellNamed named r.event)

-- what an event leaves, be it refused or not
step_made : (named : Naming) (c : Core) (ls : List Line) (e : Event) (s : Step) → Keeps named c ls → AllKeep ls → IfOk (answer_of s) (λ reply. IsWellNamed named e) → step c e ≡ s
    → Keeps named (left_by c s) (reverse (lines_by named e (answer_of s)) ++ ls) × AllKeep (reverse (lines_by named e (answer_of s)) ++ ls)
step_made named c ls e (Ok q) keeps all called is = let made = event_made named c ls keeps e q called is in (made.0, made.1 all)
step_made named c ls e (Err refusal) keeps all called is = (keeps, all)

-- the lines of two lists, the latest first
pub behind : (xs ys ls : List Line) → reverse ys ++ (reverse xs ++ ls) ≡ reverse (xs ++ ys) ++ ls
behind xs ys ls = sym (append_assoc (reverse ys) (reverse xs) ls) ∙ ap (λ l. l ++ ls) (sym (reverse-append xs ys))

abbrev Kept : Naming → Core → List Line → Type 0
Kept named c ls = Keeps named c ls × AllKeep ls

records_kept : (named : Naming) (rs : List Record) (c : Core) (ls : List Line) → Kept named c ls → IsLegal c rs → All (IsNamedRecord named) rs → Kept named (replayed c rs) (reverse (trace_by named rs) ++ ls)
records_kept named [] c ls kept legal called = kept
records_kept named (r ∷ rs) c ls kept legal called =
    let taken = subst (λ a. IfOk a (λ reply. IsWellNamed named r.event)) (sym legal.0) (All-head (IsNamedRecord named) r rs called) in
    let made = step_made named c ls r.event (step c r.event) kept.0 kept.1 taken refl in
    let now : Kept named (after c r.event) (reverse (lines_of named r) ++ ls) = subst (λ a. Kept named (after c r.event) (reverse (lines_by named r.event a) ++ ls)) legal.0 made in
    subst (Kept named (replayed (after c r.event) rs)) (behind (lines_of named r) (trace_by named rs) ls)
    (records_kept named rs (after c r.event) (reverse (lines_of named r) ++ ls) now legal.1 (All-tail (IsNamedRecord named) r rs called))

-- where all events do, what was taken does
if_taken : {X E : Type 0} (P : Type 0) (a : Result X E) → P → IfOk a (λ x. P)
if_taken P (Ok x) p = p
if_taken P (Err e) p = tt

all_named : (named : Naming) (rs : List Record) → All (λ r. IsWellNamed named r.event) rs → All (IsNamedRecord named) rs
all_named named rs all = All-weaker (λ (r : Record). IsWellNamed named r.event) (IsNamedRecord named) (λ r h. if_taken (IsWellNamed named r.event) r.answer h) rs all

pub every_legal_trace_keeps_the_rules : EveryLegalTraceKeepsTheRules
every_legal_trace_keeps_the_rules named replica rs legal called =
    subst AllKeep (append-nil (reverse (trace_by named rs))) (records_kept named rs (fresh replica) [] (keeps_fresh named replica, tt) legal (all_named named rs called)).1

-- ---- lines at the end

open_stream : (o : Option Stream) (P : Stream → Type 0) → IsSomeAnd o P → (s : Stream) × (o ≡ Some s) × P s
open_stream None P is = absurd is
open_stream (Some s) P is = (s, refl, is)

idle_kept : (named : Naming) (c : Core) (quiet : List (ℕ × TypeName)) (ls : List Line) → Kept named c ls → All (IsQuiet c) quiet → AllKeep (reverse (map (λ p. lines.Idle p.0 p.1) quiet) ++ ls)
idle_kept named c [] ls kept all = kept.1
idle_kept named c (p ∷ quiet) ls kept all =
    let there = open_stream (finmap.get c.streams p.0) (λ s. owes_of c.store s p.1 ≡ false) (All-head (IsQuiet c) p quiet all) in
    let made = quiet_made named c ls kept.0 p.0 p.1 there.0 there.1 there.2 in
    subst AllKeep (behind (lines.Idle p.0 p.1 ∷ []) (map (λ x. lines.Idle x.0 x.1) quiet) ls) (idle_kept named c quiet (lines.Idle p.0 p.1 ∷ ls) (made.0, (made.1, kept.1)) (All-tail (IsQuiet c) p quiet all))

-- so it is where only what was taken is well named
pub taken_idle_ends : (named : Naming) (replica : ℕ) (rs : List Record) (quiet : List (ℕ × TypeName)) → IsLegal (fresh replica) rs → All (IsNamedRecord named) rs → All (IsQuiet (replayed (fresh replica) rs)) quiet
    → NoneBroken (trace_by named rs ++ map (λ p. lines.Idle p.0 p.1) quiet)
taken_idle_ends named replica rs quiet legal called all =
    let kept = records_kept named rs (fresh replica) [] (keeps_fresh named replica, tt) legal called in
    let now : Kept named (replayed (fresh replica) rs) (reverse (trace_by named rs)) = subst (Kept named (replayed (fresh replica) rs)) (append-nil (reverse (trace_by named rs))) kept in
    subst AllKeep (sym (reverse-append (trace_by named rs) (map (λ p. lines.Idle p.0 p.1) quiet))) (idle_kept named (replayed (fresh replica) rs) quiet (reverse (trace_by named rs)) now all)

-- rule: awaited-names
pub so_do_idle_ends : SoDoIdleEnds
so_do_idle_ends named replica rs quiet legal called all = taken_idle_ends named replica rs quiet legal (all_named named rs called) all
