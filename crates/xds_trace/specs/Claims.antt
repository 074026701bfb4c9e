-- What is claimed of traces that replicas make. This project's own.
--     EveryLegalTraceKeepsTheRules     the trace of every legal list of records from a fresh replica
--     IsQuiet                          a stream that is open and a type of which it is owed nothing
--     SoDoIdleEnds                     lines at the end that truly say that nothing is owed break no rule
--     EveryTraceKeepsTheRules          the trace of whatever a replica did breaks no rule, where resources go by their own names
--     SoDoesOneWithIdleEnds            nor does one with idle lines behind it, where nothing is owed
--     EveryLegalTraceIsInOrder         the lines of such a trace stand in an order that a trace may have
--     EveryStreamHasANumber            and its streams have numbers that a stream may have
use Rattle.std.specs.Prelude.{◌≡◌, ℕ, List, ◌++◌, map, false, All, IsSomeAnd}
use Rattle.std.specs.FinMap as finmap
use Rattle.xds_resource.specs.declared.types.TypeName.{TypeName}
use Rattle.xds_core.specs.Streams.{owes_of}
use Rattle.xds_core.specs.Steps.{Core, fresh}
use Rattle.xds_core.specs.Legal.{Record, IsLegal, replayed}
use Rattle.xds_check.specs.declared.line.Line.TheVariants as lines
use Rattle.xds_check.specs.Rules.{NoneBroken}
use Rattle.xds_check.specs.Streams.{IsInOrder}
use Rattle.xds_check.specs.Texts.{HasStream}
use Rattle.xds_trace.specs.Making.{Naming, IsWellNamed, IsSound, trace_by, trace_of}

-- rule: awaited-names, rule: whole-response, rule: covered-only, rule: no-live-removal
-- rule: best-writes, rule: one-unanswered, rule: refused-offer, rule: new-nonce
-- The trace of every legal list of records from a fresh replica, whoever sent the requests, breaks no rule.
abbrev pub EveryLegalTraceKeepsTheRules : Type 0
EveryLegalTraceKeepsTheRules =
    (named : Naming) (replica : ℕ) (rs : List Record) → IsLegal (fresh replica) rs → All (λ r. IsWellNamed named r.event) rs → NoneBroken (trace_by named rs)

-- a stream that is open and a type of which it is owed nothing
abbrev pub IsQuiet : Core → ℕ × TypeName → Type 0
IsQuiet c p = IsSomeAnd (finmap.get c.streams p.0) (λ s. owes_of c.store s p.1 ≡ false)

-- rule: awaited-names
-- Nor does that trace with lines at its end which say of streams that nothing is owed to them of a type, where that is so then.
abbrev pub SoDoIdleEnds : Type 0
SoDoIdleEnds =
    (named : Naming) (replica : ℕ) (rs : List Record) (quiet : List (ℕ × TypeName)) → IsLegal (fresh replica) rs → All (λ r. IsWellNamed named r.event) rs
    → All (IsQuiet (replayed (fresh replica) rs)) quiet → NoneBroken (trace_by named rs ++ map (λ p. lines.Idle p.0 p.1) quiet)

-- rule: awaited-names, rule: whole-response, rule: covered-only, rule: no-live-removal
-- rule: best-writes, rule: one-unanswered, rule: refused-offer, rule: new-nonce
-- So it is with what the calls of a replica take, whose resources go by their own names.
abbrev pub EveryTraceKeepsTheRules : Type 0
EveryTraceKeepsTheRules = (replica : ℕ) (rs : List Record) → IsLegal (fresh replica) rs → All (λ r. IsSound r.event) rs → NoneBroken (trace_of rs)

-- rule: awaited-names
abbrev pub SoDoesOneWithIdleEnds : Type 0
SoDoesOneWithIdleEnds =
    (replica : ℕ) (rs : List Record) (quiet : List (ℕ × TypeName)) → IsLegal (fresh replica) rs → All (λ r. IsSound r.event) rs → All (IsQuiet (replayed (fresh replica) rs)) quiet
    → NoneBroken (trace_of rs ++ map (λ p. lines.Idle p.0 p.1) quiet)

-- The lines of such a trace stand in an order that a trace may have, whatever the bodies are called.
abbrev pub EveryLegalTraceIsInOrder : Type 0
EveryLegalTraceIsInOrder = (named : Naming) (replica : ℕ) (rs : List Record) → IsLegal (fresh replica) rs → IsInOrder (trace_by named rs)

-- And its streams have numbers that a stream may have; so the trace is read again as it was written.
abbrev pub EveryStreamHasANumber : Type 0
EveryStreamHasANumber = (named : Naming) (replica : ℕ) (rs : List Record) → IsLegal (fresh replica) rs → All HasStream (trace_by named rs)
