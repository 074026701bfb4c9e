-- What is claimed of the texts of traces, and of verdicts on traces. This project's own.
--     ATextSaysOneLine       a text says one line at most
--     BytesAreOneTrace       bytes are one trace at most
--     ATraceHasNoBadLine     bytes that are a trace have no bad line
--     NoneBrokenHasNoFirst   a trace at which no rule is broken has no first line at which one is
--     OneIsFirst             the first line at which a rule is broken, and the least rule there, are one
use Rattle.std.specs.Prelude.{◌≡◌, ℕ, List}
use Rattle.xds_check.specs.declared.line.Line.{Line}
use Rattle.xds_check.specs.declared.rule.Rule.{Rule}
use Rattle.xds_check.specs.Rules.{NoneBroken, FirstBroken}
use Rattle.xds_check.specs.Texts.{Says, IsTrace, IsFirstBad}

-- A text says one line at most.
abbrev pub ATextSaysOneLine : Type 0
ATextSaysOneLine = (text : List ℕ) (l k : Line) → Says text l → Says text k → l ≡ k

-- Bytes are one trace at most.
abbrev pub BytesAreOneTrace : Type 0
BytesAreOneTrace = (bytes : List ℕ) (a b : List Line) → IsTrace bytes a → IsTrace bytes b → a ≡ b

-- Bytes that are a trace have no bad line.
abbrev pub ATraceHasNoBadLine : Type 0
ATraceHasNoBadLine = (bytes : List ℕ) (trace : List Line) (number : ℕ) → IsTrace bytes trace → IsFirstBad bytes number → ⊥

-- A trace at which no rule is broken has no first line at which one is.
abbrev pub NoneBrokenHasNoFirst : Type 0
NoneBrokenHasNoFirst = (trace : List Line) (number : ℕ) (rule : Rule) → NoneBroken trace → FirstBroken trace number rule → ⊥

-- The first line at which a rule is broken, and the least rule there, are one.
abbrev pub OneIsFirst : Type 0
OneIsFirst = (trace : List Line) (m n : ℕ) (r s : Rule) → FirstBroken trace m r → FirstBroken trace n s → (m ≡ n) × (r ≡ s)
