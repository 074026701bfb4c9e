-- Stories: steps that are each answered, a line each. This project's own.
--     parts_of      a step's verb and what stands behind it; a step of one word is its verb
--     Answers       what a step may answer
--     IsAnswered    a line writes a step and its answer, by which the script before the step may be the one after it
--     AreAnswered   lines that each write a step and its answer, from one script to another
--     IsFollowed    the lines of a story are answered as it says, from a beginning
use Rattle.std.specs.Prelude.{◌≡◌, List, [], ◌∷◌, unwrap_or, IsSomeAnd, codes}
use Rattle.std.specs.Str.Lines.{lines}
use Rattle.xds_cases.specs.Texts.{Text, around}
use Rattle.xds_cases.specs.Cases.{case_of}

-- a step's verb and what stands behind it; a step of one word is its verb
abbrev pub parts_of : Text → Text × Text
parts_of step = unwrap_or (around (codes " ") step) (step, [])

-- what a step may answer: the script before it, its verb and the rest, what is told, and the script after it
abbrev pub Answers : Type 0 → Type 1
Answers S = S → Text → Text → Text → S → Type 0

-- A line writes a step and its answer, by which the script before the step may be the one after it.
abbrev pub IsAnswered : {S : Type 0} → Answers S → S → Text → S → Type 0
IsAnswered may_answer before line after = IsSomeAnd (case_of line) (λ c. may_answer before (parts_of c.0).0 (parts_of c.0).1 c.1 after)

-- lines that each write a step and its answer, from one script to another
abbrev pub AreAnswered : {S : Type 0} → Answers S → S → List Text → S → Type 0
AreAnswered may_answer start [] end = end ≡ start
AreAnswered {S} may_answer start (line ∷ more) end = (next : S) × IsAnswered may_answer start line next × AreAnswered may_answer next more end

-- The lines of a story are answered as it says, from a beginning.
abbrev pub IsFollowed : {S : Type 0} → (S → Type 0) → Answers S → Text → Type 0
IsFollowed {S} may_begin may_answer story = (start : S) × (end : S) × may_begin start × AreAnswered may_answer start (lines story) end
