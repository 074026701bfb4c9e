-- What the checker tells of the lines of a trace. This project's own.
--     Found             what is told: a line by its number, and a rule, or nothing
--     found_of          what is told of a broken rule, if one is broken
--     IsVerdict         the verdict on a trace
--     TellsWell         a trace that keeps the rules is told to do so,
--     TellsTheFirst     and of one that doesn't the first broken line is told, with the least rule there
use Rattle.std.specs.Prelude.{◌≡◌, ℕ, List, Option, Some, None, option_map}
use Rattle.xds_check.specs.declared.line.Line.{Line}
use Rattle.xds_check.specs.declared.rule.Rule.{Rule}
use Rattle.xds_check.specs.Rules.{NoneBroken, FirstBroken}
use Rattle.xds_check.specs.declared.checking.Broken.{Broken}

-- what is told: a line by its number, and a rule
abbrev pub Found : Type 0
Found = Option (ℕ × Rule)

abbrev pub found_of : Option Broken → Found
found_of told = option_map (λ b. (b.line, b.rule)) told

-- The verdict on a trace: none where no rule is broken, and else the first line at which one is, with the least rule there.
abbrev pub IsVerdict : List Line → Option Broken → Type 0
IsVerdict trace None = NoneBroken trace
IsVerdict trace (Some b) = FirstBroken trace b.line b.rule

-- A trace that keeps the rules is told to do so,
abbrev pub TellsWell : List Line → Option Broken → Type 0
TellsWell trace told = NoneBroken trace → told ≡ None

-- and of one that doesn't the first broken line is told, with the least rule there.
abbrev pub TellsTheFirst : List Line → Option Broken → Type 0
TellsTheFirst trace told = (number : ℕ) (rule : Rule) → FirstBroken trace number rule → found_of told ≡ Some (number, rule)
