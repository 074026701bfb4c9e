-- What a checker has taken that takes a trace line by line, and one that takes its bytes in pieces. This project's own.
--     most_lines    as many lines as a checker takes
--     IsJudged      no rule is broken at these lines, and what is kept is what they say; or the first broken line is known
--     HasTaken      the checker has taken these lines
--     IsNext        a line may stand behind whatever lines the checker has taken
--     TakesText     the checker took the line that a text says
--     HasRead       the checker has read these bytes: whole lines, and the beginning of one
--     IsVerdictOf   the bytes are a trace, and this is the verdict on it
use Rattle.std.specs.Prelude.{◌≡◌, ◌≤◌, ℕ, List, [], ◌∷◌, ◌++◌, length, reverse, All, Bool, true, Option, Some, None}
use Rattle.xds_resource.specs.PerType.{PerType}
use Rattle.xds_check.specs.declared.line.Line.{Line}
use Rattle.xds_check.specs.declared.checking.Broken.{Broken}
use Rattle.xds_check.specs.declared.checker.Checker.{Checker}
use Rattle.xds_check.specs.declared.piecewise.PiecewiseChecker.{PiecewiseChecker}
use Rattle.xds_check.specs.Judges.{JudgeKept, AreJudgesOf, is_left}
use Rattle.xds_check.specs.Orders.{IsOrderOf}
use Rattle.xds_check.specs.Rules.{NoneBroken, FirstBroken}
use Rattle.xds_check.specs.Streams.{may_follow}
use Rattle.xds_check.specs.Texts.{Says, SayAll, IsOneLine, IsTrace, ended}
use Rattle.xds_check.specs.Verdicts.{IsVerdict}

-- as many lines as a checker takes: no memory holds more
abbrev pub most_lines : ℕ
most_lines = 9223372036854775807

-- No rule is broken at these lines, and what is kept is what they say of the streams that weren't closed; or the first line is
-- known at which one is broken.
abbrev pub IsJudged : List Line → PerType JudgeKept → Option Broken → Type 0
IsJudged lines judges None = NoneBroken lines × AreJudgesOf (is_left (reverse lines)) (reverse lines) judges
IsJudged lines judges (Some b) = FirstBroken lines b.line b.rule

-- The checker has taken these lines.
pub record HasTaken (lines : List Line) (c : Checker) : Type 0 where
  pub count : c.taken ≡ length lines
  pub few : c.taken ≤ most_lines
  pub order : IsOrderOf (reverse lines) c.order
  pub judged : IsJudged lines c.judges c.broken

-- whether a line may stand behind whatever lines the checker has taken
abbrev pub IsNext : Bool → Checker → Line → Type 0
IsNext may c l = (lines : List Line) → HasTaken lines c → may_follow (reverse lines) l ≡ may

-- The checker took the line that a text says, and this line may stand where it came.
pub record TakesText (text : List ℕ) (old new : Checker) : Type 0 where
  pub line : Line
  pub says : Says text line
  pub follows : IsNext true old line
  pub taken : (lines : List Line) → HasTaken lines old → HasTaken (lines ++ line ∷ []) new

-- The checker has read these bytes: the texts of lines, each ended, and the beginning of a line.
pub record HasRead (bytes : List ℕ) (c : PiecewiseChecker) : Type 0 where
  pub texts : List (List ℕ)
  pub lines : List Line
  pub bytes_are : bytes ≡ ended texts ++ c.held.items
  pub each : All IsOneLine texts
  pub begun : IsOneLine c.held.items
  pub say : SayAll [] texts lines
  pub taken : HasTaken lines c.checker

-- The bytes are a trace, and this is the verdict on it.
abbrev pub IsVerdictOf : List ℕ → Option Broken → Type 0
IsVerdictOf bytes verdict = (trace : List Line) × IsTrace bytes trace × IsVerdict trace verdict
