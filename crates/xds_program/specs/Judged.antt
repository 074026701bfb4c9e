-- What `xds check` tells of the bytes of a trace, by the rules that every trace of a replica keeps. This project's own.
--     IsJudged         the bytes are a trace, and this is the verdict on it
--     IsUnjudged       why there is no verdict: the first bad line, or no memory
--     IsUnread         why there is no verdict on an input: it was read, or a call of the reader failed
--     ReadsOn          a checker read what was taken from an input
--     IsReadWhole      a checker read an input to its end
--     broken_text      what is printed of a line that breaks a rule
--     verdict_text     what is printed of a verdict
--     verdict_status   and the status
--     TellsVerdict     the text is printed, with this status, of an input that is a trace
use Rattle.std.specs.Prelude.{◌≡◌, ℕ, List, ◌++◌, IfSome, Option, Some, None, codes, decimal, ⊤}
use Rattle.std.specs.Io.KnownBytes.{Consumes}
use Rattle.xds_frames.specs.Devices.{MoreFailed}
use Rattle.xds_check.specs.declared.piecewise.PiecewiseChecker.{PiecewiseChecker}
use Rattle.xds_check.specs.Checkers.{HasRead}
use Rattle.xds_check.specs.declared.line.Line.{Line}
use Rattle.xds_check.specs.Rules.{word_of}
use Rattle.xds_check.specs.Texts.{IsTrace, IsFirstBad}
use Rattle.xds_check.specs.declared.checking.Broken.{Broken}
use Rattle.xds_check.specs.Verdicts.{IsVerdict}
use Rattle.xds_program.specs.declared.judge.NoVerdict.{NoVerdict}
use Rattle.xds_program.specs.declared.judge.NoVerdict.TheVariants.{Unjudged as NotJudged, Device}
use Rattle.xds_program.specs.declared.judge.Unjudged.{Unjudged}
use Rattle.xds_program.specs.declared.judge.Unjudged.TheVariants.{BadTrace, OutOfMemory}

-- the bytes are a trace, and this is the verdict on it
abbrev pub IsJudged : List ℕ → Option Broken → Type 0
IsJudged bytes verdict = (trace : List Line) × IsTrace bytes trace × IsVerdict trace verdict

-- why there is no verdict: the first bad line, or no memory
abbrev pub IsUnjudged : List ℕ → Unjudged → Type 0
IsUnjudged bytes (BadTrace line) = IsFirstBad bytes line
IsUnjudged bytes OutOfMemory = ⊤

-- why there is no verdict on an input, whose bytes may be known: as of its bytes, or a call of the reader failed
abbrev pub IsUnread : Option (List ℕ) → ℕ → ℕ → NoVerdict → Type 0
IsUnread known before after (NotJudged why) = IfSome known (λ bytes. IsUnjudged bytes why)
IsUnread known before after Device = MoreFailed before after

-- a checker read what was taken from an input
pub record ReadsOn (before after : Option (List ℕ)) (old new : PiecewiseChecker) : Type 0 where
  pub came : List ℕ
  pub taken : Consumes before after came
  pub read : (bytes : List ℕ) → HasRead bytes old → HasRead (bytes ++ came) new

-- a checker read an input, whose bytes may be known, to its end
pub record IsReadWhole (known : Option (List ℕ)) (checker : PiecewiseChecker) : Type 0 where
  pub bytes : List ℕ
  pub all : IfSome known (λ input. input ≡ bytes)
  pub read : HasRead bytes checker

-- what is printed of a line that breaks a rule
abbrev pub broken_text : Broken → List ℕ
broken_text broken = codes "broken " ++ decimal broken.line ++ codes " " ++ word_of broken.rule ++ codes "\n"

-- what is printed of a verdict
abbrev pub verdict_text : Option Broken → List ℕ
verdict_text None = codes "ok\n"
verdict_text (Some broken) = broken_text broken

-- and the status
abbrev pub verdict_status : Option Broken → ℕ
verdict_status None = 0
verdict_status (Some broken) = 1

-- the text is printed, with this status, of an input that is a trace
pub record TellsVerdict (input : List ℕ) (status : ℕ) (text : List ℕ) : Type 0 where
  pub verdict : Option Broken
  pub judged : IsJudged input verdict
  pub text_is : text ≡ verdict_text verdict
  pub status_is : status ≡ verdict_status verdict
