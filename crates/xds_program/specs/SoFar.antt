-- What is known of the bytes of a trace that may be cut short. This project's own.
--     IsLastLine       one line at most, which a line feed ends or doesn't
--     EndsLine         nothing, or bytes that end with a line feed
--     IsJudgedTo       the first bad line is the last line, and this is the verdict on the lines before it
--     IsJudgedSoFar    the verdict on a trace; or that, where the line of this number isn't whole
--     IsBeforeLast     the first bad line isn't the last line
--     IsLeftUnjudged   why there is no verdict on a trace that may be cut short: a bad line that isn't its last, or no memory
--     cut_text         what is told of lines that are judged, where the line of this number behind them isn't whole
--     IsToldOf         what is told of a verdict, and behind it what explains it
--     TellsSoFar       the text is printed, with this status, of an input that may be cut short, and this is told
use Rattle.std.specs.Prelude.{◌≡◌, ◌≢◌, ◌⊎◌, ◌-◌, ℕ, List, [], ◌∷◌, ◌++◌, Option, Some, None, codes, decimal, Bool, false, ⊤}
use Rattle.xds_check.specs.declared.checking.Broken.{Broken}
use Rattle.xds_check.specs.Texts.{IsFirstBad, IsOneLine}
use Rattle.xds_program.specs.declared.judge.Unjudged.{Unjudged}
use Rattle.xds_program.specs.declared.judge.Unjudged.TheVariants.{BadTrace, OutOfMemory}
use Rattle.xds_program.specs.Judged.{IsJudged, verdict_status, verdict_text}

-- one line at most, which a line feed ends or doesn't
abbrev pub IsLastLine : List ℕ → Type 0
IsLastLine bytes = (text : List ℕ) × IsOneLine text × ((bytes ≡ text) ⊎ (bytes ≡ text ++ 10 ∷ []))

-- nothing, or bytes that end with a line feed
abbrev pub EndsLine : List ℕ → Type 0
EndsLine bytes = (bytes ≡ []) ⊎ ((text : List ℕ) × (bytes ≡ text ++ 10 ∷ []))

-- The first bad line has this number and is the last line, which a line feed ends or doesn't; and this is the verdict on the lines
-- before it, which are the longest prefix of whole lines that is a trace.
pub record IsJudgedTo (bytes : List ℕ) (number : ℕ) (verdict : Option Broken) : Type 0 where
  pub front : List ℕ
  pub last : List ℕ
  pub bytes_are : bytes ≡ front ++ last
  pub is_last : IsLastLine last
  pub judged : IsJudged front verdict
  pub first_bad : IsFirstBad bytes number

-- the verdict on a trace; or that, where the line of this number isn't whole
abbrev pub IsJudgedSoFar : List ℕ → Option Broken → Option ℕ → Type 0
IsJudgedSoFar bytes verdict None = IsJudged bytes verdict
IsJudgedSoFar bytes verdict (Some number) = IsJudgedTo bytes number verdict

-- the first bad line stands in whole lines, behind which there is more: so it isn't the last line
abbrev pub IsBeforeLast : List ℕ → ℕ → Type 0
IsBeforeLast bytes line = (front : List ℕ) × (last : List ℕ) × (bytes ≡ front ++ last) × EndsLine front × (last ≢ []) × IsFirstBad front line

-- why there is no verdict on a trace that may be cut short
abbrev pub IsLeftUnjudged : List ℕ → Unjudged → Type 0
IsLeftUnjudged bytes (BadTrace line) = IsFirstBad bytes line × IsBeforeLast bytes line
IsLeftUnjudged bytes OutOfMemory = ⊤

-- what is told of lines that are judged, where the line of this number behind them isn't whole; nothing of a whole trace
abbrev pub cut_text : Option ℕ → List ℕ
cut_text None = []
cut_text (Some number) = codes "judged " ++ (decimal (number - 1) ++ (codes " lines; line " ++ (decimal number ++ codes " isn't whole")))

-- what is told of a verdict, and behind it whatever explains a broken rule, where that is wanted
pub record IsToldOf (explains : Bool) (verdict : Option Broken) (text : List ℕ) : Type 0 where
  pub behind : List ℕ
  pub text_is : text ≡ verdict_text verdict ++ behind
  pub unexplained : (explains ≡ false) ⊎ (verdict ≡ None) → behind ≡ []

-- The text is printed, with this status, of an input that may be cut short where that is wanted, and this is told on the error output.
pub record TellsSoFar (so_far explains : Bool) (input : List ℕ) (cause : List ℕ) (status : ℕ) (text : List ℕ) : Type 0 where
  pub verdict : Option Broken
  pub cut : Option ℕ
  pub judged : IsJudgedSoFar input verdict cut
  pub whole : so_far ≡ false → cut ≡ None
  pub told : IsToldOf explains verdict text
  pub status_is : status ≡ verdict_status verdict
  pub cause_is : cause ≡ cut_text cut
