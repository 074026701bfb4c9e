-- Which changes of an input are handed over, in which order, and which of its lines is told as refused. This project's own.
--     AllHanded    each change was handed over once, in order
--     line_after   the number of the line behind so many from this one on, which stops at the greatest that can be told
--     behind       that number, or that line is the one that is refused
--     HandsLast    the change of the last line is handed over, if it is one; or the line is refused
--     TakesAll     all lines were taken, however their bytes came, the last of which no line feed ends
--     TakesUpTo    the lines before one that is refused were taken, and it is told by its number, from 1
--     TakesSome    a read failed: the lines that had ended before were taken
--     StopsInput   an input isn't taken to its end: up to a line that is refused
--     TakesInput   the lines of the bytes that came are taken: all of them, where the input is at its end
use Rattle.std.specs.Prelude.{◌≡◌, ℕ, ◌+◌, ◌-◌, ◌^◌, min, List, [], ◌∷◌, Option, Some, None, Result, Ok, Err, IsOk}
use Rattle.std.specs.Io.KnownBytes.{Consumes, IsAtEnd}
use Rattle.xds_resource.specs.declared.refusal.Refusal.{Refusal}
use Rattle.xds_resource.specs.declared.refusal.Refusal.TheVariants.{Device}
use Rattle.xds_script.specs.Lines.{feed, pieces}
use Rattle.xds_changes.specs.declared.change.Change.{Change}
use Rattle.xds_notes.specs.declared.ending.End.{End}
use Rattle.xds_notes.specs.declared.ending.End.TheVariants.{Streams, Stopped, Line, Refused}
use Rattle.xds_changes.specs.Changes.{Written, change_of}
use Rattle.xds_changes.specs.Inputs.{AreTaken, AreRefused, AreEnded}

-- each change was handed over once, in order
abbrev pub AllHanded : {S : Type 0} → (S → S → Written → Type 0) → S → S → List Written → Type 0
AllHanded hands s t [] = t ≡ s
AllHanded {S} hands s t (c ∷ cs) = (u : S) × hands s u c × AllHanded hands u t cs

-- the number of the line behind so many from this one on, which stops at the greatest that can be told
abbrev pub line_after : ℕ → ℕ → ℕ
line_after line count = min (line + count) (2 ^ 64 - 1)

-- that number, or that line is the one that is refused
abbrev pub behind : ℕ → ℕ → Option Refusal → Result ℕ End
behind line count None = Ok (line_after line count)
behind line count (Some refusal) = Err (Line (line_after line count) refusal)

-- the change of the last line is handed over, if it is one; or the line is refused
abbrev pub HandsLast : {S T : Type 0} → (S → S → Written → Type 0) → S → S → Result (Option Change) Refusal → ℕ → Result T End → Type 0
HandsLast hands s t (Ok (Some change)) line r = hands s t (change_of change) × IsOk r
HandsLast hands s t (Ok None) line r = (t ≡ s) × IsOk r
HandsLast hands s t (Err refusal) line r = (t ≡ s) × (r ≡ Err (Line line refusal))

-- All lines were taken, however their bytes came, the last of which no line feed ends: none is wrong, and what they change was handed over.
pub record TakesAll {S : Type 0} (hands : S → S → Written → Type 0) (s t : S) (bytes : List ℕ) : Type 0 where
  pub changes : List Written
  pub taken : AreTaken (pieces feed bytes) changes
  pub handed : AllHanded hands s t changes

-- The lines before one that is refused were taken, and it is told by its number, from 1.
pub record TakesUpTo {S : Type 0} (hands : S → S → Written → Type 0) (s t : S) (bytes : List ℕ) (line : ℕ) (refusal : Refusal) : Type 0 where
  pub changes : List Written
  pub count : ℕ
  pub refused : AreRefused (pieces feed bytes) changes count refusal
  pub line_is : line ≡ line_after 1 count
  pub handed : AllHanded hands s t changes

-- A read failed: the lines that had ended before were taken.
pub record TakesSome {S : Type 0} (hands : S → S → Written → Type 0) (s t : S) (bytes : List ℕ) : Type 0 where
  pub changes : List Written
  pub count : ℕ
  pub left : List ℕ
  pub ended : AreEnded bytes changes count left
  pub handed : AllHanded hands s t changes

-- An input isn't taken to its end: up to a line that is refused; or as many lines as had ended before a read failed.
abbrev pub StopsInput : {S : Type 0} → (S → S → Written → Type 0) → S → S → Option (List ℕ) → Option (List ℕ) → End → Type 0
StopsInput hands s t before after (Line line refusal) = (came : List ℕ) × Consumes before after came × TakesUpTo hands s t came line refusal
StopsInput hands s t before after (Refused refusal) = (came : List ℕ) × Consumes before after came × (refusal ≡ Device) × TakesSome hands s t came
StopsInput hands s t before after Streams = ⊥
StopsInput hands s t before after Stopped = ⊥

-- The lines of the bytes that came are taken: all of them, where the input is at its end.
abbrev pub TakesInput : {S T : Type 0} → (S → S → Written → Type 0) → S → S → Option (List ℕ) → Option (List ℕ) → Result T End → Type 0
TakesInput hands s t before after (Ok x) = (came : List ℕ) × Consumes before after came × IsAtEnd after × TakesAll hands s t came
TakesInput hands s t before after (Err end) = StopsInput hands s t before after end
