-- What is made of each line of an input whose refused lines are passed over, however its bytes come. This project's own.
--     HandsWhat     a change is handed over, or a refusal told, or nothing is done
--     HandsSaid     so it is for what a line says
--                   what a line says is handed over, or its refusal told
--     KeepsChange   what is made of a line, by what it changes
--     KeepsLine     a change is handed over, a refusal is told, and a line that is skipped does nothing; or there was no memory for
--                   the line, which is told
--     KeepsLines    so it is of each line, in order, of which the first has this number
--     number_behind  the number of the line behind these, of which the first has this number
--     IsHeldOf      this is held of a line of which these bytes have come, and which hasn't ended; or there was no memory for it
--     KeepsPiece    a piece more: what is made of the lines that end in it, and what is held of the one behind them
--     KeepsSome     the lines that had ended before a read failed
--     KeepsInput    so it is of the lines of the bytes that came: all of them, where the input is at its end; where a read failed,
--                   those that had ended before
use Rattle.std.specs.Prelude.{◌≡◌, ◌⊎◌, ℕ, List, [], ◌∷◌, ◌++◌, true, Option, Some, None, Result, Ok, Err}
use Rattle.std.specs.Io.KnownBytes.{Consumes, IsAtEnd}
use Rattle.xds_resource.specs.declared.refusal.Refusal.{Refusal}
use Rattle.xds_resource.specs.declared.refusal.Refusal.TheVariants.{Device, OutOfMemory}
use Rattle.xds_script.specs.Lines.{feed, pieces}
use Rattle.xds_changes.specs.declared.change.Change.{Change}
use Rattle.xds_notes.specs.declared.ending.End.{End}
use Rattle.xds_notes.specs.declared.ending.End.TheVariants.{Refused}
use Rattle.xds_notes.specs.declared.fault.Fault.{Fault}
use Rattle.xds_changes.specs.declared.said_lines.Kept.{Kept}
use Rattle.xds_changes.specs.declared.said_lines.SaidLine.{SaidLine}
use Rattle.xds_changes.specs.Changes.{Written, change_in, change_of}
use Rattle.xds_changes.specs.Handing.{line_after}
use Rattle.xds_changes.specs.HeldLines.{held_of}

-- what a line says is handed over, or its refusal told
abbrev pub HandsWhat : {S : Type 0} → (S → S → Written → Type 0) → (S → S → ℕ → Refusal → Type 0) → S → S → ℕ → Result (Option Change) Fault → Type 0
HandsWhat hands refuses s t number (Ok None) = t ≡ s
HandsWhat hands refuses s t number (Ok (Some change)) = hands s t (change_of change)
HandsWhat hands refuses s t number (Err fault) = refuses s t number fault.refusal

abbrev pub HandsSaid : {S : Type 0} → (S → S → Written → Type 0) → (S → S → ℕ → Refusal → Type 0) → S → S → SaidLine → Type 0
HandsSaid hands refuses s t said = HandsWhat hands refuses s t said.line said.what

-- what is made of a line: by what it changes
abbrev pub KeepsChange : {S : Type 0} → (S → S → Written → Type 0) → (S → S → ℕ → Refusal → Type 0) → S → S → ℕ → Result (Option Written) Refusal → Type 0
KeepsChange hands refuses s t number (Ok None) = t ≡ s
KeepsChange hands refuses s t number (Ok (Some change)) = hands s t change
KeepsChange hands refuses s t number (Err refusal) = refuses s t number refusal

-- a change is handed over, a refusal is told, and a line that is skipped does nothing; or there was no memory for the line, which is told
abbrev pub KeepsLine : {S : Type 0} → (S → S → Written → Type 0) → (S → S → ℕ → Refusal → Type 0) → S → S → ℕ → List ℕ → Type 0
KeepsLine hands refuses s t number line = KeepsChange hands refuses s t number (change_in line) ⊎ refuses s t number OutOfMemory

-- so it is of each line, in order, of which the first has this number
abbrev pub KeepsLines : {S : Type 0} → (S → S → Written → Type 0) → (S → S → ℕ → Refusal → Type 0) → S → S → ℕ → List (List ℕ) → Type 0
KeepsLines hands refuses s t number [] = t ≡ s
KeepsLines {S} hands refuses s t number (line ∷ lines) =
    (u : S) × KeepsLine hands refuses s u number line × KeepsLines hands refuses u t (line_after number 1) lines

-- the number of the line behind these, of which the first has this number
abbrev pub number_behind : ℕ → List (List ℕ) → ℕ
number_behind number [] = number
number_behind number (line ∷ lines) = number_behind (line_after number 1) lines

-- this is held of a line of which these bytes have come, and which hasn't ended; or there was no memory for it
abbrev pub IsHeldOf : List ℕ → Kept → Type 0
IsHeldOf bytes kept = (pieces feed bytes ≡ bytes ∷ []) × ((kept.is_lost ≡ true) ⊎ (kept.bytes.items ≡ held_of bytes))

-- A piece more, behind what has come of a line: what is made of the lines that end in it, and what is held of the one behind them.
abbrev pub KeepsPiece : {S : Type 0} → (S → S → Written → Type 0) → (S → S → ℕ → Refusal → Type 0) → S → S → Kept → Kept → List ℕ → Type 0
KeepsPiece hands refuses s t old new piece =
    (came : List ℕ) → IsHeldOf came old
    → (ended : List (List ℕ)) × (left : List ℕ) × (pieces feed (came ++ piece) ≡ ended ++ left ∷ []) × IsHeldOf left new
    × (new.line ≡ number_behind old.line ended) × KeepsLines hands refuses s t old.line ended

-- the lines that had ended before a read failed
pub record KeepsSome {S : Type 0} (hands : S → S → Written → Type 0) (refuses : S → S → ℕ → Refusal → Type 0) (s t : S) (bytes : List ℕ) : Type 0 where
  pub ended : List (List ℕ)
  pub left : List ℕ
  pub bytes_are : pieces feed bytes ≡ ended ++ left ∷ []
  pub kept : KeepsLines hands refuses s t 1 ended

-- So it is of the lines of the bytes that came: all of them, where the input is at its end; where a read failed, those that had ended before.
abbrev pub KeepsInput : {S T : Type 0} → (S → S → Written → Type 0) → (S → S → ℕ → Refusal → Type 0) → S → S → Option (List ℕ) → Option (List ℕ) → Result T End → Type 0
KeepsInput hands refuses s t before after (Ok x) =
    (came : List ℕ) × Consumes before after came × IsAtEnd after × KeepsLines hands refuses s t 1 (pieces feed came)
KeepsInput hands refuses s t before after (Err end) =
    (came : List ℕ) × Consumes before after came × (end ≡ Refused Device) × KeepsSome hands refuses s t came
