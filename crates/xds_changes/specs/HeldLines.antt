-- What is held of a line of an input, and what it says once it has ended. This project's own.
--     held_of       what is held of a line of which these bytes have come: no more than shows that it is too long
--     HasHeld       a part more of a line is held, unless there was no memory for it
--     IsSaidBy      what a line of this number says, or why it is refused, by what was held of it
--     IsSaid        what a line of this number says, or why it is refused
--     next_line     the number of the next line, which stops at the greatest that can be told
use Rattle.std.specs.Prelude.{◌≡◌, ◌⊎◌, ◌+◌, ℕ, List, ◌++◌, take, Bool, true, false, Option, Some, None, Result, Ok, Err}
use Rattle.xds_resource.specs.declared.refusal.Refusal.TheVariants.{OutOfMemory}
use Rattle.xds_changes.specs.declared.change.Change.{Change}
use Rattle.xds_notes.specs.declared.fault.Fault.{Fault}
use Rattle.xds_changes.specs.declared.said_lines.SaidLine.{SaidLine}
use Rattle.xds_notes.specs.Causes.{IsFaultOf}
use Rattle.xds_changes.specs.Changes.{most_line, change_in, change_of}
use Rattle.xds_changes.specs.Handing.{line_after}

-- what is held of a line of which these bytes have come: no more than shows that it is too long
abbrev pub held_of : List ℕ → List ℕ
held_of bytes = take (most_line + 1) bytes

-- a part more of a line is held, unless there was no memory for it
abbrev pub HasHeld : List ℕ → Bool → List ℕ → List ℕ → Bool → Type 0
HasHeld old true part new lost = (lost ≡ true) × (new ≡ old)
HasHeld old false part new lost = (lost ≡ true) ⊎ ((lost ≡ false) × (new ≡ held_of (old ++ part)))

-- what a line of this number says, or why it is refused, by what was held of it
abbrev pub IsSaidBy : List ℕ → ℕ → Result (Option Change) Fault → Type 0
IsSaidBy line number (Ok None) = change_in line ≡ Ok None
IsSaidBy line number (Ok (Some c)) = (change_in line ≡ Ok (Some (change_of c))) × (c.line ≡ number)
IsSaidBy line number (Err f) = ((f.refusal ≡ OutOfMemory) ⊎ (change_in line ≡ Err f.refusal)) × IsFaultOf line f

-- what a line of this number says, or why it is refused; or there was no memory for it
abbrev pub IsSaid : List ℕ → Bool → ℕ → SaidLine → Type 0
IsSaid line true number said = (said.line ≡ number) × (said.what ≡ Err (record { refusal = OutOfMemory; cause = None; long = None }))
IsSaid line false number said = (said.line ≡ number) × IsSaidBy line number said.what

-- the number of the next line, which stops at the greatest that can be told
abbrev pub next_line : ℕ → ℕ
next_line number = line_after number 1
