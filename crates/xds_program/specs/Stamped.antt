-- What a file of stamped writes says, a line each, as `xds writes` prints them. This project's own.
--     write_lines    its lines; no bytes are no line
--     AreLeft        each line is a write, and this is what they leave
--     IsWriteFault   all lines before this one are writes, and this one is refused
use Rattle.std.specs.Prelude.{◌≡◌, ◌+◌, ℕ, List, [], ◌∷◌, ◌++◌, length}
use Rattle.xds_resource.specs.declared.types.TypeName.{TypeName}
use Rattle.xds_resource.specs.declared.refusal.Refusal.{Refusal}
use Rattle.xds_resource.specs.TypedWrites.{TypedWrite}
use Rattle.xds_catalogue.specs.Holdings.{Holdings}
use Rattle.xds_script.specs.Lines.{lines}
use Rattle.xds_program.specs.Answers.{held_of}
use Rattle.xds_causes.specs.WriteLines.{AreWriteLines}
use Rattle.xds_program.specs.Faults.{RefusesWrite}

-- the lines of a file, the last of which needs no line feed; no bytes are no line
abbrev pub write_lines : List ℕ → List (List ℕ)
write_lines [] = []
write_lines (b ∷ bs) = lines (b ∷ bs)

-- Each line is a write, and this is what they leave, where nothing was held before.
pub record AreLeft (input : List ℕ) (held : TypeName → Holdings) : Type 0 where
  pub writes : List TypedWrite
  pub writes_are : AreWriteLines (write_lines input) writes
  pub held_are : (t : TypeName) → held t ≡ held_of writes t

-- All lines before this one are writes, and this one is refused.
pub record IsWriteFault (input : List ℕ) (line : ℕ) (refusal : Refusal) : Type 0 where
  pub before : List (List ℕ)
  pub at_fault : List ℕ
  pub after : List (List ℕ)
  -- what the lines before spell
  pub writes : List TypedWrite
  pub lines_are : write_lines input ≡ before ++ at_fault ∷ after
  pub number_is : line ≡ length before + 1
  pub writes_are : AreWriteLines before writes
  pub refused : RefusesWrite (held_of writes) at_fault refusal
