-- How far an input of `xds answer` was read, and what was gathered of it. This project's own.
--     IsReadTo      the lines before the rest spell writes, this is what is held once those came
--     WhereReadTo   this holds of every input that was read so far
--     IsGathered    the input is read to its end
use Rattle.std.specs.Prelude.{◌≡◌, ◌≤◌, ◌+◌, ℕ, List, ◌++◌, length}
use Rattle.xds_resource.specs.declared.types.TypeName.{TypeName}
use Rattle.xds_resource.specs.declared.refusal.Refusal.TheVariants.{OutOfMemory}
use Rattle.xds_resource.specs.TypedWrites.{TypedWrite}
use Rattle.xds_catalogue.specs.Holdings.{Holdings, IsCatalogue}
use Rattle.xds_message.specs.Messages.{Request}
use Rattle.xds_script.specs.Lines.{feed, lines, pieces}
use Rattle.xds_program.specs.Answers.{held_of, response_by, answer_text}
use Rattle.xds_causes.specs.WriteLines.{AreWriteLines}
use Rattle.xds_program.specs.Faults.{IsAnswer, IsFault}

-- The lines before the rest spell writes, this is what is held once those came, and the rest begins with the line of this
-- number.
pub record IsReadTo (input rest : List ℕ) (line : ℕ) (held : TypeName → Holdings) : Type 0 where
  pub before : List (List ℕ)
  pub writes : List TypedWrite
  pub lines_are : lines input ≡ before ++ pieces feed rest
  pub writes_are : AreWriteLines before writes
  pub held_are : (t : TypeName) → held t ≡ held_of writes t
  pub number_is : line ≡ length before + 1
  pub short : length before + length rest ≤ length input

-- this holds of every input that was read so far
abbrev pub WhereReadTo : List ℕ → ℕ → (TypeName → Holdings) → (List ℕ → Type 0) → Type 0
WhereReadTo rest line held P = (input : List ℕ) → IsReadTo input rest line held → P input

-- The input is read to its end: whatever is written for the request by what is held answers it, and where there is no memory
-- for that, the last line is at fault.
pub record IsGathered (input : List ℕ) (line : ℕ) (held : TypeName → Holdings) (request : Request) : Type 0 where
  pub named : (t : TypeName) → IsCatalogue (held t).entries
  pub answers : (replica : ℕ) (output : List ℕ) → output ≡ answer_text (response_by replica held request) → IsAnswer replica input output
  pub fails : IsFault input line OutOfMemory
