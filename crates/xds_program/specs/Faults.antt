-- Which inputs of `xds answer` are answered, and which line of the others is at fault: stamped writes, a line each, and
-- the request on the last line. This project's own.
--     IsRequestLine    the line is JSON that spells the request, and the request names a type
--     IsAnswer         the bytes are the answer to an input of good lines alone
--     RefusesWrite     why a line is refused as a write, by what is held of each type before it
--     RefusesRequest   why a line is refused as a request
--     RefusesLine      the line after these writes is refused
--     IsFault          all lines before this one are good, and this one is refused
use Rattle.std.specs.Prelude.{◌≡◌, ◌≢◌, ◌<◌, ◌+◌, ℕ, List, [], ◌∷◌, ◌++◌, length, ⊤}
use Rattle.serde_json.specs.Data.{Data}
use Rattle.xds_resource.specs.declared.types.TypeName.{TypeName}
use Rattle.xds_resource.specs.declared.refusal.Refusal.{Refusal}
use Rattle.xds_resource.specs.declared.refusal.Refusal.TheVariants.{NotJson, BadMessage, OutOfMemory, CounterSpent}
use Rattle.xds_resource.specs.Stamps.{max_counter}
use Rattle.xds_resource.specs.Writes.{StampedWrite}
use Rattle.xds_resource.specs.TypedWrites.{TypedWrite}
use Rattle.xds_message.specs.Spelling.{IsJson}
use Rattle.xds_message.specs.Messages.{Request, SpellsRequest}
use Rattle.xds_message.specs.StampedWrites.{SpellsWrite}
use Rattle.xds_catalogue.specs.Holdings.{Holdings}
use Rattle.xds_catalogue.specs.Joins.{joined}
use Rattle.xds_script.specs.Lines.{lines}
use Rattle.xds_causes.specs.WriteLines.{AreWriteLines, IsWriteLine}
use Rattle.xds_program.specs.Answers.{held_of, answer}

-- the line is JSON that spells the request, and the request names a type
abbrev pub IsRequestLine : List ℕ → Request → Type 0
IsRequestLine line m = (d : Data) × IsJson line d × SpellsRequest d m × (m.type_url ≢ [])

-- The bytes are the answer to an input of good lines alone.
pub record IsAnswer (replica : ℕ) (input output : List ℕ) : Type 0 where
  -- the lines of the writes, and that of the request
  pub write_lines : List (List ℕ)
  pub request_line : List ℕ
  -- what they spell
  pub writes : List TypedWrite
  pub request : Request
  pub lines_are : lines input ≡ write_lines ++ request_line ∷ []
  pub writes_are : AreWriteLines write_lines writes
  pub request_is : IsRequestLine request_line request
  pub output_is : output ≡ answer replica writes request

-- why a line is refused as a write, by what is held of each type before it
abbrev pub RefusesWrite : (TypeName → Holdings) → List ℕ → Refusal → Type 0
RefusesWrite held line NotJson = (d : Data) → IsJson line d → ⊥
RefusesWrite held line BadMessage = (d : Data) × IsJson line d × ((t : TypeName) (w : StampedWrite) → SpellsWrite d t w → ⊥)
RefusesWrite held line CounterSpent = (x : TypedWrite) × IsWriteLine line x × (max_counter < (joined (held x.0) (x.1 ∷ [])).changes)
RefusesWrite held line OutOfMemory = ⊤
RefusesWrite held line _ = ⊥

-- why a line is refused as a request
abbrev pub RefusesRequest : List ℕ → Refusal → Type 0
RefusesRequest line NotJson = (d : Data) → IsJson line d → ⊥
RefusesRequest line BadMessage = (d : Data) × IsJson line d × ((m : Request) → SpellsRequest d m → m.type_url ≡ [])
RefusesRequest line OutOfMemory = ⊤
RefusesRequest line _ = ⊥

-- the line after these writes is refused: the last of the input as a request, and any other as a write
abbrev pub RefusesLine : List TypedWrite → List ℕ → List (List ℕ) → Refusal → Type 0
RefusesLine xs line [] e = RefusesRequest line e
RefusesLine xs line (next ∷ ls) e = RefusesWrite (held_of xs) line e

-- All lines before this one are good, and this one is refused.
pub record IsFault (input : List ℕ) (line : ℕ) (refusal : Refusal) : Type 0 where
  pub before : List (List ℕ)
  pub at_fault : List ℕ
  pub after : List (List ℕ)
  -- what the lines before spell
  pub writes : List TypedWrite
  pub lines_are : lines input ≡ before ++ at_fault ∷ after
  pub number_is : line ≡ length before + 1
  pub writes_are : AreWriteLines before writes
  pub refused : RefusesLine writes at_fault after refusal
