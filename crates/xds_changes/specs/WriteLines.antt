-- Stamped writes as lines. This project's own.
--     lines_in          the lines of a body; no byte is no line
--     AreWritesIn       the lines spell writes, which come to this batch
--     RefusesWriteLine  why a line is refused
--     IsBadLine         all lines before this one spell writes, and this one is refused
--     line_of           the line of a write, with its line feed
--     lines_of          the lines of writes of a type
--     following         the type behind this one in the types' table
--     behind            the lines of the writes of all types behind this one
--     left_of           the lines of the writes of a type from a place on, and of the types behind it
--     left_at           the lines that are left where a type is at work; nothing where none is
--     text_of           the lines of all writes of a batch
use Rattle.std.specs.Prelude.{◌≡◌, ◌+◌, ◌==◌, ℕ, List, [], ◌∷◌, ◌++◌, Option, Some, None, length, drop, ⊤, if◌then◌else◌}
use Rattle.std.specs.List.{flat_map}
use Rattle.serde_json.specs.Data.{Data}
use Rattle.serde_json.specs.Written.{compact_text}
use Rattle.xds_resource.specs.declared.types.TypeName.{TypeName}
use Rattle.xds_resource.specs.declared.types.TypeName.TheVariants.{Cluster, Endpoint, Listener, Route, Secret}
use Rattle.xds_resource.specs.declared.refusal.Refusal.{Refusal}
use Rattle.xds_resource.specs.declared.refusal.Refusal.TheVariants.{NotJson, BadMessage, OutOfMemory}
use Rattle.xds_resource.specs.PerType.{PerType, at}
use Rattle.xds_resource.specs.TypedWrites.{TypedWrite}
use Rattle.xds_resource.specs.Writes.{StampedWrite}
use Rattle.xds_message.specs.Spelling.{IsJson}
use Rattle.xds_message.specs.Batches.{by_type}
use Rattle.xds_message.specs.StampedWrites.{SpellsWrite, write_object}
use Rattle.xds_script.specs.Lines.{lines}
use Rattle.xds_causes.specs.WriteLines.{AreWriteLines}

-- the lines of a body; no byte is no line
abbrev pub lines_in : List ℕ → List (List ℕ)
lines_in body = if length body == 0 then [] else lines body

-- the lines spell writes, which come to this batch
pub record AreWritesIn (body : List ℕ) (batch : PerType (List StampedWrite)) : Type 0 where
  pub writes : List TypedWrite
  pub spelled : AreWriteLines (lines_in body) writes
  pub batch_is : by_type writes ≡ batch

-- why a line is refused
abbrev pub RefusesWriteLine : List ℕ → Refusal → Type 0
RefusesWriteLine line NotJson = (d : Data) → IsJson line d → ⊥
RefusesWriteLine line BadMessage = (d : Data) × IsJson line d × ((t : TypeName) (w : StampedWrite) → SpellsWrite d t w → ⊥)
RefusesWriteLine line OutOfMemory = ⊤
RefusesWriteLine line _ = ⊥

-- all lines before this one spell writes, and this one is refused
pub record IsBadLine (body : List ℕ) (line : ℕ) (refusal : Refusal) : Type 0 where
  pub before : List (List ℕ)
  pub at_fault : List ℕ
  pub after : List (List ℕ)
  pub writes : List TypedWrite
  pub lines_are : lines_in body ≡ before ++ at_fault ∷ after
  pub number_is : line ≡ length before + 1
  pub writes_are : AreWriteLines before writes
  pub refused : RefusesWriteLine at_fault refusal

-- the line of a write, with its line feed
abbrev pub line_of : TypeName → StampedWrite → List ℕ
line_of t w = compact_text (write_object t w) ++ 10 ∷ []

-- the lines of writes of a type
abbrev pub lines_of : TypeName → List StampedWrite → List ℕ
lines_of t ws = flat_map (line_of t) ws

-- the type behind this one in the types' table
abbrev pub following : TypeName → Option TypeName
following Cluster = Some Endpoint
following Endpoint = Some Listener
following Listener = Some Route
following Route = Some Secret
following Secret = None

-- the lines of the writes of all types behind this one
abbrev pub behind : PerType (List StampedWrite) → TypeName → List ℕ
behind b Cluster = lines_of Endpoint (at b Endpoint) ++ (lines_of Listener (at b Listener) ++ (lines_of Route (at b Route) ++ (lines_of Secret (at b Secret) ++ [])))
behind b Endpoint = lines_of Listener (at b Listener) ++ (lines_of Route (at b Route) ++ (lines_of Secret (at b Secret) ++ []))
behind b Listener = lines_of Route (at b Route) ++ (lines_of Secret (at b Secret) ++ [])
behind b Route = lines_of Secret (at b Secret) ++ []
behind b Secret = []

-- the lines of the writes of a type from a place on, and of the types behind it
abbrev pub left_of : PerType (List StampedWrite) → TypeName → ℕ → List ℕ
left_of b t i = lines_of t (drop i (at b t)) ++ behind b t

-- the same, or nothing where no type is at work
abbrev pub left_at : PerType (List StampedWrite) → Option TypeName → ℕ → List ℕ
left_at b None i = []
left_at b (Some t) i = left_of b t i

-- the lines of all writes of a batch
abbrev pub text_of : PerType (List StampedWrite) → List ℕ
text_of b = left_of b Cluster 0
