-- Lines that spell stamped writes. This project's own.
--     IsWriteLine      the line is JSON that spells the write
--     AreWriteLines    each line is the write at its place
use Rattle.std.specs.Prelude.{ℕ, List, [], ◌∷◌, ⊤}
use Rattle.serde_json.specs.Data.{Data}
use Rattle.xds_resource.specs.TypedWrites.{TypedWrite}
use Rattle.xds_message.specs.Spelling.{IsJson}
use Rattle.xds_message.specs.StampedWrites.{SpellsWrite}

-- the line is JSON that spells the write
abbrev pub IsWriteLine : List ℕ → TypedWrite → Type 0
IsWriteLine line x = (d : Data) × IsJson line d × SpellsWrite d x.0 x.1

-- each line is the write at its place
abbrev pub AreWriteLines : List (List ℕ) → List TypedWrite → Type 0
AreWriteLines [] [] = ⊤
AreWriteLines [] (x ∷ xs) = ⊥
AreWriteLines (line ∷ ls) [] = ⊥
AreWriteLines (line ∷ ls) (x ∷ xs) = IsWriteLine line x × AreWriteLines ls xs
