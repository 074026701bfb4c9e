-- Fields of JSON objects as the proto3 JSON mapping spells them.
--     first_of   the first of two that is there
--     field      what a field holds, under its lowerCamelCase name or the proto file's
use Rattle.std.specs.Prelude.{ℕ, List, Option, Some, None}
use Rattle.serde_json.specs.Data.{Data}
use Rattle.serde_json.specs.Find.{get}

-- the first of two that is there
abbrev pub first_of : {A : Type 0} → Option A → Option A → Option A
first_of None b = b
first_of (Some a) b = Some a

-- What a field holds, under its lowerCamelCase name or the proto file's. Where both stand, the lowerCamelCase one counts.
abbrev pub field : List ℕ → List ℕ → Data → Option Data
field camel proto d = first_of (get camel d) (get proto d)
