-- Resources that are marked to be refused. This project's own.
--     is_unmarked_by   whether a resource's mark lets the client take it
--     is_unmarked      whether a body lacks `"reject":true` at its top level
use Rattle.std.specs.Prelude.{Bool, true, not, Option, Some, None, codes}
use Rattle.serde_json.specs.Data.{Data, null, boolean, number, string, array, object}
use Rattle.serde_json.specs.Find.{get}

abbrev pub is_unmarked_by : Option Data → Bool
is_unmarked_by None = true
is_unmarked_by (Some null) = true
is_unmarked_by (Some (boolean b)) = not b
is_unmarked_by (Some (number n)) = true
is_unmarked_by (Some (string s)) = true
is_unmarked_by (Some (array ds)) = true
is_unmarked_by (Some (object ms)) = true

-- whether a body lacks `"reject":true` at its top level
abbrev pub is_unmarked : Data → Bool
is_unmarked body = is_unmarked_by (get (codes "reject") body)
