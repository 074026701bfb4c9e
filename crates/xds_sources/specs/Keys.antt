-- Names with their types, by which resources of all types stand in one map. This project's own.
--     key   a name with its type: the word of the type, a space, and the name
use Rattle.std.specs.Prelude.{ℕ, List, ◌++◌, codes}
use Rattle.xds_resource.specs.declared.types.TypeName.{TypeName}
use Rattle.xds_resource.specs.Types.{row}

abbrev pub key : TypeName → List ℕ → List ℕ
key t name = (row t).word ++ (codes " " ++ name)
