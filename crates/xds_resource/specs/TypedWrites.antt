-- Writes with their types, and those of one type among them. This project's own.
--     TypedWrite   a write, with its type
--     writes_of    the writes of a type
use Rattle.std.specs.Prelude.{List, map}
use Rattle.std.specs.List.{filter}
use Rattle.xds_resource.specs.declared.types.TypeName.{TypeName}
use Rattle.xds_resource.specs.Types.{is_same_type}
use Rattle.xds_resource.specs.Writes.{StampedWrite}

abbrev pub TypedWrite : Type 0
TypedWrite = TypeName × StampedWrite

-- the writes of a type
abbrev pub writes_of : TypeName → List TypedWrite → List StampedWrite
writes_of t ws = map (λ x. x.1) (filter (λ x. is_same_type x.0 t) ws)
