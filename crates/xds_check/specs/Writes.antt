-- Which write of a type a write of any type is. This project's own.
--     write_of   the write, if it is one of this type
use Rattle.std.specs.Prelude.{Option, Some, None, if◌then◌else◌}
use Rattle.xds_resource.specs.declared.types.TypeName.{TypeName}
use Rattle.xds_resource.specs.declared.any.AnyWrite.{AnyWrite}
use Rattle.xds_resource.specs.Any.{write_type, stamped_write}
use Rattle.xds_resource.specs.Types.{is_same_type}
use Rattle.xds_resource.specs.Writes.{StampedWrite}

-- the write, if it is one of this type
abbrev pub write_of : TypeName → AnyWrite → Option StampedWrite
write_of t w = if is_same_type (write_type w) t then Some (stamped_write w) else None
