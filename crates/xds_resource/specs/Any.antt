-- A resource or a write of any type, as its type and what it is there. This project's own.
--     resource_type                                          the type of a resource of any type
--     named_body                                             its name and body
--     write_type                                             the type of a write of any type
--     stamped_write                                          the write itself
--     any_write                                              a write of a type, as one of any
use Rattle.xds_resource.specs.declared.types.TypeName.{TypeName}
use Rattle.xds_resource.specs.declared.types.TypeName.TheVariants as types
use Rattle.xds_resource.specs.declared.any.AnyResource.{AnyResource}
use Rattle.xds_resource.specs.declared.any.AnyResource.TheVariants as resources
use Rattle.xds_resource.specs.declared.any.AnyWrite.{AnyWrite}
use Rattle.xds_resource.specs.declared.any.AnyWrite.TheVariants as writes
use Rattle.xds_resource.specs.Resources.{NamedBody}
use Rattle.xds_resource.specs.Writes.{StampedWrite}

abbrev pub resource_type : AnyResource → TypeName
resource_type (resources.Cluster r) = types.Cluster
resource_type (resources.Endpoint r) = types.Endpoint
resource_type (resources.Listener r) = types.Listener
resource_type (resources.Route r) = types.Route
resource_type (resources.Secret r) = types.Secret

abbrev pub named_body : AnyResource → NamedBody
named_body (resources.Cluster r) = r
named_body (resources.Endpoint r) = r
named_body (resources.Listener r) = r
named_body (resources.Route r) = r
named_body (resources.Secret r) = r

abbrev pub write_type : AnyWrite → TypeName
write_type (writes.Cluster w) = types.Cluster
write_type (writes.Endpoint w) = types.Endpoint
write_type (writes.Listener w) = types.Listener
write_type (writes.Route w) = types.Route
write_type (writes.Secret w) = types.Secret

abbrev pub stamped_write : AnyWrite → StampedWrite
stamped_write (writes.Cluster w) = w
stamped_write (writes.Endpoint w) = w
stamped_write (writes.Listener w) = w
stamped_write (writes.Route w) = w
stamped_write (writes.Secret w) = w

-- a write of a type, as one of any
abbrev pub any_write : TypeName → StampedWrite → AnyWrite
any_write types.Cluster w = writes.Cluster w
any_write types.Endpoint w = writes.Endpoint w
any_write types.Listener w = writes.Listener w
any_write types.Route w = writes.Route w
any_write types.Secret w = writes.Secret w
