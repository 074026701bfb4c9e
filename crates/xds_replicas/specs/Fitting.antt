-- Puts by which the whole response of their type would be too long for a frame. This project's own.
--     change_after    the count of changes once one more is made
--     long_fault      that a response of this type of so many bytes is too long
--     put_fault       why a put isn't made over the writes of its type after so many changes, if it isn't
--     resource_fault  why a resource of a type isn't put over a batch after so many changes of each type, if it isn't
--     grown_bytes     how many bytes the response of writes has that are in the place of others, if it is refused for that
--     grown_fault     why writes of a type aren't taken in the place of others, if they aren't
--     start_fault     why writes of all types aren't: of the first type of which they aren't
use Rattle.std.specs.Prelude.{ℕ, ◌+◌, ◌-◌, ◌^◌, min, length, List, Option, Some, None}
use Rattle.std.specs.Option.{option_map, option_or}
use Rattle.xds_resource.specs.declared.refusal.Refusal.TheVariants.{FrameTooLong}
use Rattle.xds_resource.specs.declared.types.TypeName.{TypeName}
use Rattle.xds_resource.specs.declared.types.TypeName.TheVariants.{Cluster, Endpoint, Listener, Route, Secret}
use Rattle.xds_resource.specs.PerType.{PerType, at}
use Rattle.xds_resource.specs.Resources.{NamedBody}
use Rattle.xds_resource.specs.Writes.{StampedWrite}
use Rattle.xds_core.specs.Stores.{Batch}
use Rattle.xds_stats.specs.Sizes.{beyond_by, last_response, refused_bytes, response_bytes}
use Rattle.xds_notes.specs.declared.fault.Fault.{Fault}
use Rattle.xds_upkeep.specs.Linting.{looked_write}

-- the count of changes once one more is made
abbrev pub change_after : ℕ → ℕ
change_after changes = min (changes + 1) (2 ^ 64 - 1)

-- a response of this type of so many bytes is too long
abbrev pub long_fault : TypeName → ℕ → Fault
long_fault kind bytes = record { refusal = FrameTooLong; cause = None; long = Some (record { kind = kind; bytes = bytes }) }

-- why a put isn't made over the writes of its type after so many changes, if it isn't
abbrev pub put_fault : TypeName → ℕ → ℕ → StampedWrite → List StampedWrite → Option Fault
put_fault kind replica changes put ws = option_map (long_fault kind) (beyond_by kind replica (change_after changes) put ws)

-- why a resource of a type isn't put over a batch after so many changes of each type, if it isn't
abbrev pub resource_fault : ℕ → PerType ℕ → Batch → TypeName → NamedBody → Option Fault
resource_fault replica changes held t r = put_fault t replica (at changes t) (looked_write r) (at held t)

-- How many bytes the longest response of writes has that are in the place of others, if it is refused for that. There were no more changes
-- than there are writes.
abbrev pub grown_bytes : TypeName → ℕ → List StampedWrite → List StampedWrite → Option ℕ
grown_bytes kind replica before after =
    refused_bytes (response_bytes kind replica (length after) last_response before) (response_bytes kind replica (length after) last_response after)

-- why writes of a type aren't taken in the place of others, if they aren't
abbrev pub grown_fault : TypeName → ℕ → List StampedWrite → List StampedWrite → Option Fault
grown_fault kind replica before after = option_map (long_fault kind) (grown_bytes kind replica before after)

-- why writes of all types aren't, if they aren't: of the first type of which they aren't
abbrev pub start_fault : ℕ → Batch → Batch → Option Fault
start_fault replica before after =
    option_or (option_or (option_or (option_or
    (grown_fault Cluster replica before.cluster after.cluster)
    (grown_fault Endpoint replica before.endpoint after.endpoint))
    (grown_fault Listener replica before.listener after.listener))
    (grown_fault Route replica before.route after.route))
    (grown_fault Secret replica before.secret after.secret)
