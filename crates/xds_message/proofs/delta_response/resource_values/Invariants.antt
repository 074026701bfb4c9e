use Rattle.std.proofs.Common.{◌≡◌, ◌++◌, length, map}
use Rattle.std.specs.Vec.Iter.{into_iter_items, into_iter_len}
use Rattle.serde_json.specs.View.{view}
use Rattle.xds_message.specs.DeltaWritten.{resource_object}
use Rattle.xds_message.specs.Responses.{resource_of}
use Rattle.xds_message.proofs.delta_response.resource_values.Given as goal

abbrev pub invariant-loop-resource : goal.invariant-loop-resource
invariant-loop-resource l =
    (map view l.values.items ++ map (λ r. resource_object (resource_of r)) (into_iter_items l.resource-iterator) ≡ map (λ r. resource_object (resource_of r)) l.fn.resources.items)
    × (into_iter_len l.resource-iterator ≡ length (into_iter_items l.resource-iterator))
