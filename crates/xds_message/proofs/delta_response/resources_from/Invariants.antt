use Rattle.std.proofs.Common.{◌≡◌, ◌++◌, List, length, map}
use Rattle.std.specs.List.{AllZip}
use Rattle.std.specs.Vec.Iter.{into_iter_items, into_iter_len}
use Rattle.serde_json.specs.Data.{Data}
use Rattle.serde_json.specs.View.{view}
use Rattle.xds_message.specs.DeltaMessages.{SpellsResource}
use Rattle.xds_message.specs.Responses.{resource_of}
use Rattle.xds_message.proofs.delta_response.resources_from.Given as goal

abbrev pub invariant-loop-value : goal.invariant-loop-value
invariant-loop-value l =
    (done : List Data) × (map view l.fn.values.items ≡ done ++ map view (into_iter_items l.value-iterator)) × AllZip SpellsResource done (map resource_of l.resources.items)
    × (into_iter_len l.value-iterator ≡ length (into_iter_items l.value-iterator))
