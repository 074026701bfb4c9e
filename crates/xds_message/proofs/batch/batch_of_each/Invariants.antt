use Rattle.std.proofs.Common.{◌≡◌, List, take, map}
use Rattle.std.specs.List.{AllZip}
use Rattle.serde_json.specs.View.{view}
use Rattle.xds_resource.specs.TypedWrites.{TypedWrite}
use Rattle.xds_message.specs.Batches.{by_type}
use Rattle.xds_message.specs.StampedWrites.{IsSpelledBy}
use Rattle.xds_message.proofs.batch.batch_of_each.Given as goal

abbrev pub invariant-loop-item : goal.invariant-loop-item
invariant-loop-item l =
    (done : List TypedWrite) × AllZip IsSpelledBy (map view (take l.item-index l.items.items)) done × (by_type done ≡ l.batch)
