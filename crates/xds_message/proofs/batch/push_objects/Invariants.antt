use Rattle.std.proofs.Common.{◌≡◌, ◌++◌, take, map, All}
use Rattle.serde_json.specs.View.{view}
use Rattle.xds_message.specs.Batches.{IsSound}
use Rattle.xds_message.specs.StampedWrites.{write_object}
use Rattle.xds_message.proofs.batch.push_objects.Given as goal

abbrev pub invariant-loop-write : goal.invariant-loop-write
invariant-loop-write g l =
    (map view l.values.items ≡ map view l.initial.values.items ++ map (write_object g.T.ResourceType.TYPE) (take l.write-index l.writes.items))
    × All (λ w. IsSound (g.T.ResourceType.TYPE, w)) (take l.write-index l.writes.items)
