use Rattle.std.proofs.Common.{◌≡◌, length}
use Rattle.std.specs.Vec.Iter.{into_iter_items, into_iter_len}
use Rattle.xds_catalogue.proofs.Batches.{JoinsSoFar}
use Rattle.xds_catalogue.proofs.batch.put_all.Given as goal

abbrev pub invariant-loop-write : goal.invariant-loop-write
invariant-loop-write g l = record {
  joins : JoinsSoFar l.initial.tables l.tables l.displaced.items (into_iter_items l.write-iterator) l.fn.writes.items;
  counted : into_iter_len l.write-iterator ≡ length (into_iter_items l.write-iterator);
}
