use Rattle.std.proofs.Common.{◌≡◌, take}
use Rattle.xds_message.proofs.batch.copy_writes.Given as goal

abbrev pub invariant-loop-write : goal.invariant-loop-write
invariant-loop-write g l = l.copies.items ≡ take l.write-index l.writes.items
