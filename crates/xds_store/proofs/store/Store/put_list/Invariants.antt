use Rattle.std.proofs.Common.{take}
use Rattle.xds_message.specs.Batches.{typed}
use Rattle.xds_store.proofs.Batches.{IsPutSoFar}
use Rattle.xds_store.proofs.store.Store.put_list.Given as goal

abbrev pub invariant-loop-write : goal.invariant-loop-write
invariant-loop-write g l = IsPutSoFar g.S.Store.view g.S.Store.recovers l.initial.self.trees l.self.trees (typed g.T.ResourceType.TYPE (take l.write-index l.writes.items))
