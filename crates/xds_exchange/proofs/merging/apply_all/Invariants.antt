use Rattle.std.proofs.Common.{length}
use Rattle.xds_exchange.proofs.ByParts.{Merging}
use Rattle.xds_exchange.proofs.merging.apply_all.Given as goal

abbrev pub invariant-loop-part : goal.invariant-loop-part
invariant-loop-part l = Merging l.initial.to l.initial.outbox l.parts l.grown l.to l.outbox

abbrev pub decreases-loop-part : goal.decreases-loop-part
decreases-loop-part l = length l.outbox
