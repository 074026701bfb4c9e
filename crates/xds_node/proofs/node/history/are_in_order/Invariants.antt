use Rattle.std.proofs.Common.{drop}
use Rattle.xds_node.proofs.InOrder.{Decides}
use Rattle.xds_node.proofs.node.history.are_in_order.Given as goal

abbrev pub invariant-loop-segment : goal.invariant-loop-segment
invariant-loop-segment g l = Decides l.last l.left (drop l.segment-index l.segments) l.segments
