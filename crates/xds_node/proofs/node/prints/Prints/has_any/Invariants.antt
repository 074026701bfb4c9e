use Rattle.std.proofs.Common.{◌≡◌, take, false}
use Rattle.std.specs.List.{list_any}
use Rattle.std.specs.FinSet as set
use Rattle.xds_node.proofs.node.prints.Prints.has_any.Given as goal

abbrev pub invariant-loop-print : goal.invariant-loop-print
invariant-loop-print l = list_any (set.contains l.self) (take l.print-index l.prints) ≡ false
