use Rattle.std.proofs.Common.{◌≡◌, take, true}
use Rattle.std.specs.List.{list_all}
use Rattle.std.specs.FinSet as set
use Rattle.xds_node.proofs.node.prints.Prints.has_each.Given as goal

abbrev pub invariant-loop-print : goal.invariant-loop-print
invariant-loop-print l = list_all (set.contains l.self) (take l.print-index l.prints) ≡ true
