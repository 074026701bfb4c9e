use Rattle.std.proofs.Common.{◌≡◌, take}
use Rattle.std.specs.FinSet as set
use Rattle.xds_node.proofs.node.prints.Prints.insert_each.Given as goal

abbrev pub invariant-loop-print : goal.invariant-loop-print
invariant-loop-print l = l.self ≡ set.union l.initial.self (set.from_list (take l.print-index l.prints))
