use Rattle.std.proofs.Common.{◌≡◌, ◌++◌, map, take, drop}
use Rattle.xds_node.specs.Sleeping.{left_in}
use Rattle.xds_node.proofs.node.sleepers.Sleepers.taken_all.Given as goal

abbrev pub invariant-loop-slot : goal.invariant-loop-slot
invariant-loop-slot l = l.slot-items ≡ map (left_in l.written) (take l.slot-index l.initial.slot-items) ++ drop l.slot-index l.initial.slot-items
