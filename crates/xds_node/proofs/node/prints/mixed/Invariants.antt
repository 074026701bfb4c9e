use Rattle.std.proofs.Common.{◌≡◌, drop}
use Rattle.xds_node.specs.Prints.{mixed}
use Rattle.xds_node.proofs.node.prints.mixed.Given as goal

abbrev pub invariant-loop-byte : goal.invariant-loop-byte
invariant-loop-byte l = mixed l.sum (drop l.byte-index l.byte-items) ≡ mixed l.initial.sum l.byte-items
