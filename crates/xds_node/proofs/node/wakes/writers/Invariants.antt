use Rattle.std.proofs.Common.{◌≡◌, vec_len}
use Rattle.xds_node.proofs.node.wakes.writers.Given as goal

abbrev pub invariant-loop : goal.invariant-loop
invariant-loop l = vec_len l.lanes ≡ l.counter
