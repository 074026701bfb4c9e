use Rattle.xds_node.proofs.Fingerprints.{sorted_up, seen-shuffled}
use Rattle.xds_node.proofs.node.prints.Prints.of.Goals as goal

pub invariant_of-result : goal.invariant_of-result
invariant_of-result c = sorted_up _ c.sort_unstable.ensures.sorted

pub returns : goal.returns
returns c = seen-shuffled _ _ c.sort_unstable.ensures.permutation
