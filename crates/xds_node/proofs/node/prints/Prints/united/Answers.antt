use Rattle.std.proofs.Common.{◌++◌, ◌∙◌}
use Rattle.xds_node.proofs.Fingerprints.{once_up, seen-united}
use Rattle.xds_node.proofs.node.prints.Prints.united.Goals as goal

pub invariant_of-result : goal.invariant_of-result
invariant_of-result c = once_up _ _ c.sort_unstable.ensures.sorted c.dedup.ensures.filtered

pub returns : goal.returns
returns c =
    seen-united c.self.inside.sorted.items c.more.inside.sorted.items c.in_ok-sorted.sorted.items c.sort_unstable.new.self.items c.dedup.new.self.items c.args.self.now c.args.more.now
    c.self.view_is c.more.view_is (c.in_ok-sorted.ensures ∙ (λ i. c.as_slice.ensures.value i ++ c.as_slice-2.ensures.value i)) c.sort_unstable.ensures.permutation c.dedup.ensures.filtered
