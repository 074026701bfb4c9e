use Rattle.xds_interest.proofs.Ordered.{seen_in_order, ascend_in_order}
use Rattle.xds_interest.proofs.lists.in_order.Goals as goal

pub returns-clause-texts : goal.returns-clause-texts
returns-clause-texts c =
    seen_in_order c.args.texts.now c.in_ok-ordered.ordered.items c.sort_unstable.new.self.items c.dedup.new.self.items c.in_ok-ordered.ensures.ok c.sort_unstable.ensures.permutation c.dedup.ensures.filtered

pub returns-clause-ascending : goal.returns-clause-ascending
returns-clause-ascending c = ascend_in_order c.sort_unstable.new.self.items c.dedup.new.self.items c.sort_unstable.ensures.sorted c.dedup.ensures.filtered
