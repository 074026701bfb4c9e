use Rattle.std.proofs.Common.{◌∙◌}
use Rattle.xds_node.proofs.Covers.{never_fewer}
use Rattle.xds_node.proofs.node.concern.Concern.meets.Goals as goal

pub returns-clause-never_fewer : goal.returns-clause-never_fewer
returns-clause-never_fewer c t name both = c.may_meet.ensures ∙ never_fewer c.args.self.now c.args.other.now t name both
