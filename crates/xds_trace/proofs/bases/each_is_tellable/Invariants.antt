use Rattle.std.proofs.Common.{◌-◌}
use Rattle.xds_trace.proofs.AnyBase.{LookedThrough}
use Rattle.xds_trace.proofs.bases.each_is_tellable.Given as goal

-- each entry that was looked at could be read
abbrev pub invariant-loop-number : goal.invariant-loop-number
invariant-loop-number g l = LookedThrough g.T.ResourceType.TYPE l.catalogue l.last

abbrev pub decreases-loop-number : goal.decreases-loop-number
decreases-loop-number g l = l.catalogue.changes - l.last
