use Rattle.std.proofs.Common.{◌-◌}
use Rattle.xds_events.proofs.Walking.{IsWalkedTo}
use Rattle.xds_events.proofs.changed.by_name.Given as goal

abbrev pub invariant-loop-number : goal.invariant-loop-number
invariant-loop-number g l = IsWalkedTo l.catalogue l.mark l.last l.changed

abbrev pub decreases-loop-number : goal.decreases-loop-number
decreases-loop-number g l = l.catalogue.changes - l.last
