use Rattle.std.proofs.Common.{◌≡◌, ◌-◌, true}
use Rattle.xds_ledger.specs.Repeats.{has_what_is_said}
use Rattle.xds_ledger.proofs.LookedAt.{LookedAt}
use Rattle.xds_ledger.proofs.repeats.has_what_is_said_where_changed.Given as goal

-- the offer still says it of each name that was looked at
abbrev pub invariant-loop-number : goal.invariant-loop-number
invariant-loop-number g l = LookedAt (λ name. has_what_is_said l.refused l.variant g.T.ResourceType.TYPE l.interest l.catalogue.entries l.beliefs name ≡ true) l.catalogue l.mark l.after

abbrev pub decreases-loop-number : goal.decreases-loop-number
decreases-loop-number g l = l.catalogue.changes - l.after
