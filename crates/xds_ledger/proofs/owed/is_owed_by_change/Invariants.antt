use Rattle.std.proofs.Common.{◌≡◌, ◌-◌, false}
use Rattle.xds_ledger.specs.Owed.{is_owed}
use Rattle.xds_ledger.proofs.LookedAt.{LookedAt}
use Rattle.xds_ledger.proofs.owed.is_owed_by_change.Given as goal

-- nothing is owed of a name that was looked at
abbrev pub invariant-loop-number : goal.invariant-loop-number
invariant-loop-number g l = LookedAt (λ name. is_owed l.variant g.T.ResourceType.TYPE l.interest l.catalogue.entries l.beliefs name ≡ false) l.catalogue l.mark l.after

abbrev pub decreases-loop-number : goal.decreases-loop-number
decreases-loop-number g l = l.catalogue.changes - l.after
