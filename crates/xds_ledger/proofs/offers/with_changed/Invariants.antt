use Rattle.std.proofs.Common.{◌-◌}
use Rattle.xds_ledger.specs.OfferParts.{told_of}
use Rattle.xds_ledger.proofs.Walking.{IsWalkedTo}
use Rattle.xds_ledger.proofs.offers.with_changed.Given as goal

abbrev pub invariant-loop-number : goal.invariant-loop-number
invariant-loop-number g l = IsWalkedTo l.catalogue l.mark l.after (told_of l.variant g.T.ResourceType.TYPE l.interest l.catalogue.entries l.beliefs) l.initial.said l.said

abbrev pub decreases-loop-number : goal.decreases-loop-number
decreases-loop-number g l = l.catalogue.changes - l.after
