use Rattle.std.proofs.Common.{◌-◌}
use Rattle.std.specs.FinMap as finmap
use Rattle.xds_ledger.proofs.Walking.{IsWalkedTo}
use Rattle.xds_ledger.proofs.listed.changed_since.Given as goal

abbrev pub invariant-loop-number : goal.invariant-loop-number
invariant-loop-number g l = IsWalkedTo l.catalogue l.mark l.last (finmap.get l.catalogue.latest) finmap.empty l.changed

abbrev pub decreases-loop-number : goal.decreases-loop-number
decreases-loop-number g l = l.catalogue.changes - l.last
