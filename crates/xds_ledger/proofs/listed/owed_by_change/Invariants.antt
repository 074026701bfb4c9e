use Rattle.std.proofs.Common.{◌-◌, None}
use Rattle.std.specs.Prelude.{if◌then◌else◌}
use Rattle.std.specs.FinMap as finmap
use Rattle.xds_ledger.specs.Owed.{is_owed}
use Rattle.xds_ledger.proofs.Walking.{IsWalkedTo}
use Rattle.xds_ledger.proofs.listed.owed_by_change.Given as goal

abbrev pub invariant-loop-number : goal.invariant-loop-number
invariant-loop-number g l =
    IsWalkedTo l.catalogue l.mark l.last (λ name. if is_owed l.variant g.T.ResourceType.TYPE l.interest l.catalogue.entries l.beliefs name then finmap.get l.catalogue.latest name else None) finmap.empty l.kept

abbrev pub decreases-loop-number : goal.decreases-loop-number
decreases-loop-number g l = l.catalogue.changes - l.last
