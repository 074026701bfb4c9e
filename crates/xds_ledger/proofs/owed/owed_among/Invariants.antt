use Rattle.std.proofs.Common.{◌≡◌}
use Rattle.std.specs.List.{list_any}
use Rattle.std.specs.FinMap as finmap
use Rattle.xds_resource.specs.Names.{pairs}
use Rattle.xds_ledger.specs.Owed.{is_owed}
use Rattle.xds_ledger.proofs.owed.owed_among.Given as goal

-- what is left decides
abbrev pub invariant-loop-name : goal.invariant-loop-name
invariant-loop-name g l =
    list_any (λ e. is_owed l.variant g.T.ResourceType.TYPE l.interest l.catalogue.entries l.beliefs e.0) (finmap.entries l.names)
    ≡ list_any (λ e. is_owed l.variant g.T.ResourceType.TYPE l.interest l.catalogue.entries l.beliefs e.0) (pairs l.name-iterator)
