use Rattle.std.proofs.Common.{◌≡◌}
use Rattle.std.specs.List.{list_all}
use Rattle.std.specs.FinMap as finmap
use Rattle.xds_resource.specs.Names.{pairs}
use Rattle.xds_ledger.specs.Repeats.{has_what_is_said}
use Rattle.xds_ledger.proofs.repeats.has_what_is_said_among.Given as goal

-- what is left decides
abbrev pub invariant-loop-name : goal.invariant-loop-name
invariant-loop-name g l =
    list_all (λ e. has_what_is_said l.refused l.variant g.T.ResourceType.TYPE l.interest l.catalogue.entries l.beliefs e.0) (finmap.entries l.names)
    ≡ list_all (λ e. has_what_is_said l.refused l.variant g.T.ResourceType.TYPE l.interest l.catalogue.entries l.beliefs e.0) (pairs l.name-iterator)
