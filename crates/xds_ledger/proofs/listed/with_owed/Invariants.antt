use Rattle.std.proofs.Common.{◌≡◌, Some, None}
use Rattle.std.specs.Prelude.{if◌then◌else◌}
use Rattle.std.specs.FinMap as finmap
use Rattle.xds_resource.specs.Names.{pairs, put_all}
use Rattle.xds_ledger.specs.Owed.{is_owed}
use Rattle.xds_ledger.proofs.listed.with_owed.Given as goal

-- what is left decides
abbrev pub invariant-loop-name : goal.invariant-loop-name
invariant-loop-name g l =
    put_all (λ name number. if is_owed l.variant g.T.ResourceType.TYPE l.interest l.catalogue.entries l.beliefs name then Some number else None) l.kept (pairs l.name-iterator)
    ≡ put_all (λ name number. if is_owed l.variant g.T.ResourceType.TYPE l.interest l.catalogue.entries l.beliefs name then Some number else None) l.initial.kept (finmap.entries l.names)
