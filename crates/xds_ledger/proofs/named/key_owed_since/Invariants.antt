use Rattle.std.proofs.Common.{◌≡◌}
use Rattle.std.specs.List.{list_any}
use Rattle.xds_resource.specs.Names.{pairs}
use Rattle.xds_ledger.specs.Named.{is_owed_since}
use Rattle.xds_ledger.proofs.named.key_owed_since.Given as goal

-- what is left decides
abbrev pub invariant-loop-name : goal.invariant-loop-name
invariant-loop-name g l =
    list_any (λ e. is_owed_since l.variant g.T.ResourceType.TYPE l.interest l.catalogue l.beliefs l.mark e.0) (pairs l.initial.name-iterator)
    ≡ list_any (λ e. is_owed_since l.variant g.T.ResourceType.TYPE l.interest l.catalogue l.beliefs l.mark e.0) (pairs l.name-iterator)
