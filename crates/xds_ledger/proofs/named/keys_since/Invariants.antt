use Rattle.std.proofs.Common.{◌≡◌}
use Rattle.xds_resource.specs.Names.{pairs, put_all}
use Rattle.xds_ledger.specs.Named.{owed_number}
use Rattle.xds_ledger.proofs.named.keys_since.Given as goal

-- what is left decides
abbrev pub invariant-loop-name : goal.invariant-loop-name
invariant-loop-name g l =
    put_all (λ name value. owed_number l.variant g.T.ResourceType.TYPE l.interest l.catalogue l.beliefs l.mark name) l.kept (pairs l.name-iterator)
    ≡ put_all (λ name value. owed_number l.variant g.T.ResourceType.TYPE l.interest l.catalogue l.beliefs l.mark name) l.initial.kept (pairs l.initial.name-iterator)
