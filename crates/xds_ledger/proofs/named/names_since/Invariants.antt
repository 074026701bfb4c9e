use Rattle.std.proofs.Common.{◌≡◌, map, string_bytes}
use Rattle.xds_resource.specs.Names.{put_each}
use Rattle.xds_ledger.specs.Named.{owed_number}
use Rattle.xds_ledger.proofs.named.names_since.Given as goal

-- what is left decides
abbrev pub invariant-loop-name : goal.invariant-loop-name
invariant-loop-name g l =
    put_each (owed_number l.variant g.T.ResourceType.TYPE l.interest l.catalogue l.beliefs l.mark) l.kept (map string_bytes l.name-iterator)
    ≡ put_each (owed_number l.variant g.T.ResourceType.TYPE l.interest l.catalogue l.beliefs l.mark) l.initial.kept (map string_bytes l.initial.name-iterator)
