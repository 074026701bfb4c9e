use Rattle.std.proofs.Common.{◌≡◌, map, string_bytes}
use Rattle.std.specs.List.{list_any}
use Rattle.xds_ledger.specs.Named.{is_owed_since}
use Rattle.xds_ledger.proofs.named.name_owed_since.Given as goal

-- what is left decides
abbrev pub invariant-loop-name : goal.invariant-loop-name
invariant-loop-name g l =
    list_any (is_owed_since l.variant g.T.ResourceType.TYPE l.interest l.catalogue l.beliefs l.mark) (map string_bytes l.initial.name-iterator)
    ≡ list_any (is_owed_since l.variant g.T.ResourceType.TYPE l.interest l.catalogue l.beliefs l.mark) (map string_bytes l.name-iterator)
