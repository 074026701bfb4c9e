use Rattle.std.proofs.Common.{◌≡◌, map, drop, string_bytes}
use Rattle.xds_ledger.specs.Storing.{stored_all}
use Rattle.xds_ledger.proofs.storing.store_all.Given as goal

-- what is left decides
abbrev pub invariant-loop-name : goal.invariant-loop-name
invariant-loop-name l = stored_all l.base l.differences l.left (map string_bytes (drop l.name-index l.names)) ≡ stored_all l.base l.initial.differences l.initial.left (map string_bytes l.names)
