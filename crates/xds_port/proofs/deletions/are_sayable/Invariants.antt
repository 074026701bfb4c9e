use Rattle.std.proofs.Common.{◌≡◌, map, string_bytes, drop}
use Rattle.xds_port.specs.Deletions.{are_sayable}
use Rattle.xds_port.proofs.deletions.are_sayable.Given as goal

-- what is left decides
abbrev pub invariant-loop-name : goal.invariant-loop-name
invariant-loop-name l = are_sayable (map string_bytes l.names) ≡ are_sayable (map string_bytes (drop l.name-index l.names))
