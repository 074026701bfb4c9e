use Rattle.std.proofs.Common.{◌≡◌, ◌++◌, map, string_bytes, drop}
use Rattle.xds_port.specs.Deletions.{deletions}
use Rattle.xds_port.proofs.deletions.deletions.Given as goal

-- what is written, and what is left to write, is all
abbrev pub invariant-loop-name : goal.invariant-loop-name
invariant-loop-name l =
    string_bytes l.text ++ deletions l.replica l.kind (map string_bytes (drop l.name-index l.names)) ≡ deletions l.replica l.kind (map string_bytes l.names)
