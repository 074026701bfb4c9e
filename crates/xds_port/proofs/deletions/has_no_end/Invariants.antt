use Rattle.std.proofs.Common.{◌≡◌, drop}
use Rattle.std.specs.List.{list_all}
use Rattle.xds_port.specs.Deletions.{is_apart}
use Rattle.xds_port.proofs.deletions.has_no_end.Given as goal

-- what is left decides
abbrev pub invariant-loop-byte : goal.invariant-loop-byte
invariant-loop-byte l = list_all is_apart l.bytes ≡ list_all is_apart (drop l.byte-index l.bytes)
