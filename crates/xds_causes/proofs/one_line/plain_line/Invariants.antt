use Rattle.std.proofs.Common.{◌≡◌, take, map}
use Rattle.xds_causes.specs.PlainLines.{plain_byte}
use Rattle.xds_causes.proofs.one_line.plain_line.Given as goal

-- the bytes so far are told
abbrev pub invariant-loop-byte : goal.invariant-loop-byte
invariant-loop-byte l = l.line.items ≡ map plain_byte (take l.byte-index l.bytes)
