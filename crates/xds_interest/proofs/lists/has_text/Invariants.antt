use Rattle.std.proofs.Common.{◌≡◌, map, take, false}
use Rattle.std.specs.String.{string_bytes}
use Rattle.xds_interest.specs.Interests.{has_name}
use Rattle.xds_interest.proofs.lists.has_text.Given as goal

abbrev pub invariant-loop-each : goal.invariant-loop-each
invariant-loop-each l = has_name (map string_bytes (take l.each-index l.texts)) l.text ≡ false
