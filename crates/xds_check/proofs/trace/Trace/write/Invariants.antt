use Rattle.std.proofs.Common.{◌≡◌, take, map, All}
use Rattle.std.specs.String.{string_bytes}
use Rattle.xds_check.specs.Texts.{HasStream, Says, ended, line_text}
use Rattle.xds_check.proofs.trace.Trace.write.Given as goal

abbrev pub invariant-loop-line : goal.invariant-loop-line
invariant-loop-line l =
    (string_bytes l.out ≡ ended (map line_text (take l.line-index l.self)))
    × (All HasStream l.self → All (λ x. Says (line_text x) x) (take l.line-index l.self))
