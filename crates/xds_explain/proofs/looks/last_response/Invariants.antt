use Rattle.std.specs.Prelude.{◌≡◌, ◌+◌, drop, None}
use Rattle.xds_explain.specs.Looks.{last_response_from}
use Rattle.xds_explain.proofs.looks.last_response.Given as goal

-- what is left decides
abbrev pub invariant-loop-i : goal.invariant-loop-i
invariant-loop-i l = last_response_from l.stream 1 l.lines None ≡ last_response_from l.stream (l.i + 1) (drop l.i l.lines) l.last
