use Rattle.std.specs.Prelude.{◌≡◌, ◌+◌, drop}
use Rattle.xds_explain.specs.Looks.{first_request_from}
use Rattle.xds_explain.proofs.looks.first_request.Given as goal

-- what is left decides
abbrev pub invariant-loop-i : goal.invariant-loop-i
invariant-loop-i l = first_request_from l.stream 1 l.lines ≡ first_request_from l.stream (l.i + 1) (drop l.i l.lines)
