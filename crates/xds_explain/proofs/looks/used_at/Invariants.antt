use Rattle.std.specs.Prelude.{◌≡◌, ◌+◌, drop}
use Rattle.xds_explain.specs.Looks.{used_from}
use Rattle.xds_explain.proofs.looks.used_at.Given as goal

-- what is left decides
abbrev pub invariant-loop-i : goal.invariant-loop-i
invariant-loop-i l = used_from l.stream l.nonce 1 l.lines ≡ used_from l.stream l.nonce (l.i + 1) (drop l.i l.lines)
