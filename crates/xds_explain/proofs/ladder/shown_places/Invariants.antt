use Rattle.std.specs.Prelude.{◌≡◌, ◌++◌, drop}
use Rattle.xds_explain.specs.Rows.{shown_from}
use Rattle.xds_explain.proofs.ladder.shown_places.Given as goal

-- what is left decides
abbrev pub invariant-loop-i : goal.invariant-loop-i
invariant-loop-i l = shown_from l.scope 0 l.lines ≡ l.places.items ++ shown_from l.scope l.i (drop l.i l.lines)
