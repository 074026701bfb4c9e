use Rattle.std.specs.Prelude.{◌≡◌, ◌+◌, drop, None}
use Rattle.std.specs.Option.{option_map}
use Rattle.xds_explain.specs.BestLines.{best_from}
use Rattle.xds_explain.proofs.best.best_line.Given as goal

-- what is left decides
abbrev pub invariant-loop-i : goal.invariant-loop-i
invariant-loop-i g l =
    best_from g.T.ResourceType.TYPE l.name 1 l.lines None ≡ best_from g.T.ResourceType.TYPE l.name (l.i + 1) (drop l.i l.lines) (option_map (λ p. (p.0, p.1.now)) l.best)
