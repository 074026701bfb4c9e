-- Laws of what is told of a trace. This project's own.
--     BestLinesAreBest    what is told as the best write of a name is the greatest among the lines
use Rattle.std.specs.Prelude.{◌≡◌, ℕ, List, reverse}
use Rattle.std.specs.Option.{option_map}
use Rattle.xds_resource.specs.declared.types.TypeName.{TypeName}
use Rattle.xds_check.specs.declared.line.Line.{Line}
use Rattle.xds_check.specs.Lines.{standing}
use Rattle.xds_explain.specs.BestLines.{best_line}

-- rule: greatest-write
-- What is told as the best write of a name is the greatest among the lines.
abbrev pub BestLinesAreBest : Type 0
BestLinesAreBest = (t : TypeName) (name : List ℕ) (trace : List Line) → option_map (λ p. p.1) (best_line t name trace) ≡ standing t (reverse trace) name
