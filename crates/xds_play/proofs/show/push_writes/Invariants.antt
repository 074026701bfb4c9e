use Rattle.std.proofs.Common.{◌≡◌, ◌++◌, map, drop, string_bytes}
use Rattle.xds_play.specs.Shown.{write_lines}
use Rattle.xds_play.proofs.show.push_writes.Given as goal

abbrev pub invariant-loop-write : goal.invariant-loop-write
invariant-loop-write g l =
    string_bytes l.text ++ write_lines (map (λ w. w.now) (drop l.write-index l.write-items)) ≡ string_bytes l.initial.text ++ write_lines (map (λ w. w.now) l.write-items)
