use Rattle.std.proofs.Common.{◌≡◌, map, take}
use Rattle.std.specs.List.{filter}
use Rattle.xds_catalogue.specs.Content.{is_shown}
use Rattle.xds_catalogue.proofs.catalogue.shown_of.Given as goal

abbrev pub invariant-loop-write : goal.invariant-loop-write
invariant-loop-write g l = map (λ w. w.now) l.shown.items ≡ filter (is_shown l.interest) (map (λ w. w.now) (take l.write-index l.writes))
