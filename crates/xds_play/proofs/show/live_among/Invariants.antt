use Rattle.std.proofs.Common.{◌≡◌, ◌++◌, map, drop}
use Rattle.std.specs.Prelude.{filter}
use Rattle.xds_catalogue.specs.Content.{is_live}
use Rattle.xds_play.proofs.show.live_among.Given as goal

abbrev pub invariant-loop-write : goal.invariant-loop-write
invariant-loop-write g l = map (λ w. w.now) l.live.items ++ filter is_live (drop l.write-index l.write-items) ≡ filter is_live l.write-items
