use Rattle.std.proofs.Common.{◌≡◌, map, take}
use Rattle.xds_events.proofs.catalogues.writes_of.Given as goal

abbrev pub invariant-loop-write : goal.invariant-loop-write
invariant-loop-write g l = l.writes.items ≡ map (λ w. w.now) (take l.write-index l.write-items)
