use Rattle.std.proofs.Common.{◌≡◌, ◌++◌, drop}
use Rattle.xds_stats.specs.Sizes.{live_texts}
use Rattle.xds_stats.proofs.sizes.live_texts.Given as goal

-- what is left is put behind what was gathered
abbrev pub invariant-loop-write : goal.invariant-loop-write
invariant-loop-write g l = l.bodies.items ++ live_texts (drop l.write-index l.writes) ≡ live_texts l.writes
