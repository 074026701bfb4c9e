use Rattle.std.proofs.Common.{◌≡◌, ◌++◌, drop}
use Rattle.xds_stats.specs.Sizes.{live_texts, others}
use Rattle.xds_stats.proofs.sizes.other_texts.Given as goal

-- what is left is put behind what was gathered
abbrev pub invariant-loop-write : goal.invariant-loop-write
invariant-loop-write g l = l.bodies.items ++ live_texts (others l.put (drop l.write-index l.writes)) ≡ live_texts (others l.put l.writes)
