use Rattle.std.proofs.Common.{◌≡◌, drop}
use Rattle.xds_stats.specs.Looks.{counted}
use Rattle.xds_stats.proofs.look.held_by_count.Given as goal

-- what is left of the entries is counted to what all of them are
abbrev pub invariant-loop-write : goal.invariant-loop-write
invariant-loop-write g l = counted (drop l.write-index l.writes) l.held ≡ counted l.writes l.initial.held
