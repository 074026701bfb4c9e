use Rattle.std.proofs.Common.{map, take}
use Rattle.xds_node.specs.Gathered.{Gains}
use Rattle.xds_node.proofs.node.gathered.Gathered.add_writes.Given as goal

abbrev pub invariant-loop-write : goal.invariant-loop-write
invariant-loop-write g l = Gains g.T.ResourceType.TYPE (map (λ w. w.name) (take l.write-index l.writes)) l.initial.self l.self
