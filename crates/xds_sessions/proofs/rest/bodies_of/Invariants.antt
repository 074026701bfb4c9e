use Rattle.std.proofs.Common.{◌≡◌, [], map, drop}
use Rattle.xds_sessions.specs.SotwParts.{all_texts}
use Rattle.xds_sessions.proofs.rest.bodies_of.Given as goal

-- what is left decides
abbrev pub invariant-loop-write : goal.invariant-loop-write
invariant-loop-write g l = all_texts l.bodies.items (map (λ w. w.now) (drop l.write-index l.writes)) ≡ all_texts [] (map (λ w. w.now) l.writes)
