use Rattle.std.proofs.Common.{◌≡◌, drop}
use Rattle.xds_resource.specs.PerType.{at}
use Rattle.xds_upkeep.specs.Linting.{with_writes}
use Rattle.xds_upkeep.proofs.sourcing.add_live.Given as goal

-- what is left decides
abbrev pub invariant-loop-index : goal.invariant-loop-index
invariant-loop-index l = with_writes l.kind l.live (drop l.index (at l.held l.kind)) ≡ with_writes l.kind l.initial.live (at l.held l.kind)
