use Rattle.std.proofs.Common.{◌≡◌, drop}
use Rattle.xds_upkeep.specs.Linting.{live_in, live_of}
use Rattle.xds_upkeep.proofs.sourcing.live_in.Given as goal

-- what is left decides
abbrev pub invariant-loop-kind : goal.invariant-loop-kind
invariant-loop-kind l = live_of l.held (drop l.kind-index l.kind-items) l.live ≡ live_in l.held
