use Rattle.std.proofs.Common.{◌≡◌, map}
use Rattle.xds_sources.specs.Differences.{edit_of}
use Rattle.xds_upkeep.specs.Sourcing.{all_made}
use Rattle.xds_upkeep.proofs.sourcing.make_all.Given as goal

-- what is left decides
abbrev pub invariant-loop-change : goal.invariant-loop-change
invariant-loop-change l = all_made l.writer l.held (map edit_of l.change-iterator.rest.items) ≡ all_made l.writer l.initial.held (map edit_of l.fn.changes.items)
