use Rattle.std.proofs.Common.{◌≡◌, map, drop}
use Rattle.xds_core.specs.Seen.{event_of}
use Rattle.xds_upkeep.specs.Linting.{all_applied}
use Rattle.xds_upkeep.proofs.linting.apply_all.Given as goal

-- what is left decides
abbrev pub invariant-loop-change : goal.invariant-loop-change
invariant-loop-change l = all_applied l.live (map event_of (drop l.change-index l.changes.items)) ≡ all_applied l.initial.live (map event_of l.changes.items)
