use Rattle.std.proofs.Common.{◌≡◌, ◌≤◌, length, map, drop}
use Rattle.std.specs.String.{string_bytes}
use Rattle.xds_resource.specs.Groups.{grouped, max_groups}
use Rattle.xds_resource.proofs.groups.are_few.Given as goal

abbrev pub invariant-loop-start : goal.invariant-loop-start
invariant-loop-start l = (l.start ≤ length l.texts) × (l.count ≤ max_groups) × (l.count ≡ length (grouped (map string_bytes (drop l.start l.texts))))

abbrev pub decreases-loop-start : goal.decreases-loop-start
decreases-loop-start l = l.start
