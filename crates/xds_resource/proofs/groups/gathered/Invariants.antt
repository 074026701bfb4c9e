use Rattle.std.proofs.Common.{◌≡◌, ◌≤◌, length, map, drop}
use Rattle.std.specs.String.{string_bytes}
use Rattle.xds_resource.specs.Groups.{grouped}
use Rattle.xds_resource.proofs.groups.gathered.Given as goal

abbrev pub invariant-loop-start : goal.invariant-loop-start
invariant-loop-start l = (l.start ≤ length l.texts) × (map string_bytes l.list.items ≡ grouped (map string_bytes (drop l.start l.texts)))

abbrev pub decreases-loop-start : goal.decreases-loop-start
decreases-loop-start l = l.start
