use Rattle.std.proofs.Common.{◌≡◌, ◌≤◌, ◌-◌, ◌++◌, length, map, take, drop}
use Rattle.std.specs.String.{string_bytes}
use Rattle.xds_resource.specs.Groups.{placed}
use Rattle.xds_resource.proofs.groups.add.Given as goal

-- what is left decides where the text belongs
abbrev pub invariant-loop-at : goal.invariant-loop-at
invariant-loop-at l =
    (l.at ≤ length l.list.items)
    × (placed l.text (map string_bytes l.list.items) ≡ map string_bytes (take l.at l.list.items) ++ placed l.text (map string_bytes (drop l.at l.list.items)))

abbrev pub decreases-loop-at : goal.decreases-loop-at
decreases-loop-at l = length l.list.items - l.at
