use Rattle.std.proofs.Common.{◌≡◌, map, drop}
use Rattle.std.specs.String.{string_bytes}
use Rattle.xds_check.specs.LiveNames.{with_name_in_each}
use Rattle.xds_check.proofs.live_names.set_in_each.Given as goal

-- what is left decides
abbrev pub invariant-loop-group : goal.invariant-loop-group
invariant-loop-group l =
    with_name_in_each l.lives l.name l.by_group (map string_bytes (drop l.group-index l.groups)) ≡ with_name_in_each l.lives l.name l.initial.by_group (map string_bytes l.groups)
