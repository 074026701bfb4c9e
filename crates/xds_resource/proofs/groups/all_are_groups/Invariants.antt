use Rattle.std.proofs.Common.{◌≡◌, map, drop}
use Rattle.std.specs.List.{list_all}
use Rattle.std.specs.String.{string_bytes}
use Rattle.xds_resource.specs.Groups.{is_group}
use Rattle.xds_resource.proofs.groups.all_are_groups.Given as goal

-- what is left decides
abbrev pub invariant-loop-text : goal.invariant-loop-text
invariant-loop-text l = list_all is_group (map string_bytes l.texts) ≡ list_all is_group (map string_bytes (drop l.text-index l.texts))
