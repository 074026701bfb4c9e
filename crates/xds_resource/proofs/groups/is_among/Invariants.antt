use Rattle.std.proofs.Common.{◌≡◌, map, drop}
use Rattle.std.specs.String.{string_bytes}
use Rattle.xds_resource.specs.Groups.{has_group}
use Rattle.xds_resource.proofs.groups.is_among.Given as goal

-- what is left decides
abbrev pub invariant-loop-other : goal.invariant-loop-other
invariant-loop-other l = has_group (map string_bytes l.texts) l.text ≡ has_group (map string_bytes (drop l.other-index l.texts)) l.text
