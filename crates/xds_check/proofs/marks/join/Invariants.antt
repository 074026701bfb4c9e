use Rattle.std.proofs.Common.{◌≡◌, map, drop}
use Rattle.std.specs.String.{string_bytes}
use Rattle.xds_resource.specs.Names.{put_each}
use Rattle.xds_check.specs.Kept.{joined_mark}
use Rattle.xds_check.proofs.marks.join.Given as goal

-- what is left decides
abbrev pub invariant-loop-name : goal.invariant-loop-name
invariant-loop-name l =
    put_each (joined_mark l.kind l.begun l.versions) l.marks (map string_bytes (drop l.name-index l.subscribe)) ≡ put_each (joined_mark l.kind l.begun l.versions) l.initial.marks (map string_bytes l.subscribe)
