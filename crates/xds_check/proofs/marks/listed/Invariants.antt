use Rattle.std.proofs.Common.{◌≡◌, map, drop}
use Rattle.std.specs.String.{string_bytes}
use Rattle.std.specs.FinMap as finmap
use Rattle.xds_resource.specs.Names.{put_each}
use Rattle.xds_check.specs.Kept.{listed_mark}
use Rattle.xds_check.proofs.marks.listed.Given as goal

-- what is left decides
abbrev pub invariant-loop-name : goal.invariant-loop-name
invariant-loop-name g l =
    put_each (listed_mark g.T.ResourceType.TYPE l.interest l.before) l.marks (map string_bytes (drop l.name-index l.names)) ≡ put_each (listed_mark g.T.ResourceType.TYPE l.interest l.before) finmap.empty (map string_bytes l.names)
