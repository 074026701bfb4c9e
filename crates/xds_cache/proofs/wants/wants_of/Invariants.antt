use Rattle.std.proofs.Common.{◌≡◌, map, string_bytes, drop}
use Rattle.std.specs.FinMap as finmap
use Rattle.xds_resource.specs.Names.{put_each}
use Rattle.xds_cache.specs.Shelves.{marked}
use Rattle.xds_cache.proofs.wants.wants_of.Given as goal

-- what is left decides
abbrev pub invariant-loop-name : goal.invariant-loop-name
invariant-loop-name l = put_each marked l.wants (map string_bytes (drop l.name-index l.names)) ≡ put_each marked finmap.empty (map string_bytes l.names)
