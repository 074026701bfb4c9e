use Rattle.std.proofs.Common.{◌≡◌, map, drop, string_bytes}
use Rattle.xds_cache.specs.InPlace.{stored_all}
use Rattle.xds_cache.proofs.in_place.store_all.Given as goal

-- what is left decides
abbrev pub invariant-loop-name : goal.invariant-loop-name
invariant-loop-name l = stored_all l.left l.cache (map string_bytes (drop l.name-index l.names)) ≡ stored_all l.initial.left l.initial.cache (map string_bytes l.names)
