use Rattle.std.proofs.Common.{◌≡◌, ◌++◌, map, drop, string_bytes}
use Rattle.xds_cache.specs.InPlace.{new_names}
use Rattle.xds_cache.proofs.in_place.new_names.Given as goal

-- what is made and what is left are all
abbrev pub invariant-loop-name : goal.invariant-loop-name
invariant-loop-name l = map (λ n. n.now) l.new.items ++ new_names l.kind l.wants l.cache (map string_bytes (drop l.name-index l.names)) ≡ new_names l.kind l.wants l.cache (map string_bytes l.names)
