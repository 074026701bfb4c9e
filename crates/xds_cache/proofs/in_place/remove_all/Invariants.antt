use Rattle.std.proofs.Common.{◌≡◌, map, drop}
use Rattle.xds_cache.specs.InPlace.{removed_all}
use Rattle.xds_cache.proofs.in_place.remove_all.Given as goal

-- what is left decides
abbrev pub invariant-loop-name : goal.invariant-loop-name
invariant-loop-name l = removed_all l.cache (map (λ n. n.now) (drop l.name-index l.names)) ≡ removed_all l.initial.cache (map (λ n. n.now) l.names)
