use Rattle.std.proofs.Common.{◌≡◌, map, drop}
use Rattle.std.specs.FinMap as finmap
use Rattle.xds_resource.specs.Names.{put_each}
use Rattle.xds_cache.specs.InPlace.{removed_all}
use Rattle.xds_cache.proofs.in_place.add_all.Given as goal

-- what is left decides, and what was added can be taken out
abbrev pub invariant-loop-name : goal.invariant-loop-name
invariant-loop-name l =
    (put_each (finmap.get l.stated) l.cache (map (λ n. n.now) (drop l.name-index l.names)) ≡ put_each (finmap.get l.stated) l.initial.cache (map (λ n. n.now) l.names))
    × (removed_all l.cache (map (λ n. n.now) l.names) ≡ l.initial.cache)
