use Rattle.std.proofs.Common.{◌≡◌, map}
use Rattle.std.specs.FinMap as finmap
use Rattle.xds_resource.specs.Names.{pairs}
use Rattle.xds_cache.specs.InPlace.{cleared_all}
use Rattle.xds_cache.proofs.in_place.clear_all.Given as goal

-- what is left decides
abbrev pub invariant-loop-name : goal.invariant-loop-name
invariant-loop-name l = cleared_all l.stated l.cache (map (λ e. e.0) (pairs l.name-iterator)) ≡ cleared_all l.stated l.initial.cache (finmap.keys l.removed)
