use Rattle.std.proofs.Common.{◌≡◌}
use Rattle.std.specs.FinMap as finmap
use Rattle.xds_resource.specs.Names.{pairs, put_all}
use Rattle.xds_cache.specs.Parts.{version_told}
use Rattle.xds_cache.proofs.delta.cached_versions.Given as goal

-- what is left decides
abbrev pub invariant-loop-name : goal.invariant-loop-name
invariant-loop-name l = put_all version_told l.versions (pairs l.name-iterator) ≡ put_all version_told finmap.empty (finmap.entries l.cache)
