use Rattle.std.proofs.Common.{◌≡◌}
use Rattle.std.specs.FinMap as finmap
use Rattle.xds_resource.specs.Names.{pairs, put_all}
use Rattle.xds_cache.specs.Parts.{unless_dropped}
use Rattle.xds_cache.proofs.wants.without.Given as goal

-- what is left decides
abbrev pub invariant-loop-name : goal.invariant-loop-name
invariant-loop-name l = put_all (unless_dropped l.unsubscribe) l.left (pairs l.name-iterator) ≡ put_all (unless_dropped l.unsubscribe) finmap.empty (finmap.entries l.before)
