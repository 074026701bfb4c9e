use Rattle.std.proofs.Common.{◌≡◌}
use Rattle.std.specs.FinMap as finmap
use Rattle.xds_resource.specs.Names.{pairs, put_all}
use Rattle.xds_cache.specs.Parts.{left}
use Rattle.xds_cache.proofs.shelf.left.Given as goal

-- what is left decides
abbrev pub invariant-loop-name : goal.invariant-loop-name
invariant-loop-name l = put_all (left l.kind l.wants l.whole l.removed) l.next (pairs l.name-iterator) ≡ put_all (left l.kind l.wants l.whole l.removed) finmap.empty (finmap.entries l.cache)
