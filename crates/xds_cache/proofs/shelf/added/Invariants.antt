use Rattle.std.proofs.Common.{◌≡◌}
use Rattle.std.specs.FinMap as finmap
use Rattle.xds_resource.specs.Names.{pairs, put_all}
use Rattle.xds_cache.specs.Parts.{added}
use Rattle.xds_cache.proofs.shelf.added.Given as goal

-- what is left decides
abbrev pub invariant-loop-name : goal.invariant-loop-name
invariant-loop-name l = put_all (added l.kind l.wants) l.next (pairs l.name-iterator) ≡ put_all (added l.kind l.wants) l.initial.next (finmap.entries l.stated)
