use Rattle.std.proofs.Common.{◌≡◌, ◌++◌, map}
use Rattle.std.specs.FinMap as finmap
use Rattle.xds_resource.specs.Names.{pairs}
use Rattle.xds_sources.specs.Differences.{edit_of, deletes_of}
use Rattle.xds_sources.proofs.differences.push_deletes.Given as goal

-- what is made and what is left are all
abbrev pub invariant-loop-key : goal.invariant-loop-key
invariant-loop-key l = map edit_of l.changes.items ++ deletes_of l.wanted (pairs l.key-iterator) ≡ map edit_of l.initial.changes.items ++ deletes_of l.wanted (finmap.entries l.held)
