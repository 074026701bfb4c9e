use Rattle.std.proofs.Common.{◌≡◌, ◌++◌, map}
use Rattle.std.specs.FinMap as finmap
use Rattle.xds_resource.specs.Names.{pairs}
use Rattle.xds_sources.specs.References.{leads_of, dangling_of}
use Rattle.xds_sources.proofs.references.dangling_in.Given as goal

-- what is found and what is left are all
abbrev pub invariant-loop-key : goal.invariant-loop-key
invariant-loop-key l = map leads_of l.found.items ++ dangling_of l.held (pairs l.key-iterator) ≡ dangling_of l.held (finmap.entries l.held)
