use Rattle.std.proofs.Common.{◌≡◌, map, drop, Some, true}
use Rattle.std.specs.FinMap as finmap
use Rattle.xds_resource.specs.Names.{put_each}
use Rattle.xds_check.proofs.judging.names_of.Given as goal

-- what is left decides
abbrev pub invariant-loop-statement : goal.invariant-loop-statement
invariant-loop-statement l =
    put_each (λ _. Some true) l.names (map (λ x. x.name) (drop l.statement-index l.statements)) ≡ put_each (λ _. Some true) finmap.empty (map (λ x. x.name) l.statements)
