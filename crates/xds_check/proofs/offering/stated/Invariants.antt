use Rattle.std.proofs.Common.{◌≡◌, map, drop}
use Rattle.std.specs.FinMap as finmap
use Rattle.xds_resource.specs.Names.{put_each}
use Rattle.xds_check.specs.Kept.{stated_due}
use Rattle.xds_check.proofs.offering.stated.Given as goal

-- what is left decides
abbrev pub invariant-loop-statement : goal.invariant-loop-statement
invariant-loop-statement g l =
    put_each (stated_due l.catalogue.entries) l.offer (map (λ x. x.name) (drop l.statement-index l.statements)) ≡ put_each (stated_due l.catalogue.entries) finmap.empty (map (λ x. x.name) l.statements)
