use Rattle.std.proofs.Common.{◌≡◌, ◌⊎◌, [], map}
use Rattle.std.specs.FinMap as finmap
use Rattle.xds_resource.specs.Names.{pairs}
use Rattle.xds_catalogue.specs.Holdings.{IsCatalogue}
use Rattle.xds_sessions.specs.SotwParts.{pushed_each}
use Rattle.xds_sessions.proofs.sotw_response.push_each.Given as goal

-- what is left decides, and once a name was looked up, each write is known to stand under its name
abbrev pub invariant-loop-name : goal.invariant-loop-name
invariant-loop-name g l =
    (pushed_each l.catalogue.entries l.interest l.all.items (map (λ e. e.0) (pairs l.name-iterator)) ≡ pushed_each l.catalogue.entries l.interest [] (finmap.keys l.offer))
    × (IsCatalogue l.catalogue.entries ⊎ (pairs l.name-iterator ≡ finmap.entries l.offer))
