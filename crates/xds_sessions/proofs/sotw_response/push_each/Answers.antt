use Rattle.std.proofs.Common.{◌≡◌, ◌⊎◌, List, ℕ, [], map, sym, ap, subst, ◌∙◌}
use Rattle.std.specs.FinMap as finmap
use Rattle.xds_resource.specs.Names.{pairs}
use Rattle.xds_catalogue.specs.Holdings.{IsCatalogue}
use Rattle.xds_ledger.specs.declared.entry.Due.{Due}
use Rattle.xds_sessions.specs.SotwParts.{pushed_each}
use Rattle.xds_sessions.proofs.StatedByName.{all_pushed}
use Rattle.xds_sessions.proofs.sotw_response.push_each.Goals as goal

pub returns-clause-ok : goal.returns-clause-ok
returns-clause-ok g c =
    let m = c.args.catalogue.now.entries in
    let s = c.args.interest.now in
    let none : pairs c.loop-name.name-iterator ≡ [] = ap pairs c.in-None.ensures.steps.0 in
    all_pushed m s c.args.offer.now c.loop-name.all.items
    (subst (λ (es : List (List ℕ × Due)). IsCatalogue m ⊎ (es ≡ finmap.entries c.args.offer.now)) none c.loop-name.invariant.1)
    (sym (ap (λ (es : List (List ℕ × Due)). pushed_each m s c.loop-name.all.items (map (λ e. e.0) es)) none) ∙ c.loop-name.invariant.0)
