use Rattle.std.proofs.Common.{◌≡◌, ℕ, List, Bool, Option, Some, None, subst, ap, ◌∙◌}
use Rattle.std.specs.Prelude.{IfOk, if◌then◌else◌}
use Rattle.std.specs.Option.{option_map}
use Rattle.std.specs.FinMap as finmap
use Rattle.xds_resource.specs.Names.{put_all}
use Rattle.xds_ledger.specs.Owed.{is_owed}
use Rattle.xds_ledger.proofs.SharedNames.{put_over, alike_if}
use Rattle.xds_ledger.proofs.listed.with_owed_listed.Goals as goal

pub returns-clause-ok : goal.returns-clause-ok
returns-clause-ok g c =
    let owed : List ℕ → Bool = is_owed c.args.variant g.T.ResourceType.TYPE c.args.interest.now c.args.catalogue.now.entries c.args.beliefs.now in
    let f : List ℕ → ℕ → Option ℕ = λ name number. if owed name then Some number else None in
    subst (λ x. IfOk c.with_owed.result (λ m. m ≡ x))
    (ap (λ m. put_all f m (finmap.entries c.names.result.1.now)) c.in_ok-kept.ensures.ok
    ∙ put_over f c.args.start (option_map (λ m. m.now) c.names.result.0) c.names.result.1.now (λ q x y. alike_if (owed q) x y)
    ∙ ap (λ m. put_all f c.args.start (finmap.entries m)) c.names.ensures)
    c.with_owed.ensures.ok
