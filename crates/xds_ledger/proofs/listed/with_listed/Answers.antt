use Rattle.std.proofs.Common.{◌≡◌, Some, refl, subst, ◌∙◌}
use Rattle.std.specs.Prelude.{IfOk}
use Rattle.xds_resource.specs.Names.{put_all}
use Rattle.xds_ledger.proofs.SharedNames.{put_over}
use Rattle.xds_ledger.proofs.listed.with_listed.Goals as goal

pub returns-clause-ok : goal.returns-clause-ok
returns-clause-ok c =
    subst (λ x. IfOk c.with_names.result (λ m. m ≡ x))
    ((λ i. put_all (λ name number. Some number) (c.in_ok-all.ensures.ok i) (c.iter.ensures i))
    ∙ put_over (λ name number. Some number) c.args.names c.args.base.now c.args.added.now (λ q x y. refl))
    c.with_names.ensures.ok
