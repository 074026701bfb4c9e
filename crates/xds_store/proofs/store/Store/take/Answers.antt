use Rattle.std.proofs.Common.{◌+◌, ◌∷◌, [], pos, ap, ◌∙◌}
use Rattle.sqlite_value.specs.declared.value.Value.TheVariants.{Null, Int}
use Rattle.xds_store.proofs.NumberLemmas.{notes, on_ok_both}
use Rattle.xds_store.proofs.store.Store.take.Goals as goal

pub returns-clause-ok : goal.returns-clause-ok
returns-clause-ok g c =
    on_ok_both c.put_number.result _ _ _
    (λ ok ordered clean. notes _ _ _ (c.args.first + c.args.count) (c.in_ok-fill_number.ensures.ok ∙ ap (λ k. Int (pos 1) ∷ Null ∷ Int (pos (c.args.first + k)) ∷ []) c.from.ensures) (ordered clean) (ok clean))
    c.put_number.ensures.ok c.put_number.ensures.ordered
