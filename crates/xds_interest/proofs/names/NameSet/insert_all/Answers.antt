use Rattle.std.proofs.Common.{map, ap, ◌∙◌}
use Rattle.std.specs.String.{string_bytes}
use Rattle.std.specs.FinSet as set
use Rattle.xds_interest.proofs.Adding.{added_none, added_one, added_all, added_only}
use Rattle.xds_interest.proofs.names.NameSet.insert_all.Goals as goal

pub loop-name-init : goal.loop-name-init
loop-name-init c = added_none _ _

pub loop-name-preserved : goal.loop-name-preserved
loop-name-preserved c = added_one _ c.loop-name.name-iterator _ _ _ _ c.in-Some.name.now c.in-Some.ensures.steps c.in_ok-insert.ensures.ok c.loop-name.invariant

pub returns-in_err-insert-clause-others : goal.returns-in_err-insert-clause-others
returns-in_err-insert-clause-others c =
    ap (λ s. set.difference s c.args.from.now) c.in_err-insert.ensures.err
    ∙ added_only c.args.from.now c.into_iter-name-iterator.result _ _ _
    (ap (λ l. set.from_list (map string_bytes l)) c.into_iter-name-iterator.ensures.into_iter_gives ∙ c.iter-name-items.ensures.names) c.loop-name.invariant

pub returns-clause-ok : goal.returns-clause-ok
returns-clause-ok c =
    added_all c.args.from.now c.into_iter-name-iterator.result _ _ _ c.in-None.ensures.steps.0
    (ap (λ l. set.from_list (map string_bytes l)) c.into_iter-name-iterator.ensures.into_iter_gives ∙ c.iter-name-items.ensures.names) c.loop-name.invariant

pub returns-clause-others : goal.returns-clause-others
returns-clause-others c =
    added_only c.args.from.now c.into_iter-name-iterator.result _ _ _
    (ap (λ l. set.from_list (map string_bytes l)) c.into_iter-name-iterator.ensures.into_iter_gives ∙ c.iter-name-items.ensures.names) c.loop-name.invariant
