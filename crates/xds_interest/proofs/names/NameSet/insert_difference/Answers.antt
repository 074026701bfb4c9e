use Rattle.std.proofs.Common.{map, sym, ap, ◌∙◌}
use Rattle.std.specs.String.{string_bytes}
use Rattle.std.specs.FinSet as set
use Rattle.xds_interest.proofs.NameSets.{difference_start, difference_put, difference_all}
use Rattle.xds_interest.proofs.names.NameSet.insert_difference.Goals as goal

pub loop-name-init : goal.loop-name-init
loop-name-init c = difference_start _ _ _

pub loop-name-preserved : goal.loop-name-preserved
loop-name-preserved c =
    difference_put _ _ c.loop-name.name-iterator _ _ c.loop-name.self _ c.in-Some.name.now c.in-Some.ensures.steps
    (ap (set.contains c.args.other.now) (sym c.deref.ensures) ∙ sym c.contains.ensures ∙ c.if-contains.false) c.in_ok-insert.ensures.ok c.loop-name.invariant

pub returns-clause-ok : goal.returns-clause-ok
returns-clause-ok c =
    difference_all _ _ c.into_iter-name-iterator.result _ _ _ c.in-None.ensures.steps.0
    (ap (λ l. set.from_list (map string_bytes l)) c.into_iter-name-iterator.ensures.into_iter_gives ∙ c.iter-name-items.ensures.names) c.loop-name.invariant
