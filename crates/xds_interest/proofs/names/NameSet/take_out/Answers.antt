use Rattle.std.proofs.Common.{map, ap, ◌∙◌}
use Rattle.std.specs.String.{string_bytes}
use Rattle.std.specs.FinSet as set
use Rattle.xds_interest.proofs.Adding.{taken_none, taken_one, taken_all}
use Rattle.xds_interest.proofs.names.NameSet.take_out.Goals as goal

pub loop-name-init : goal.loop-name-init
loop-name-init c = taken_none _ _

pub loop-name-preserved : goal.loop-name-preserved
loop-name-preserved c =
    taken_one _ c.loop-name.name-iterator _ _ _ _ c.in-Some.name.now c.in-Some.ensures.steps (c.remove.ensures ∙ ap (set.remove c.loop-name.self) c.deref.ensures) c.loop-name.invariant

pub returns : goal.returns
returns c =
    taken_all c.args.from.now c.into_iter-name-iterator.result _ _ _ c.in-None.ensures.steps.0
    (ap (λ l. set.from_list (map string_bytes l)) c.into_iter-name-iterator.ensures.into_iter_gives ∙ c.iter-name-items.ensures.names) c.loop-name.invariant
