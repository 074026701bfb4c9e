use Rattle.std.proofs.Common.{ap, ◌∙◌}
use Rattle.std.specs.FinSet as set
use Rattle.xds_interest.proofs.NameSets.{removed_none, removed_one, removed_all}
use Rattle.xds_interest.proofs.names.NameSet.remove_all.Goals as goal

pub loop-text-init : goal.loop-text-init
loop-text-init c = removed_none _ _

pub loop-text-preserved : goal.loop-text-preserved
loop-text-preserved c =
    removed_one _ _ _ c.loop-text.self _ c.text-item.result c.loop-text-test.true c.text-item.is (c.remove.ensures ∙ ap (set.remove c.loop-text.self) c.deref.ensures) c.loop-text.invariant

pub returns : goal.returns
returns c = removed_all _ _ _ _ c.loop-text-test.false c.loop-text.invariant
