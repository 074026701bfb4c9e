use Rattle.std.proofs.Common.{sym, ap, ◌∙◌}
use Rattle.std.specs.FinSet as set
use Rattle.xds_interest.proofs.Adding.{removed_but_none, removed_but_kept, removed_but_one, removed_but_all}
use Rattle.xds_interest.proofs.names.NameSet.remove_but.Goals as goal

pub loop-text-init : goal.loop-text-init
loop-text-init c = removed_but_none _ _ _

pub loop-text-preserved-then-contains : goal.loop-text-preserved-then-contains
loop-text-preserved-then-contains c =
    removed_but_kept c.args.kept.now c.args.texts.now _ _ _ c.text-item.result c.loop-text-test.true c.text-item.is
    (ap (set.contains c.args.kept.now) (sym c.deref.ensures) ∙ sym c.contains.ensures ∙ c.if-contains.true) c.loop-text.invariant

pub loop-text-preserved : goal.loop-text-preserved
loop-text-preserved c =
    removed_but_one c.args.kept.now c.args.texts.now _ _ c.loop-text.self _ c.text-item.result c.loop-text-test.true c.text-item.is
    (ap (set.contains c.args.kept.now) (sym c.deref.ensures) ∙ sym c.contains.ensures ∙ c.if-contains.false)
    (c.remove.ensures ∙ ap (set.remove c.loop-text.self) c.deref-in-loop-text.ensures) c.loop-text.invariant

pub returns : goal.returns
returns c = removed_but_all _ _ _ _ _ c.loop-text-test.false c.loop-text.invariant
