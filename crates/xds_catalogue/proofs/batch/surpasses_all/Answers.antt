use Rattle.std.proofs.Common.{◌≡◌, sym, ap, ◌∙◌}
use Rattle.std.specs.Prelude.{bytes_eq}
use Rattle.std.specs.Ordering.{is_gt}
use Rattle.xds_catalogue.proofs.Surpassing.{surpasses_other, surpasses_lesser, not_surpassed, gt_where}
use Rattle.xds_catalogue.proofs.batch.surpasses_all.Goals as goal
use Rattle.xds_catalogue.proofs.batch.surpasses_all.Goals.{else-eq-via-then-eq+else-ne, else-eq-via-else-eq}

pub loop-other-preserved : goal.loop-other-preserved
loop-other-preserved g c =
    let named : bytes_eq c.name.result.now c.name-in-loop-other.result.now ≡ bytes_eq c.other-item.result.name c.args.write.now.name = λ i. bytes_eq (c.name.ensures.name i) (c.name-in-loop-other.ensures.name i) in
    elim c.else-eq.branch [
      | else-eq-via-then-eq+else-ne w ↦ surpasses_lesser c.args.write.now c.args.others.now c.loop-other.other-index c.other-item.result c.loop-other-test.true c.other-item.is (sym (c.eq.ensures ∙ named) ∙ w.if-eq.true)
          (ap is_gt (sym w.cmp.ensures) ∙ gt_where w.cmp.result _ (sym w.ne.ensures ∙ w.if-ne.false)) c.loop-other.invariant
      | else-eq-via-else-eq w ↦ surpasses_other c.args.write.now c.args.others.now c.loop-other.other-index c.other-item.result c.loop-other-test.true c.other-item.is (sym (c.eq.ensures ∙ named) ∙ w.if-eq.false) c.loop-other.invariant
    ]

pub returns-then-ne : goal.returns-then-ne
returns-then-ne g c =
    let named : bytes_eq c.name.result.now c.name-in-loop-other.result.now ≡ bytes_eq c.other-item.result.name c.args.write.now.name = λ i. bytes_eq (c.name.ensures.name i) (c.name-in-loop-other.ensures.name i) in
    not_surpassed c.args.write.now c.args.others.now c.loop-other.other-index c.other-item.result c.loop-other-test.true c.other-item.is (sym (c.eq.ensures ∙ named) ∙ c.if-eq.true)
    (ap is_gt (sym c.cmp.ensures) ∙ gt_where c.cmp.result _ (sym c.ne.ensures ∙ c.if-ne.true)) c.loop-other.invariant
