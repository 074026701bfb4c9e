use Rattle.std.proofs.Common.{length, arith, sym, ap, ◌∙◌}
use Rattle.std.specs.Vec.Iter.{into_iter_items}
use Rattle.xds_catalogue.specs.Tables.{held_by}
use Rattle.xds_catalogue.proofs.Batches.{dropped, kept}
use Rattle.xds_catalogue.proofs.batch.drop_former.Goals as goal
use Rattle.xds_catalogue.proofs.batch.drop_former.Goals.{in-Some-former_number, in_default}

pub loop-change-preserved-after-former_number : goal.loop-change-preserved-after-former_number
loop-change-preserved-after-former_number g c =
    let step = c.in-Some.ensures.steps in
    let sound = rw step.0 at c.loop-change.invariant.sound in
    let counted = c.loop-change.invariant.counted in
    let shorter = ap length step.0 in
    elim c.match-former_number.branch [
      | in-Some-former_number w ↦ record {
        sound = dropped c.loop-change.tables c.match-former_number.tables c.in-Some.change (into_iter_items c.next.new.self) w.in-Some-former_number.number (sym c.former_number.ensures ∙ w.in-Some-former_number.is) sound (w.tables-is ∙ w.remove_number.ensures);
        held = ap held_by (w.tables-is ∙ w.remove_number.ensures) ∙ c.loop-change.invariant.held;
        counted = omega (arith, step.1, counted, shorter);
      }
      | in_default w ↦ record {
        sound = kept c.loop-change.tables c.match-former_number.tables c.in-Some.change (into_iter_items c.next.new.self) (sym c.former_number.ensures ∙ w.in_default.is) sound w.tables-is;
        held = ap held_by w.tables-is ∙ c.loop-change.invariant.held;
        counted = omega (arith, step.1, counted, shorter);
      }
    ]
