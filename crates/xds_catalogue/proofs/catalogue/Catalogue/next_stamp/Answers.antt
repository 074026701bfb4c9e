use Rattle.std.proofs.Common.{◌+◌, arith, ap, sym, ◌∙◌}
use Rattle.xds_catalogue.specs.Local.{greatest_counter}
use Rattle.xds_catalogue.proofs.LocalWrites.{next-spent_counter, next-spent_changes, next-Ok}
use Rattle.xds_catalogue.proofs.catalogue.Catalogue.next_stamp.Goals as goal
use Rattle.xds_catalogue.proofs.catalogue.Catalogue.next_stamp.Goals.{then-greatest-eq-MAX_COUNTER-via-then-greatest-eq-MAX_COUNTER, then-greatest-eq-MAX_COUNTER-via-else-greatest-eq-MAX_COUNTER+then-changes-eq-MAX_COUNTER}

pub returns-then-greatest-eq-MAX_COUNTER-clause-counter :
    goal.returns-then-greatest-eq-MAX_COUNTER-clause-counter
returns-then-greatest-eq-MAX_COUNTER-clause-counter g c = λ _.
    let greatest = ap (λ h. greatest_counter h.entries) (sym c.self.view_is) ∙ sym c.self.invariant.greatest ∙ sym c.greatest-greatest.ensures in
    elim c.then-greatest-eq-MAX_COUNTER.branch [
      | then-greatest-eq-MAX_COUNTER-via-then-greatest-eq-MAX_COUNTER w ↦ next-spent_counter c.args.self.now (greatest ∙ w.if-greatest-eq-MAX_COUNTER.true)
      | then-greatest-eq-MAX_COUNTER-via-else-greatest-eq-MAX_COUNTER+then-changes-eq-MAX_COUNTER w ↦ next-spent_changes c.args.self.now (sym w.changes.ensures ∙ w.if-changes-eq-MAX_COUNTER.true)
    ]

pub returns-clause-counter : goal.returns-clause-counter
returns-clause-counter g c =
    let greatest = ap (λ h. greatest_counter h.entries) (sym c.self.view_is) ∙ sym c.self.invariant.greatest ∙ sym c.greatest-greatest.ensures in
    next-Ok c.args.self.now c.new.result.counter (λ e. c.if-greatest-eq-MAX_COUNTER.false (sym greatest ∙ e))
    (λ e. c.if-changes-eq-MAX_COUNTER.false (c.changes.ensures ∙ e)) (c.new.ensures.counter ∙ ap (λ n. n + 1) (sym greatest))

pub overflow_add-greatest : goal.overflow_add-greatest
overflow_add-greatest g c = let bound = c.self.invariant.bounded in let is = c.greatest-greatest.ensures in omega arith

pub new-requires : goal.new-requires
new-requires g c =
    let bound = c.self.invariant.bounded in
    let is = c.greatest-greatest.ensures in
    let apart = c.if-greatest-eq-MAX_COUNTER.false in
    let writer = c.ranges.writer in
    record { counter_from = omega arith; counter_to = omega arith; writer_from = c.requires; writer_to = omega arith }
