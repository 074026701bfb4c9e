use Rattle.std.proofs.Common.{arith}
use Rattle.xds_exchange.proofs.ByParts.{merging_on, merging_few}
use Rattle.xds_exchange.proofs.merging.apply_all.Goals as goal

pub overflow_add-grown : goal.overflow_add-grown
overflow_add-grown c =
    let on = merging_on _ _ _ _ _ _ c.loop-part.invariant c.in-Some.part c.next_part.new.self c.in_ok-grown.field-0 c.apply.new.core (rw c.in-Some.is at c.in_ok-part.ensures.ok) c.in_ok-grown.ensures.applies in
    let few = merging_few _ _ _ _ _ _ on in
    omega (arith, few.1, c.requires)

pub overflow_add-parts : goal.overflow_add-parts
overflow_add-parts c =
    let on = merging_on _ _ _ _ _ _ c.loop-part.invariant c.in-Some.part c.next_part.new.self c.in_ok-grown.field-0 c.apply.new.core (rw c.in-Some.is at c.in_ok-part.ensures.ok) c.in_ok-grown.ensures.applies in
    let few = merging_few _ _ _ _ _ _ on in
    omega (arith, few.0, c.requires)

pub loop-part-preserved : goal.loop-part-preserved
loop-part-preserved c =
    let on = merging_on _ _ _ _ _ _ c.loop-part.invariant c.in-Some.part c.next_part.new.self c.in_ok-grown.field-0 c.apply.new.core (rw c.in-Some.is at c.in_ok-part.ensures.ok) c.in_ok-grown.ensures.applies in
    on
