use Rattle.std.proofs.Common.{◌-◌, true, false, not, map, sym, ap, arith, length}
use Rattle.std.specs.String.{string_bytes}
use Rattle.xds_resource.specs.Groups.{grouped}
use Rattle.xds_resource.proofs.Grouping.{at_end, counted_on, too_many}
use Rattle.xds_resource.proofs.groups.are_few.Goals as goal

pub loop-start-init : goal.loop-start-init
loop-start-init c = (omega arith, omega arith, sym (ap (λ ys. length (grouped (map string_bytes ys))) (at_end c.args.texts.now)))

pub loop-start-preserved : goal.loop-start-preserved
loop-start-preserved c =
    let within = c.loop-start.invariant.0 in
    let few = c.loop-start.invariant.1 in
    let count = counted_on c.args.texts.now c.loop-start.start c.loop-start.count c.index-texts-start.result c.as_str.result.now true c.is_among.result c.loop-start-test.true within c.index-texts-start.is c.as_str.ensures.value c.is_among.ensures c.if-not-is_among.false c.loop-start.invariant.2 in
    (omega (arith, within), few, count)

pub loop-start-preserved-then-not-is_among : goal.loop-start-preserved-then-not-is_among
loop-start-preserved-then-not-is_among c =
    let within = c.loop-start.invariant.0 in
    let few = c.loop-start.invariant.1 in
    let other = c.if-count-eq-MAX_GROUPS.false in
    let count = counted_on c.args.texts.now c.loop-start.start c.loop-start.count c.index-texts-start.result c.as_str.result.now false c.is_among.result c.loop-start-test.true within c.index-texts-start.is c.as_str.ensures.value c.is_among.ensures c.if-not-is_among.true c.loop-start.invariant.2 in
    (omega (arith, within), omega (arith, few, other), count)

pub returns-then-count-eq-MAX_GROUPS : goal.returns-then-count-eq-MAX_GROUPS
returns-then-count-eq-MAX_GROUPS c =
    let within = c.loop-start.invariant.0 in
    let count = counted_on c.args.texts.now c.loop-start.start c.loop-start.count c.index-texts-start.result c.as_str.result.now false c.is_among.result c.loop-start-test.true within c.index-texts-start.is c.as_str.ensures.value c.is_among.ensures c.if-not-is_among.true c.loop-start.invariant.2 in
    sym (ap not (too_many c.args.texts.now (c.loop-start.start - 1) c.loop-start.count c.if-count-eq-MAX_GROUPS.true count))
