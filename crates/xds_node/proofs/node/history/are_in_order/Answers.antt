use Rattle.std.proofs.Common.{drop, ap, length}
use Rattle.std.proofs.lemmas.List.{drop_all}
use Rattle.xds_node.proofs.InOrder.{decides_start, seen_next, seen_wrong, decides_end}
use Rattle.xds_node.proofs.node.history.are_in_order.Goals as goal

pub loop-segment-init : goal.loop-segment-init
loop-segment-init g c = decides_start c.args.last c.args.segments.now

pub left_after-requires : goal.left_after-requires
left_after-requires g c = c.loop-segment.invariant.few

pub returns-in_default : goal.returns-in_default
returns-in_default g c =
    let p = c.segment-item.result in
    seen_wrong c.args.last c.loop-segment.left c.loop-segment.segment-index (length c.records.result.now) c.first.result p c.args.segments.now c.loop-segment-test.true c.segment-item.is (ap length c.records.ensures) c.first.ensures
    c.loop-segment.invariant c.in_default.ensures.none

pub loop-segment-preserved : goal.loop-segment-preserved
loop-segment-preserved g c =
    let p = c.segment-item.result in
    seen_next c.args.last c.loop-segment.left c.in-Some.fewer c.loop-segment.segment-index (length c.records.result.now) c.first.result p c.args.segments.now c.loop-segment-test.true c.segment-item.is (ap length c.records.ensures) c.first.ensures
    c.loop-segment.invariant c.in-Some.ensures.next

pub returns : goal.returns
returns g c =
    decides_end c.args.last c.loop-segment.left (drop c.loop-segment.segment-index c.args.segments.now) c.args.segments.now c.loop-segment.invariant (drop_all c.loop-segment.segment-index c.args.segments.now c.loop-segment-test.false)
