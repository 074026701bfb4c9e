use Rattle.std.proofs.Common.{arith}
use Rattle.xds_resource.proofs.BoolsAndLists.{drop_here}
use Rattle.xds_message.proofs.UnsentLemmas.{goes_on, less_left, moves_on}
use Rattle.xds_message.proofs.filling.fill_from.Goals as goal

pub loop-at-smaller-in-Some : goal.loop-at-smaller-in-Some
loop-at-smaller-in-Some g c =
    let here = drop_here c.args.items.now c.loop-at.at.next c.index-items-at.result c.index-items-at.result (omega arith) c.index-items-at.is in
    omega (arith, less_left g.S.Stored.text c.args.items.now c.loop-at.at.later c.loop-at.at.next c.loop-at.at.offset c.in-Some.offset c.index-items-at.result here c.in-Some.ensures.put.0 c.in-Some.ensures.put.1)

pub loop-at-preserved-in-Some : goal.loop-at-preserved-in-Some
loop-at-preserved-in-Some g c =
    let here = drop_here c.args.items.now c.loop-at.at.next c.index-items-at.result c.index-items-at.result (omega arith) c.index-items-at.is in (
      moves_on g.S.Stored.text c.args.items.now c.loop-at.at.later c.loop-at.at.next c.loop-at.at.offset c.in-Some.offset c.index-items-at.result c.loop-at.block.items c.put_some.new.block.items _ here c.in-Some.ensures.put.0 c.in-Some.ensures.put.1 c.loop-at.invariant.0 c.in-Some.ensures.put.2,
      goes_on g.S.Stored.text c.args.items.now c.loop-at.at.later c.loop-at.at.next c.loop-at.at.offset c.in-Some.offset c.index-items-at.result here c.loop-at.invariant.1 c.in-Some.ensures.put.1,
      omega (arith, c.loop-at.invariant.2, c.in-Some.ensures.grown),
    )
