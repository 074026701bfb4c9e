use Rattle.std.proofs.Common.{arith}
use Rattle.xds_resource.proofs.BoolsAndLists.{drop_here}
use Rattle.xds_message.proofs.PieceLemmas.{put_more, put_none, put_part}
use Rattle.xds_message.proofs.pieces.put_items.Goals as goal

pub loop-item-init : goal.loop-item-init
loop-item-init g c = put_none _ _ _ _

pub loop-item-preserved : goal.loop-item-preserved
loop-item-preserved g c =
    let here = drop_here c.args.items.now c.loop-item.item-index c.item-item.result c.item-item.result (omega arith) c.item-item.is in
    put_more g.S.Stored.text _ _ _ _ _ _ _ _ _ _ c.loop-item.later c.item-item.result _ _ here c.loop-item.invariant c.in_default.ensures.put

pub returns-in-Err-clause-failed : goal.returns-in-Err-clause-failed
returns-in-Err-clause-failed g c =
    let here = drop_here c.args.items.now c.loop-item.item-index c.item-item.result c.item-item.result (omega arith) c.item-item.is in
    (c.in-Err.ensures.failed.0, put_part g.S.Stored.text _ _ _ _ _ _ _ _ _ c.loop-item.later c.item-item.result _ _ here c.loop-item.invariant c.in-Err.ensures.failed.1)
