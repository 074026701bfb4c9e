use Rattle.std.proofs.Common.{arith}
use Rattle.xds_resource.proofs.BoolsAndLists.{drop_here}
use Rattle.xds_message.proofs.JoinedLemmas.{drop-past}
use Rattle.xds_message.proofs.PieceLemmas.{text_all, text_more}
use Rattle.xds_message.proofs.stated.joined_text.Goals as goal

pub loop-item-preserved : goal.loop-item-preserved
loop-item-preserved g c =
    let here = drop_here c.args.items.now c.loop-item.item-index c.item-item.result c.item-item.result (omega arith) c.item-item.is in
    text_more g.S.Stored.text c.loop-item.later c.item-item.result _ _ _ _ _ here c.loop-item.invariant c.in_ok-push_text.ensures.ok

pub returns-clause-ok : goal.returns-clause-ok
returns-clause-ok g c = text_all g.S.Stored.text c.loop-item.later _ _ _ (drop-past c.args.items.now c.loop-item.item-index (omega arith)) c.loop-item.invariant
