use Rattle.std.proofs.Common.{◌<◌, ◌+◌, length, map, refl, sym, subst, arith, IfNone, drop_of_length-le}
use Rattle.xds_resource.proofs.BoolsAndLists.{drop_here}
use Rattle.xds_message.specs.Joined.{with_commas}
use Rattle.xds_message.proofs.PieceLemmas.{count_all, count_beyond, count_more}
use Rattle.xds_message.proofs.pieces.items_counted.Goals as goal

pub loop-item-init : goal.loop-item-init
loop-item-init g c = (refl, c.requires)

pub item_counted-requires : goal.item_counted-requires
item_counted-requires g c = c.loop-item.invariant.1

pub returns-in_err-all-clause-beyond : goal.returns-in_err-all-clause-beyond
returns-in_err-all-clause-beyond g c =
    let here = drop_here c.args.items.now c.loop-item.item-index c.item-item.result c.item-item.result (omega arith) c.item-item.is in
    subst (λ r. IfNone r (c.args.limit < c.args.count + length (with_commas (map g.S.Stored.text c.args.items.now)))) (sym c.from_residual.ensures)
    (count_beyond g.S.Stored.text c.loop-item.later c.item-item.result _ _ c.loop-item.all _ c.args.limit here c.loop-item.invariant.0 c.in_err-all.ensures.beyond)

pub loop-item-preserved : goal.loop-item-preserved
loop-item-preserved g c =
    let here = drop_here c.args.items.now c.loop-item.item-index c.item-item.result c.item-item.result (omega arith) c.item-item.is in
    (count_more g.S.Stored.text c.loop-item.later c.item-item.result _ _ c.loop-item.all c.in_ok-all.all _ here c.loop-item.invariant.0 c.in_ok-all.ensures.within, c.in_ok-all.ensures.bounded)

pub returns-clause-within : goal.returns-clause-within
returns-clause-within g c =
    count_all g.S.Stored.text c.loop-item.later _ c.loop-item.all _ (drop_of_length-le c.args.items.now (omega arith)) c.loop-item.invariant.0

pub returns-clause-bounded : goal.returns-clause-bounded
returns-clause-bounded g c = c.loop-item.invariant.1
