use Rattle.std.proofs.Common.{◌∷◌, [], take, sym, subst}
use Rattle.xds_message.specs.Batches.{typed}
use Rattle.xds_store.proofs.Batches.{IsPutSoFar, one_more, typed_more}
use Rattle.xds_store.proofs.store.Store.put_list.Goals as goal

pub loop-write-preserved : goal.loop-write-preserved
loop-write-preserved g c =
    let t = g.T.ResourceType.TYPE in
    let ws = c.args.writes.now.items in
    let w = c.write-item.result in
    subst (IsPutSoFar g.S.Store.view g.S.Store.recovers c.args.self.now.trees c.put.new.self.trees) (sym (typed_more t ws c.deref-write-items.result.now c.loop-write.write-index w c.deref-write-items.ensures.value c.loop-write-test.true c.write-item.is))
    (one_more g.S.Store.view g.S.Store.recovers c.args.self.now.trees c.loop-write.self.trees c.put.new.self.trees (typed t (take c.loop-write.write-index ws)) ((t, w) ∷ []) c.loop-write.invariant c.put.ensures.pending c.put.ensures.tables c.in_ok-put.ensures.ok)
