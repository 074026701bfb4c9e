use Rattle.std.proofs.Common.{refl}
use Rattle.xds_store.proofs.Pending.{pending_on_same}
use Rattle.xds_store.proofs.calls.insert_write.Goals as goal

pub returns-in-Ok-clause-pending : goal.returns-in-Ok-clause-pending
returns-in-Ok-clause-pending g c =
    pending_on_same g.S.Store.view g.S.Store.recovers g.met.S.Store.shut_if_dirty g.S.Store.faults g.S.Store.is_shielded c.args.trees.now c.insert.new.self c.insert.ensures.quiet
    _ (λ o. o) refl (λ clean. (c.in-Ok.ensures.ok clean).is)
