use Rattle.xds_store.proofs.Pending.{pending_on_rollback}
use Rattle.xds_store.proofs.calls.end.Goals as goal

pub returns : goal.returns
returns g c = record { pending = pending_on_rollback g.S.Store.view g.S.Store.recovers g.met.S.Store.shut_if_dirty g.S.Store.faults g.S.Store.is_shielded c.args.trees.now c.rollback.new.self c.rollback.ensures.quiet c.rollback.ensures.undone }
