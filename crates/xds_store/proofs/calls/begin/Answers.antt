use Rattle.xds_store.proofs.Pending.{pending_on_rollback}
use Rattle.xds_store.proofs.calls.begin.Goals as goal

pub returns-then-is_broken-clause-pending : goal.returns-then-is_broken-clause-pending
returns-then-is_broken-clause-pending g c =
    pending_on_rollback g.S.Store.view g.S.Store.recovers g.met.S.Store.shut_if_dirty g.S.Store.faults g.S.Store.is_shielded c.args.trees.now c.rollback.new.self c.rollback.ensures.quiet c.rollback.ensures.undone

pub returns-clause-pending : goal.returns-clause-pending
returns-clause-pending g c =
    pending_on_rollback g.S.Store.view g.S.Store.recovers g.met.S.Store.shut_if_dirty g.S.Store.faults g.S.Store.is_shielded c.args.trees.now c.rollback.new.self c.rollback.ensures.quiet c.rollback.ensures.undone
