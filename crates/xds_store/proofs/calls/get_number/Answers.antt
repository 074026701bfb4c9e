use Rattle.std.proofs.Common.{refl}
use Rattle.xds_store.proofs.Pending.{pending_on_same}
use Rattle.xds_store.proofs.calls.get_number.Goals as goal

pub returns-in-Ok-clause-pending : goal.returns-in-Ok-clause-pending
returns-in-Ok-clause-pending g c =
    pending_on_same g.S.Store.view g.S.Store.recovers g.met.S.Store.shut_if_dirty g.S.Store.faults g.S.Store.is_shielded c.args.trees.now c.get.new.self c.get.ensures.quiet
    (g.S.Store.view c.args.trees.now) (λ o. o) refl c.in-Ok.ensures.same
