use Rattle.std.proofs.Common.{ap, ◌∙◌}
use Rattle.xds_store.proofs.Pending.{committed_on_rollback}
use Rattle.xds_store.proofs.Transactions.{sound_open}
use Rattle.xds_store.proofs.calls.commit.Goals as goal

pub returns-in-Err-clause-err : goal.returns-in-Err-clause-err
returns-in-Err-clause-err g c = committed_on_rollback g.S.Store.view g.S.Store.recovers g.met.S.Store.shut_if_dirty c.args.trees.now c.commit.new.self c.in-Err.ensures.err

pub returns-in-Ok-clause-open : goal.returns-in-Ok-clause-open
returns-in-Ok-clause-open g c =
    λ clean.
    let is = c.in-Ok.ensures.ok clean in
    ap (λ v. v.is_open) is.is ∙ sound_open g.S.Store.view g.S.Store.recovers g.met.S.Store.shut_if_dirty g.met.S.Store.broken_if_shut c.args.trees.now is.sound
