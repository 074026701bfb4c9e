use Rattle.std.proofs.Common.{◌∙◌}
use Rattle.sqlite_trees.specs.Tree.{Trees}
use Rattle.xds_store.specs.Joins.{IsJoined}
use Rattle.xds_store.proofs.Batches.{joined_of_puts, join_keeps_numbers}
use Rattle.xds_store.proofs.NumberLemmas.{on_ok_map, on_err_map}
use Rattle.xds_store.proofs.Transactions as call
use Rattle.xds_store.proofs.store.Store.put_batch.Goals as goal

pub returns-in-Ok-clause-ok : goal.returns-in-Ok-clause-ok
returns-in-Ok-clause-ok g c =
    on_ok_map c.commit.result _ _ (call.committed g.S.Store.view g.S.Store.recovers g.met.S.Store.shut_if_dirty g.met.S.Store.broken_if_shut (λ (was db : Trees). IsJoined was db c.args.batch.now) c.args.self.now.trees c.begin.new.trees c.put_lists.new.self.trees c.commit.new.trees c.begin.ensures.pending c.in_ok-begin.ensures.fresh c.put_lists.ensures.pending (λ clean. joined_of_puts _ _ c.args.batch.now (c.in-Ok.ensures.ok clean))) c.commit.ensures.ok

pub returns-in-Ok-clause-kept : goal.returns-in-Ok-clause-kept
returns-in-Ok-clause-kept g c =
    call.kept g.S.Store.view g.S.Store.recovers g.met.S.Store.shut_if_dirty g.met.S.Store.broken_if_shut (λ (was db : Trees). IsJoined was db c.args.batch.now) c.args.self.now.trees c.begin.new.trees c.put_lists.new.self.trees c.commit.new.trees c.begin.ensures.pending c.in_ok-begin.ensures.fresh c.put_lists.ensures.pending (λ clean. joined_of_puts _ _ c.args.batch.now (c.in-Ok.ensures.ok clean)) c.commit.ensures.crash g.met.S.Store.stays (join_keeps_numbers c.args.batch.now)

pub returns-in-Ok-clause-crash : goal.returns-in-Ok-clause-crash
returns-in-Ok-clause-crash g c =
    call.survives g.S.Store.view g.S.Store.recovers g.met.S.Store.shut_if_dirty g.met.S.Store.broken_if_shut (λ (was db : Trees). IsJoined was db c.args.batch.now) c.args.self.now.trees c.begin.new.trees c.put_lists.new.self.trees c.commit.new.trees c.begin.ensures.pending c.in_ok-begin.ensures.fresh c.put_lists.ensures.pending (λ clean. joined_of_puts _ _ c.args.batch.now (c.in-Ok.ensures.ok clean)) c.commit.ensures.crash

pub returns-in-Ok-clause-err : goal.returns-in-Ok-clause-err
returns-in-Ok-clause-err g c =
    on_err_map c.commit.result _ _
    (λ err is. let kept = err is in
    kept.1 ∙ c.put_lists.ensures.pending.committed kept.0 ∙ c.begin.ensures.pending.committed (c.put_lists.ensures.pending.was_open kept.0))
    c.commit.ensures.err
