use Rattle.std.proofs.Common.{◌+◌, ◌∙◌}
use Rattle.sqlite_trees.specs.Tree.{Trees}
use Rattle.xds_store.specs.Numbers.{Takes}
use Rattle.xds_store.proofs.NumberLemmas.{take_grows, on_ok_map, on_ok_both, on_err_map}
use Rattle.xds_store.proofs.Transactions as call
use Rattle.xds_store.proofs.store.Store.take_numbers_from.Goals as goal

pub returns-in-Ok-clause-ok : goal.returns-in-Ok-clause-ok
returns-in-Ok-clause-ok g c =
    on_ok_map c.commit.result _ _ (call.committed g.S.Store.view g.S.Store.recovers g.met.S.Store.shut_if_dirty g.met.S.Store.broken_if_shut (λ (was db : Trees). Takes was db c.args.first c.args.count) c.args.self.now.trees c.begin.new.trees c.take_from.new.self.trees c.commit.new.trees c.begin.ensures.pending c.in_ok-begin.ensures.fresh c.take_from.ensures.pending (λ clean. c.in-Ok.ensures.ok clean)) c.commit.ensures.ok

pub returns-in-Ok-clause-taken : goal.returns-in-Ok-clause-taken
returns-in-Ok-clause-taken g c =
    on_ok_both c.commit.result _ _ _
    (λ ok is_open. call.taken g.S.Store.view g.S.Store.recovers g.met.S.Store.shut_if_dirty g.met.S.Store.broken_if_shut (λ (was db : Trees). Takes was db c.args.first c.args.count) c.args.self.now.trees c.begin.new.trees c.take_from.new.self.trees c.commit.new.trees c.begin.ensures.pending c.in_ok-begin.ensures.fresh c.take_from.ensures.pending (λ clean. c.in-Ok.ensures.ok clean) g.met.S.Store.settled is_open (c.args.first + c.args.count) (λ was db t. t.noted.noted) ok)
    c.commit.ensures.ok c.commit.ensures.open

pub returns-in-Ok-clause-above : goal.returns-in-Ok-clause-above
returns-in-Ok-clause-above g c =
    on_ok_map c.commit.result _ _ (call.above g.S.Store.view g.S.Store.recovers g.met.S.Store.shut_if_dirty g.met.S.Store.broken_if_shut (λ (was db : Trees). Takes was db c.args.first c.args.count) c.args.self.now.trees c.begin.new.trees c.take_from.new.self.trees c.commit.new.trees c.begin.ensures.pending c.in_ok-begin.ensures.fresh c.take_from.ensures.pending (λ clean. c.in-Ok.ensures.ok clean) g.met.S.Store.stays c.args.first (λ was db t. t.free)) c.commit.ensures.ok

pub returns-in-Ok-clause-kept : goal.returns-in-Ok-clause-kept
returns-in-Ok-clause-kept g c =
    call.kept g.S.Store.view g.S.Store.recovers g.met.S.Store.shut_if_dirty g.met.S.Store.broken_if_shut (λ (was db : Trees). Takes was db c.args.first c.args.count) c.args.self.now.trees c.begin.new.trees c.take_from.new.self.trees c.commit.new.trees c.begin.ensures.pending c.in_ok-begin.ensures.fresh c.take_from.ensures.pending (λ clean. c.in-Ok.ensures.ok clean) c.commit.ensures.crash g.met.S.Store.stays (take_grows c.args.first c.args.count)

pub returns-in-Ok-clause-crash : goal.returns-in-Ok-clause-crash
returns-in-Ok-clause-crash g c =
    call.survives g.S.Store.view g.S.Store.recovers g.met.S.Store.shut_if_dirty g.met.S.Store.broken_if_shut (λ (was db : Trees). Takes was db c.args.first c.args.count) c.args.self.now.trees c.begin.new.trees c.take_from.new.self.trees c.commit.new.trees c.begin.ensures.pending c.in_ok-begin.ensures.fresh c.take_from.ensures.pending (λ clean. c.in-Ok.ensures.ok clean) c.commit.ensures.crash

pub returns-in-Ok-clause-err : goal.returns-in-Ok-clause-err
returns-in-Ok-clause-err g c =
    on_err_map c.commit.result _ _
    (λ err is. let kept = err is in
    kept.1 ∙ c.take_from.ensures.pending.committed kept.0 ∙ c.begin.ensures.pending.committed (c.take_from.ensures.pending.was_open kept.0))
    c.commit.ensures.err
