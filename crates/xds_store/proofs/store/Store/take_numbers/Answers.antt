use Rattle.std.proofs.Common.{ℕ, ◌+◌, ◌∙◌}
use Rattle.sqlite_trees.specs.Tree.{Trees}
use Rattle.xds_store.specs.Numbers.{Takes}
use Rattle.xds_store.proofs.NumberLemmas.{takes_grow, on_err_of}
use Rattle.xds_store.proofs.Transactions as call
use Rattle.xds_store.proofs.store.Store.take_numbers.Goals as goal

pub returns-in_err-commit-in-Ok-clause-kept : goal.returns-in_err-commit-in-Ok-clause-kept
returns-in_err-commit-in-Ok-clause-kept g c =
    call.kept g.S.Store.view g.S.Store.recovers g.met.S.Store.shut_if_dirty g.met.S.Store.broken_if_shut (λ (was db : Trees). (first : ℕ) × Takes was db first c.args.count) c.args.self.now.trees c.begin.new.trees c.take_next.new.self.trees c.commit.new.trees c.begin.ensures.pending c.in_ok-begin.ensures.fresh c.take_next.ensures.pending (λ clean. (c.in-Ok.first, c.in-Ok.ensures.ok clean)) c.commit.ensures.crash
    g.met.S.Store.stays (takes_grow c.args.count)

pub returns-in_err-commit-in-Ok-clause-crash : goal.returns-in_err-commit-in-Ok-clause-crash
returns-in_err-commit-in-Ok-clause-crash g c =
    call.survives g.S.Store.view g.S.Store.recovers g.met.S.Store.shut_if_dirty g.met.S.Store.broken_if_shut (λ (was db : Trees). (first : ℕ) × Takes was db first c.args.count) c.args.self.now.trees c.begin.new.trees c.take_next.new.self.trees c.commit.new.trees c.begin.ensures.pending c.in_ok-begin.ensures.fresh c.take_next.ensures.pending (λ clean. (c.in-Ok.first, c.in-Ok.ensures.ok clean)) c.commit.ensures.crash

pub returns-in_ok-commit-in-Ok-clause-kept : goal.returns-in_ok-commit-in-Ok-clause-kept
returns-in_ok-commit-in-Ok-clause-kept g c =
    call.kept g.S.Store.view g.S.Store.recovers g.met.S.Store.shut_if_dirty g.met.S.Store.broken_if_shut (λ (was db : Trees). (first : ℕ) × Takes was db first c.args.count) c.args.self.now.trees c.begin.new.trees c.take_next.new.self.trees c.commit.new.trees c.begin.ensures.pending c.in_ok-begin.ensures.fresh c.take_next.ensures.pending (λ clean. (c.in-Ok.first, c.in-Ok.ensures.ok clean)) c.commit.ensures.crash
    g.met.S.Store.stays (takes_grow c.args.count)

pub returns-in_ok-commit-in-Ok-clause-crash : goal.returns-in_ok-commit-in-Ok-clause-crash
returns-in_ok-commit-in-Ok-clause-crash g c =
    call.survives g.S.Store.view g.S.Store.recovers g.met.S.Store.shut_if_dirty g.met.S.Store.broken_if_shut (λ (was db : Trees). (first : ℕ) × Takes was db first c.args.count) c.args.self.now.trees c.begin.new.trees c.take_next.new.self.trees c.commit.new.trees c.begin.ensures.pending c.in_ok-begin.ensures.fresh c.take_next.ensures.pending (λ clean. (c.in-Ok.first, c.in-Ok.ensures.ok clean)) c.commit.ensures.crash

pub returns-in_err-commit-in-Ok-clause-err : goal.returns-in_err-commit-in-Ok-clause-err
returns-in_err-commit-in-Ok-clause-err g c =
    on_err_of c.from_residual-in_err-commit-in-Ok.result _
    (λ is. let kept = c.in_err-commit-in-Ok.ensures.err is in
    kept.1 ∙ c.take_next.ensures.pending.committed kept.0 ∙ c.begin.ensures.pending.committed (c.take_next.ensures.pending.was_open kept.0))

pub returns-in_ok-commit-in-Ok-clause-taken : goal.returns-in_ok-commit-in-Ok-clause-taken
returns-in_ok-commit-in-Ok-clause-taken g c =
    call.taken g.S.Store.view g.S.Store.recovers g.met.S.Store.shut_if_dirty g.met.S.Store.broken_if_shut (λ (was db : Trees). Takes was db c.in-Ok.first c.args.count) c.args.self.now.trees c.begin.new.trees c.take_next.new.self.trees c.commit.new.trees c.begin.ensures.pending c.in_ok-begin.ensures.fresh c.take_next.ensures.pending (λ clean. c.in-Ok.ensures.ok clean)
    g.met.S.Store.settled c.in_ok-commit-in-Ok.ensures.open (c.in-Ok.first + c.args.count) (λ was db t. t.noted.noted) c.in_ok-commit-in-Ok.ensures.ok
