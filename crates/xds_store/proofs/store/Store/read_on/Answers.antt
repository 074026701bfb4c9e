use Rattle.std.proofs.Common.{subst, arith}
use Rattle.sqlite_trees.specs.View.{IsClean}
use Rattle.xds_store.specs.Reading.{ReadsOn}
use Rattle.xds_store.proofs.Batches.{pending_both}
use Rattle.xds_store.proofs.ReadLemmas.{one_read, all_read}
use Rattle.xds_store.proofs.store.Store.read_on.Goals as goal

pub returns-then-not-branch-clause-ok : goal.returns-then-not-branch-clause-ok
returns-then-not-branch-clause-ok g c =
    λ clean rows none.
    let before : IsClean (g.S.Store.view c.rows.self.trees) = omega (arith, c.read_next.ensures.pending.clean, clean) in
    let was = (g.S.Store.view c.rows.self.trees).cursors 0 in
    let now = (g.S.Store.view c.read_next.new.self.trees).cursors 0 in
    all_read rows was now c.rows.batch c.read_next.new.batch (c.rows.invariant.3 before rows none)
    (subst (ReadsOn was now c.rows.batch c.read_next.new.batch) c.if-not-branch.true (c.in_ok-read_next.ensures.ok clean))

pub rows-preserved : goal.rows-preserved
rows-preserved g c = (
  pending_both g.S.Store.view g.S.Store.recovers c.args.self.now.trees c.rows.self.trees c.read_next.new.self.trees c.rows.invariant.0 c.read_next.ensures.pending,
  c.read_next.ensures.tables,
  c.in_ok-read_next.ensures.live,
  λ clean rows none.
      let before : IsClean (g.S.Store.view c.rows.self.trees) = omega (arith, c.read_next.ensures.pending.clean, clean) in
      let was = (g.S.Store.view c.rows.self.trees).cursors 0 in
      let now = (g.S.Store.view c.read_next.new.self.trees).cursors 0 in
      one_read rows was now c.rows.batch c.read_next.new.batch (c.rows.invariant.3 before rows none)
      (subst (ReadsOn was now c.rows.batch c.read_next.new.batch) c.if-not-branch.false (c.in_ok-read_next.ensures.ok clean)),
)
