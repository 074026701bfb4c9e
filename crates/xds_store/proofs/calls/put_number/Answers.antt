use Rattle.std.proofs.Common.{refl, subst}
use Rattle.sqlite_trees.specs.View.{IsShaped}
use Rattle.xds_store.specs.Tables.{numbers_tree}
use Rattle.xds_store.proofs.Pending.{pending_on_same}
use Rattle.xds_store.proofs.calls.put_number.Goals as goal

pub returns-in-Ok-clause-pending : goal.returns-in-Ok-clause-pending
returns-in-Ok-clause-pending g c =
    pending_on_same g.S.Store.view g.S.Store.recovers g.met.S.Store.shut_if_dirty g.S.Store.faults g.S.Store.is_shielded c.args.trees.now c.put.new.self c.put.ensures.quiet
    _ (λ o. o) refl (λ clean. (c.in-Ok.ensures.ok clean).is)

pub returns-in-Ok-clause-ordered : goal.returns-in-Ok-clause-ordered
returns-in-Ok-clause-ordered g c =
    λ clean.
    let trees = c.args.trees.now in
    (subst (λ shape. IsShaped shape ((g.S.Store.view trees).trees numbers_tree)) c.requires.tables.numbers (g.met.S.Store.ordered trees (c.in-Ok.ensures.ok clean).sound numbers_tree)).0
