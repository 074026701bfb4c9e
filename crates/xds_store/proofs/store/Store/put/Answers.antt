use Rattle.std.proofs.Common.{sym, ◌∙◌, arith}
use Rattle.sqlite_trees.specs.View.{IsClean}
use Rattle.xds_store.proofs.NumberLemmas.{on_ok_map}
use Rattle.xds_store.proofs.PutLemmas.{added, kept_by, replaced}
use Rattle.xds_store.proofs.store.Store.put.Goals as goal

pub returns-then-not-branch-clause-ok : goal.returns-then-not-branch-clause-ok
returns-then-not-branch-clause-ok g c =
    on_ok_map c.add.result _ _
    (λ ok clean.
    let before : IsClean (g.S.Store.view c.find.new.self.trees) = omega (arith, c.add.ensures.pending.clean, clean) in
    added (g.S.Store.view c.args.self.now.trees).trees (g.S.Store.view c.find.new.self.trees).trees (g.S.Store.view c.add.new.self.trees).trees (g.T.ResourceType.TYPE, c.args.write.now) (c.in_ok-find.ensures.ok before).0 (ok clean))
    c.add.ensures.ok

pub returns-then-not-is_older-clause-ok : goal.returns-then-not-is_older-clause-ok
returns-then-not-is_older-clause-ok g c =
    λ clean.
    let looked = c.in_ok-find.ensures.ok clean in
    kept_by (g.S.Store.view c.args.self.now.trees).trees (g.S.Store.view c.find.new.self.trees).trees c.find.new.self.row g.T.ResourceType.TYPE c.in_ok-former.former c.args.write.now looked.0
    (looked.1 c.if-not-branch.false) c.in_ok-former.ensures.ok (c.in_ok-find.ensures.named c.if-not-branch.false) (sym c.is_older.ensures ∙ c.if-not-is_older.true)

pub returns-clause-ok : goal.returns-clause-ok
returns-clause-ok g c =
    on_ok_map c.add-2.result _ _
    (λ ok clean.
    let cut : IsClean (g.S.Store.view c.remove_write.new.trees) = omega (arith, c.add-2.ensures.pending.clean, clean) in
    let before : IsClean (g.S.Store.view c.find.new.self.trees) = omega (arith, c.remove_write.ensures.pending.clean, cut) in
    replaced (g.S.Store.view c.args.self.now.trees).trees (g.S.Store.view c.find.new.self.trees).trees (g.S.Store.view c.remove_write.new.trees).trees (g.S.Store.view c.add-2.new.self.trees).trees
    c.find.new.self.row g.T.ResourceType.TYPE c.in_ok-former.former c.args.write.now (c.in_ok-find.ensures.ok before).0 (c.in_ok-remove_write.ensures.ok cut) c.in_ok-former.ensures.ok
    (c.in_ok-find.ensures.named c.if-not-branch.false) (sym c.is_older.ensures ∙ c.if-not-is_older.false) (ok clean))
    c.add-2.ensures.ok
