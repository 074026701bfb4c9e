use Rattle.std.proofs.Common.{subst}
use Rattle.sqlite_trees.specs.View.{Advances}
use Rattle.xds_store.proofs.ReadLemmas.{reads_one}
use Rattle.xds_store.proofs.store.Store.read_next.Goals as goal

pub returns-in-Ok-clause-ok : goal.returns-in-Ok-clause-ok
returns-in-Ok-clause-ok g c =
    λ clean.
    let old = g.S.Store.view c.args.self.now.trees in
    let new = g.S.Store.view c.next_row.new.trees in
    reads_one old new c.next_row.new.row c.in_ok-write.write c.args.batch.now c.push.new.self
    (subst (Advances old new 0 c.next_row.new.row) c.if-not-branch.false (c.in_ok-next_row.ensures.ok clean)) c.in_ok-write.ensures.ok c.in-Ok.ensures.ok
