use Rattle.std.proofs.Common.{ap, ◌∙◌, arith}
use Rattle.sqlite_trees.specs.Tree.{Trees}
use Rattle.sqlite_trees.specs.View.{IsClean}
use Rattle.xds_resource.specs.PerType.{at}
use Rattle.xds_store.specs.Joins.{stored_in}
use Rattle.xds_store.proofs.ReadLemmas.{all_joined}
use Rattle.xds_store.proofs.Transactions.{fresh_trees}
use Rattle.xds_store.proofs.store.Store.read_all.Goals as goal

pub returns-in-Ok-clause-merged : goal.returns-in-Ok-clause-merged
returns-in-Ok-clause-merged g c =
    λ clean t.
    let before : IsClean (g.S.Store.view c.begin.new.trees) = omega (arith, c.read_rows.ensures.pending.clean, clean) in
    let same = fresh_trees g.S.Store.view g.S.Store.recovers g.met.S.Store.shut_if_dirty g.met.S.Store.broken_if_shut c.args.self.now.trees c.begin.new.trees c.begin.ensures.pending (c.in_ok-begin.ensures.fresh before) in
    all_joined (at c.read_rows.new.batch t) (stored_in (g.S.Store.view c.args.self.now.trees).committed t) ((c.in-Ok.ensures.ok clean).stands t ∙ ap (λ (trees : Trees). stored_in trees t) same)
