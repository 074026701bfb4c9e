use Rattle.std.proofs.Common.{Some, ap, ◌∙◌, arith}
use Rattle.sqlite_value.specs.Keys.{plain}
use Rattle.sqlite_trees.specs.Tree.{from_key}
use Rattle.sqlite_trees.specs.View.{IsClean}
use Rattle.xds_store.specs.Tables.{writes_tree}
use Rattle.xds_store.proofs.NumberLemmas.{on_ok_map}
use Rattle.xds_store.proofs.ReadLemmas.{none_read}
use Rattle.xds_store.proofs.store.Store.read_rows.Goals as goal

pub returns-clause-ok : goal.returns-clause-ok
returns-clause-ok g c =
    on_ok_map c.read_on.result _ _
    (λ ok clean.
    let rows = (g.S.Store.view c.args.self.now.trees).trees writes_tree in
    let before : IsClean (g.S.Store.view c.seek_write.new.trees) = omega (arith, c.read_on.ensures.pending.clean, clean) in
    ok clean rows
    (none_read rows ((g.S.Store.view c.seek_write.new.trees).cursors 0) c.args.batch.now c.requires.empty
    ((c.in_ok-seek_write.ensures.ok before).0 ∙ ap (λ key. Some (from_key plain key rows)) c.clear.ensures)))
    c.read_on.ensures.ok
