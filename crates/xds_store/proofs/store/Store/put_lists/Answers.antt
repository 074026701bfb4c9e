use Rattle.std.proofs.Common.{List, subst, arith}
use Rattle.sqlite_trees.specs.View.{IsClean}
use Rattle.xds_message.specs.Batches.{in_order}
use Rattle.xds_resource.specs.PerType.{PerType}
use Rattle.xds_resource.specs.Writes.{StampedWrite}
use Rattle.xds_store.specs.Rows.{Puts}
use Rattle.xds_store.proofs.Batches.{types_put}
use Rattle.xds_store.proofs.NumberLemmas.{on_ok_map}
use Rattle.xds_store.proofs.store.Store.put_lists.Goals as goal

pub returns-clause-ok : goal.returns-clause-ok
returns-clause-ok g c =
    let lists : PerType (List StampedWrite) = record { cluster = c.batch.inside.cluster.items; endpoint = c.batch.inside.endpoint.items; listener = c.batch.inside.listener.items; route = c.batch.inside.route.items; secret = c.batch.inside.secret.items } in
    on_ok_map c.put_list-5.result _ _
    (λ ok clean.
    let four : IsClean (g.S.Store.view c.put_list-4.new.self.trees) = omega (arith, c.put_list-5.ensures.pending.clean, clean) in
    let three : IsClean (g.S.Store.view c.put_list-3.new.self.trees) = omega (arith, c.put_list-4.ensures.pending.clean, four) in
    let two : IsClean (g.S.Store.view c.put_list-2.new.self.trees) = omega (arith, c.put_list-3.ensures.pending.clean, three) in
    let one : IsClean (g.S.Store.view c.put_list.new.self.trees) = omega (arith, c.put_list-2.ensures.pending.clean, two) in
    subst (λ x. Puts (g.S.Store.view c.args.self.now.trees).trees (g.S.Store.view c.put_list-5.new.self.trees).trees (in_order x)) c.batch.view_is
    (types_put lists _ _ _ _ _ _ (c.in_ok-put_list.ensures.ok one) (c.in_ok-put_list-2.ensures.ok two) (c.in_ok-put_list-3.ensures.ok three) (c.in_ok-put_list-4.ensures.ok four) (ok clean)))
    c.put_list-5.ensures.ok
