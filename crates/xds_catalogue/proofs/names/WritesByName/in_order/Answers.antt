use Rattle.std.proofs.Common.{◌++◌, map, ap, sym, ◌∙◌, append-nil}
use Rattle.std.specs.FinMap as finmap
use Rattle.xds_catalogue.proofs.InOrder.{one_more, values_of_entries}
use Rattle.xds_catalogue.proofs.names.WritesByName.in_order.Goals as goal

pub loop-name-preserved : goal.loop-name-preserved
loop-name-preserved g c =
    one_more c.loop-name.writes.items c.push.new.self.items c.write.result c.in-Some.entry.now.write (map (λ e. e.1.write) c.next.new.self) _ c.in_ok-push.ensures.items c.write.ensures
    (ap (λ l. map (λ w. w.now) c.loop-name.writes.items ++ map (λ e. e.1.write) l) (sym c.in-Some.ensures.steps) ∙ c.loop-name.invariant)

pub returns-clause-ok : goal.returns-clause-ok
returns-clause-ok g c =
    let gives = c.into_iter-name-iterator.ensures.into_iter_gives in
    sym (append-nil (map (λ w. w.now) c.loop-name.writes.items)) ∙ ap (λ l. map (λ w. w.now) c.loop-name.writes.items ++ map (λ e. e.1.write) l) (sym c.in-None.ensures.steps.0) ∙ c.loop-name.invariant
    ∙ ap (map (λ e. e.1.write)) gives.0 ∙ values_of_entries (λ e. e.write) c.self.inside.by_name gives.5 ∙ ap (λ n. finmap.values n.entries) c.self.view_is
