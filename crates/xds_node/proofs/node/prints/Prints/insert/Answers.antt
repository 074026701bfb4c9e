use Rattle.std.proofs.Common.{◌≡◌, Ok, Err, sym, ap, subst, ◌∙◌}
use Rattle.std.specs.Bool.{OnTrue}
use Rattle.std.specs.List.Sorted.{IsBinarySearchResult}
use Rattle.std.specs.Ordering.{nat_cmp}
use Rattle.std.specs.FinSet as set
use Rattle.xds_node.proofs.Fingerprints.{of_list, found, placed, seen-placed, there_already}
use Rattle.xds_node.proofs.node.prints.Prints.insert.Goals as goal

pub invariant_of-self : goal.invariant_of-self
invariant_of-self c =
    placed c.self.inside.sorted.items _ _ c.in-Err.place c.args.print
    (subst (λ xs. IsBinarySearchResult (λ y. nat_cmp y c.args.print) xs (Err c.in-Err.place)) c.deref.ensures.value c.in-Err.ensures.position) c.self.invariant c.insert.ensures.items

pub returns-in-Ok : goal.returns-in-Ok
returns-in-Ok c =
    there_already c.args.self.now c.args.print
    (ap (λ s. set.contains s c.args.print) (sym c.self.view_is)
    ∙ sym (found c.self.inside.sorted.items c.args.print (Ok c.in-Ok.field-0)
    (subst (λ xs. IsBinarySearchResult (λ y. nat_cmp y c.args.print) xs (Ok c.in-Ok.field-0)) c.deref.ensures.value c.in-Ok.ensures.position) c.self.invariant))

pub returns-in-Err : goal.returns-in-Err
returns-in-Err c =
    subst (λ ok. OnTrue ok (of_list c.insert.new.self.items ≡ set.insert c.args.self.now c.args.print)) (sym c.is_ok.ensures.value)
    (seen-placed c.self.inside.sorted.items c.insert.new.self.items c.args.self.now _ c.in-Err.place c.args.print c.self.view_is c.insert.ensures.items)
