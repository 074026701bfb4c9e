use Rattle.std.proofs.Common.{ap, subst, ◌∙◌}
use Rattle.std.specs.List.Sorted.{IsBinarySearchResult}
use Rattle.std.specs.Ordering.{nat_cmp}
use Rattle.std.specs.FinSet as set
use Rattle.xds_node.proofs.Fingerprints.{found}
use Rattle.xds_node.proofs.node.prints.Prints.contains.Goals as goal

pub returns : goal.returns
returns c =
    c.is_ok.ensures.value
    ∙ found c.self.inside.sorted.items c.args.print c.binary_search.result
    (subst (λ xs. IsBinarySearchResult (λ y. nat_cmp y c.args.print) xs c.binary_search.result) c.deref.ensures.value c.binary_search.ensures.position) c.self.invariant
    ∙ ap (λ s. set.contains s c.args.print) c.self.view_is
