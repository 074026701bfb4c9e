use Rattle.std.proofs.Common.{ap, ◌∙◌}
use Rattle.std.specs.List.{list_all}
use Rattle.std.specs.FinSet as set
use Rattle.xds_node.proofs.Fingerprints.{all_within}
use Rattle.xds_node.proofs.node.prints.Prints.has_all.Goals as goal

pub returns : goal.returns
returns c =
    c.has_each.ensures ∙ ap (list_all (set.contains c.args.self.now)) c.as_slice.ensures.value ∙ all_within c.args.self.now c.more.inside.sorted.items
    ∙ ap (λ s. set.is_subset s c.args.self.now) c.more.view_is
