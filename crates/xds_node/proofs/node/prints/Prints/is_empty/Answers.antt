use Rattle.std.proofs.Common.{◌==◌, length, ap, ◌∙◌}
use Rattle.xds_node.proofs.Fingerprints.{empty_or_not}
use Rattle.xds_node.proofs.node.prints.Prints.is_empty.Goals as goal

pub returns : goal.returns
returns c = empty_or_not c.self.inside.sorted.items c.args.self.now _ c.self.view_is (c.is_empty.ensures ∙ ap (λ xs. length xs == 0) c.as_slice.ensures.value)
