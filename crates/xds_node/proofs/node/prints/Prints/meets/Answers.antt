use Rattle.std.proofs.Common.{ap, ◌∙◌}
use Rattle.std.specs.List.{list_any}
use Rattle.std.specs.FinSet as set
use Rattle.xds_node.specs.Prints.{shares}
use Rattle.xds_node.proofs.Fingerprints.{any_shares}
use Rattle.xds_node.proofs.node.prints.Prints.meets.Goals as goal

pub returns : goal.returns
returns c =
    c.has_any.ensures ∙ ap (list_any (set.contains c.args.self.now)) c.as_slice.ensures.value ∙ any_shares c.args.self.now c.other.inside.sorted.items
    ∙ ap (shares c.args.self.now) c.other.view_is
