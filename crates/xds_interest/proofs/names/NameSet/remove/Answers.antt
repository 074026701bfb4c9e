use Rattle.std.proofs.Common.{ap, ◌∙◌}
use Rattle.std.specs.FinSet as set
use Rattle.xds_interest.proofs.NameSets.{seen-removed}
use Rattle.xds_interest.proofs.names.NameSet.remove.Goals as goal

pub returns : goal.returns
returns c = seen-removed c.self.inside.names c.remove.new.self c.args.name.now c.remove.ensures.updates ∙ ap (λ s. set.remove s c.args.name.now) c.self.view_is
