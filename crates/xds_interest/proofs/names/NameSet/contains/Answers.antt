use Rattle.std.proofs.Common.{sym, ap, ◌∙◌}
use Rattle.std.specs.FinSet as set
use Rattle.xds_interest.proofs.NameSets.{contains-seen}
use Rattle.xds_interest.proofs.names.NameSet.contains.Goals as goal

pub returns : goal.returns
returns c = c.contains.ensures ∙ sym (contains-seen c.self.inside.names c.args.name.now) ∙ ap (λ s. set.contains s c.args.name.now) c.self.view_is
