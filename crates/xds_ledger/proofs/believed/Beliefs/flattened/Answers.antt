use Rattle.std.proofs.Common.{◌∙◌}
use Rattle.xds_ledger.proofs.Overlaying.{flat_is}
use Rattle.xds_ledger.proofs.believed.Beliefs.flattened.Goals as goal

pub returns-clause-ok : goal.returns-clause-ok
returns-clause-ok c = c.in_ok-all.ensures.ok ∙ flat_is c.self.inside.base c.self.inside.changed ∙ c.self.view_is
