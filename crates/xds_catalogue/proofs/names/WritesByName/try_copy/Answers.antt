use Rattle.std.proofs.Common.{◌∙◌}
use Rattle.xds_catalogue.proofs.MapViews.{named_by-clone}
use Rattle.xds_catalogue.proofs.names.WritesByName.try_copy.Goals as goal

pub returns-clause-ok : goal.returns-clause-ok
returns-clause-ok g c = named_by-clone _ _ c.in_ok-clone.ensures.cases ∙ c.self.view_is
