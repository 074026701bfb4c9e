use Rattle.std.proofs.Common.{◌∙◌}
use Rattle.std.specs.Arc.{arc_str_bytes}
use Rattle.xds_catalogue.proofs.MapViews.{by_number-clone}
use Rattle.xds_catalogue.proofs.numbers.NamesByNumber.try_copy.Goals as goal

pub returns-clause-ok : goal.returns-clause-ok
returns-clause-ok c = by_number-clone arc_str_bytes _ _ c.in_ok-clone.ensures.cases ∙ c.self.view_is
