use Rattle.std.proofs.Common.{ap, ◌∙◌}
use Rattle.std.specs.FinMap as finmap
use Rattle.xds_catalogue.proofs.ByNumbers.{entries-numbered}
use Rattle.xds_catalogue.proofs.by_number.ByNumber.iter.Goals as goal

pub returns : goal.returns
returns g c = c.iter.ensures.rest ∙ entries-numbered c.self.inside.values c.iter.ensures.ordered ∙ ap finmap.entries c.self.view_is
