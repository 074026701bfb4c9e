use Rattle.xds_catalogue.proofs.JoinLaws.{order_does_not_matter}
use Rattle.xds_catalogue.proofs.laws.order_does_not_matter.Goals as goal

pub returns : goal.returns
returns c = order_does_not_matter
