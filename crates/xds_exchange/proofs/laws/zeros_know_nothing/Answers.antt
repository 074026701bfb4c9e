use Rattle.xds_exchange.proofs.Knowing.{zeros_know}
use Rattle.xds_exchange.proofs.laws.zeros_know_nothing.Goals as goal

pub returns : goal.returns
returns c = zeros_know
