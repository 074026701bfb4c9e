use Rattle.xds_exchange.proofs.Knowing.{all_known}
use Rattle.xds_exchange.proofs.laws.all_is_known.Goals as goal

pub returns : goal.returns
returns c = all_known
