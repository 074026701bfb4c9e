use Rattle.xds_exchange.proofs.Knowing.{merges_keep}
use Rattle.xds_exchange.proofs.laws.merges_keep_knowing.Goals as goal

pub returns : goal.returns
returns c = merges_keep
