use Rattle.xds_exchange.proofs.Staying.{tellers_write}
use Rattle.xds_exchange.proofs.laws.tellers_may_write.Goals as goal

pub returns : goal.returns
returns c = tellers_write
