use Rattle.xds_exchange.proofs.Staying.{hearers_write}
use Rattle.xds_exchange.proofs.laws.hearers_may_write.Goals as goal

pub returns : goal.returns
returns c = hearers_write
