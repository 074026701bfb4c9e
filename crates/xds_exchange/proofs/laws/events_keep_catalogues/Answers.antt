use Rattle.xds_exchange.proofs.Staying.{events_keep}
use Rattle.xds_exchange.proofs.laws.events_keep_catalogues.Goals as goal

pub returns : goal.returns
returns c = events_keep
