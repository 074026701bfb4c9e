use Rattle.xds_flows.proofs.WorkersReadings.{asks_by}
use Rattle.xds_flows.proofs.streams.reader.ask.Goals as goal

pub returns : goal.returns
returns g c = asks_by _ _ _ _ _ _ c.answered.result c.granted.result c.answered.ensures c.granted.ensures
