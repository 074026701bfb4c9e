use Rattle.xds_flows.proofs.Pollings.{no_memory}
use Rattle.xds_flows.proofs.streams.reader.read_requests.Goals as goal

pub returns-in-Err : goal.returns-in-Err
returns-in-Err g c = no_memory _ _ _ _ _ _ c.in-Err.ensures
