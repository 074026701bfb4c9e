use Rattle.xds_flows.proofs.Owings.{closed, not_closed}
use Rattle.xds_flows.proofs.streams.poll_writer.close_at_stop.Goals as goal

pub returns-in-Ok : goal.returns-in-Ok
returns-in-Ok g c = not_closed _ _ _ _ c.in-Ok.is

pub returns-in-Err : goal.returns-in-Err
returns-in-Err g c = closed _ _ _ _ _ _ _ c.in-Err.is c.close.ensures
