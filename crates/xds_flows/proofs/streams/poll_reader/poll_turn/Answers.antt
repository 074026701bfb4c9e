use Rattle.xds_flows.proofs.WorkersReadings.{asked, not_read, not_taken}
use Rattle.xds_flows.proofs.Pollings.{fills_ready, waits}
use Rattle.xds_flows.proofs.streams.poll_reader.poll_turn.Goals as goal

pub returns-in-Ok-clause-ready : goal.returns-in-Ok-clause-ready
returns-in-Ok-clause-ready g c = asked _ _ _ _ _ _ _ _ c.in-Ok-Some.field-0 _ _ c.in-Ok-Some.ensures c.in-Ok-Some.field-0-is c.in-Ok.ensures

pub returns-in-Err-ask-clause-ready : goal.returns-in-Err-ask-clause-ready
returns-in-Err-ask-clause-ready g c = not_taken _ _ _ _ _ _ _ _ c.in-Ok-Some.field-0 _ _ _ c.in-Ok-Some.ensures c.in-Ok-Some.field-0-is c.in-Err-ask.ensures

pub returns-in-Ok-None-clause-ready : goal.returns-in-Ok-None-clause-ready
returns-in-Ok-None-clause-ready g c =
    fills_ready _ _ _ _ _ _ c.in-Ok-None.field-0 _ _ _ _ c.poll_more.result c.in-Ok-None.ensures c.in-Ok-None.field-0-is c.poll_more.ensures.filled

pub returns-in-Ok-None-clause-waits : goal.returns-in-Ok-None-clause-waits
returns-in-Ok-None-clause-waits g c =
    waits _ _ _ _ _ _ c.in-Ok-None.field-0 _ _ _ _ c.poll_more.result c.in-Ok-None.ensures c.in-Ok-None.field-0-is c.poll_more.ensures.waits

pub returns-in-Err-clause-ready : goal.returns-in-Err-clause-ready
returns-in-Err-clause-ready g c = not_read _ _ _ _ _ _ _ c.in-Err.ensures
