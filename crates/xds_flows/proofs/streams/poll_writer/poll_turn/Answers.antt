use Rattle.xds_flows.proofs.Owings.{asked_ends, asked_leads, begin_ends, begin_leads, none_given, put_ends, put_leads, some_given, some_left}
use Rattle.xds_flows.proofs.streams.poll_writer.poll_turn.Goals as goal

pub poll_some-requires : goal.poll_some-requires
poll_some-requires g c = some_left _ c.if-not-is_empty.ensures

pub returns-in-Pending-clause-going : goal.returns-in-Pending-clause-going
returns-in-Pending-clause-going g c = put_leads _ _ _ _ _ _ _ _ _ _ c.in-Pending.ensures.put.0 c.in-Pending.ensures.put.1

pub returns-in-Ready-Ok-clause-going : goal.returns-in-Ready-Ok-clause-going
returns-in-Ready-Ok-clause-going g c =
    let put = rw c.in-Ready-Ok.field-0-is at c.in-Ready-Ok.ensures.put in put_leads _ _ _ _ _ _ _ _ _ _ put.0 put.1

pub returns-in-Ready-Err-clause-ended : goal.returns-in-Ready-Err-clause-ended
returns-in-Ready-Err-clause-ended g c =
    let put = rw c.in-Ready-Err.field-0-is at c.in-Ready-Err.ensures.put in put_ends _ _ _ _ _ _ _ _ _ _ _ c.if-not-is_empty.ensures put.0 put.1 put.2

pub begin_given-requires : goal.begin_given-requires
begin_given-requires g c = some_given _ c.if-is_some.ensures

pub returns-in-Ok-clause-going : goal.returns-in-Ok-clause-going
returns-in-Ok-clause-going g c =
    begin_leads _ _ _ _ _ _ _ _ _ _ _ c.if-not-is_empty.ensures (rw c.in-Ok.is at c.begin_given.ensures)

pub returns-in-Err-clause-ended : goal.returns-in-Err-clause-ended
returns-in-Err-clause-ended g c =
    begin_ends _ _ _ _ _ _ _ _ _ _ _ c.in-Err.refusal c.if-not-is_empty.ensures (rw c.in-Err.is at c.begin_given.ensures)

pub returns-in-Ok-next_response-clause-going : goal.returns-in-Ok-next_response-clause-going
returns-in-Ok-next_response-clause-going g c =
    asked_leads _ _ _ _ _ _ _ _ _ c.in-Ok-next_response.next _ c.if-not-is_empty.ensures (none_given _ c.if-is_some.ensures) c.replace.ensures.after c.in-Ok-next_response.ensures

pub returns-in-Err-next_response-clause-ended : goal.returns-in-Err-next_response-clause-ended
returns-in-Err-next_response-clause-ended g c =
    asked_ends _ _ _ _ _ _ _ _ _ c.in-Err-next_response.end c.if-not-is_empty.ensures (none_given _ c.if-is_some.ensures) c.in-Err-next_response.ensures
