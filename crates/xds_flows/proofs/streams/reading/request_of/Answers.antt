use Rattle.std.proofs.Common.{ap, Err}
use Rattle.xds_frames.specs.Frames.{Framed}
use Rattle.xds_node.specs.Ending.{IsUnread}
use Rattle.xds_flows.proofs.StreamReadings.{if_err, unread_delta}
use Rattle.xds_flows.proofs.streams.reading.request_of.Goals as goal

pub returns-in_err-request-in-DeltaDiscoveryRequest-clause-refused :
    goal.returns-in_err-request-in-DeltaDiscoveryRequest-clause-refused
returns-in_err-request-in-DeltaDiscoveryRequest-clause-refused c =
    let f : Framed = record { kind = c.args.kind; text = c.args.text.now } in
    let exit = c.in_err-request-in-DeltaDiscoveryRequest in
    if_err _ exit.field-0.0 (IsUnread f) c.from_residual-in_err-request-in-DeltaDiscoveryRequest.ensures.1
    (unread_delta f exit.field-0.0 c.in-DeltaDiscoveryRequest.is exit.ensures.refused (λ is. exit.ensures.not_json (ap Err is)) (λ is. exit.ensures.bad (ap Err is)))
