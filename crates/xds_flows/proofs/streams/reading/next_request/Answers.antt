use Rattle.std.proofs.Common.{ap, ◌∙◌, Ok}
use Rattle.xds_flows.proofs.StreamReadings.{given_message}
use Rattle.xds_flows.proofs.streams.reading.next_request.Goals as goal

pub returns-in_ok-request_of-in-Some : goal.returns-in_ok-request_of-in-Some
returns-in_ok-request_of-in-Some c =
    given_message _ _ _ _ _ (c.in_ok-frame.was ∙ ap Ok c.in-Some.is) c.next.follows.holds-at-none c.in_ok-request_of-in-Some.ensures.ok
