use Rattle.std.proofs.Common.{[], None, refl, rules}
use Rattle.xds_flows.specs.Owing.{write_at}
use Rattle.xds_flows.proofs.Owings.{ended_as, leads_on, writes_on}
use Rattle.xds_flows.proofs.streams.poll_writer.WritingHalfSeatFuture.poll.Goals as goal

pub returns-in-Pending-clause-same : goal.returns-in-Pending-clause-same
returns-in-Pending-clause-same g c x h =
    let at = write_at g.H.Host.told g.H.Host.refused g.W.KnownWrite.contents in
    rw c.in-Some.is
    (leads_on c.in-Some.at.stream (at c.in-Some.at.seat c.in-Some.at.given c.in-Some.at.owed c.in-Some.at.writer) (at c.poll_responses.new.seat c.poll_responses.new.given c.poll_responses.new.owed c.poll_responses.new.writer)
    c.in-Pending.ensures.going x.result (at x.seat None [] x.writer) h)

pub returns-in-Ready-clause-value : goal.returns-in-Ready-clause-value
returns-in-Ready-clause-value g c =
    let at = write_at g.H.Host.told g.H.Host.refused g.W.KnownWrite.contents in
    rw c.in-Some.is
    (ended_as g.H.Host.told g.H.Host.refused g.W.KnownWrite.contents c.in-Some.at.stream (at c.in-Some.at.seat c.in-Some.at.given c.in-Some.at.owed c.in-Some.at.writer) c.end.result c.in-Ready.served
    c.close_at_stop.new.seat c.poll_responses.new.writer (search rules)
    (writes_on c.in-Some.at.stream (at c.in-Some.at.seat c.in-Some.at.given c.in-Some.at.owed c.in-Some.at.writer) (at c.poll_responses.new.seat c.poll_responses.new.given c.poll_responses.new.owed c.poll_responses.new.writer)
    (at c.close_at_stop.new.seat None [] c.poll_responses.new.writer) c.in-Ready.served c.in-Ready.ensures.ended refl refl c.close_at_stop.ensures))
