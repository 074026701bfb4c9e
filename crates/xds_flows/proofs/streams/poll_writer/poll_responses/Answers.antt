use Rattle.xds_flows.specs.Owing.{write_at}
use Rattle.xds_flows.proofs.streams.poll_writer.poll_responses.Goals as goal

pub returns-in-Ready-Some-clause-ended : goal.returns-in-Ready-Some-clause-ended
returns-in-Ready-Some-clause-ended g c =
    c.loop.invariant.0 _ (write_at g.H.Host.told g.H.Host.refused g.P.Writes.contents c.poll_turn.new.seat c.poll_turn.new.given c.poll_turn.new.owed c.poll_turn.new.writer)
    (rw c.in-Ready-Some.field-0-is at c.in-Ready-Some.ensures.ended)
