use Rattle.std.proofs.Common.{rules}
use Rattle.xds_frames.specs.Devices.{seen}
use Rattle.xds_flows.proofs.Pollings.{ended, ended_as, goes_on}
use Rattle.xds_flows.proofs.streams.poll_reader.ReadingHalfSeatFuture.poll.Goals as goal

pub returns-in-Pending-clause-same : goal.returns-in-Pending-clause-same
returns-in-Pending-clause-same g c x h = rw c.in-Some.is (goes_on _ _ _ _ _ _ _ _ _ _ _ _ _ _ _ x.result c.in-Pending.ensures.waits h)

pub returns-in-Ready-clause-value : goal.returns-in-Ready-clause-value
returns-in-Ready-clause-value g c =
    rw c.in-Some.is
    (ended_as g.H.Host.told g.H.Host.refused g.D.KnownRead.remaining c.in-Some.at.stream c.in-Some.at.seat c.in-Some.at.decoder c.in-Some.at.reader c.end.result c.in-Ready.served c.close.new.seat
    c.poll_requests.new.reader (search rules)
    (ended c.in-Some.at.stream _ _ _ _ _ _ c.in-Some.at.decoder (seen g.D.KnownRead.remaining c.in-Some.at.reader c.poll_requests.new.reader) c.in-Ready.served c.in-Ready.ensures.ready c.close.ensures))
