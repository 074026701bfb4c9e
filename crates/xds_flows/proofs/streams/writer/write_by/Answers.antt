use Rattle.std.proofs.Common.{[], None}
use Rattle.xds_flows.specs.Owing.{write_at}
use Rattle.xds_flows.proofs.streams.writer.write_by.Goals as goal

pub returns-in-Ready : goal.returns-in-Ready
returns-in-Ready g c =
    c.loop.invariant _ (write_at g.H.Host.told g.H.Host.refused g.W.Write.contents c.poll_responses-polled.new.seat None [] c.poll_responses-polled.new.writer)
    (rw c.in-Ready.is at c.poll_responses-polled.ensures.ended)
