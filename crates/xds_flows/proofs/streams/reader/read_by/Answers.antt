use Rattle.xds_flows.proofs.WorkersReadings.{reading-more, reading-start}
use Rattle.xds_flows.proofs.Pollings.{reads_to}
use Rattle.xds_flows.proofs.streams.reader.read_by.Goals as goal

pub loop-init : goal.loop-init
loop-init g c = reading-start _ _ _ _ _ _ c.new-decoder.ensures

pub loop-preserved : goal.loop-preserved
loop-preserved g c = reading-more _ _ _ _ _ _ _ _ _ _ _ _ _ _ _ _ c.loop.invariant (rw c.in-Pending.is at c.poll_requests-polled.ensures.waits)

pub returns-in-Ready : goal.returns-in-Ready
returns-in-Ready g c =
    reads_to _ _ _ _ _ _ _ _ _ _ _ _ _ _ _ c.in-Ready.end c.loop.invariant (rw c.in-Ready.is at c.poll_requests-polled.ensures.ready)
