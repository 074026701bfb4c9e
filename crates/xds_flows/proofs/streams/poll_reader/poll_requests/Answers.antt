use Rattle.std.proofs.Common.{ap, ◌∙◌, Ok}
use Rattle.xds_flows.proofs.WorkersReadings.{reading-ended, reading-more, reading-stopped}
use Rattle.xds_flows.proofs.Pollings.{start_at}
use Rattle.xds_flows.proofs.streams.poll_reader.poll_requests.Goals as goal

pub loop-init : goal.loop-init
loop-init g c = (start_at _ _ _ _ _ _, λ fact h. h)

pub returns-in-Pending-clause-waits : goal.returns-in-Pending-clause-waits
returns-in-Pending-clause-waits g c = reading-more _ _ _ _ _ _ _ _ _ _ _ _ _ _ _ _ c.loop.invariant.0 c.in-Pending.ensures.waits

pub loop-preserved : goal.loop-preserved
loop-preserved g c = (reading-more _ _ _ _ _ _ _ _ _ _ _ _ _ _ _ _ c.loop.invariant.0 (rw (c.in-Ready-Ok-true.field-0-is ∙ ap Ok c.in-Ready-Ok-true.field-0-0-test) at c.in-Ready-Ok-true.ensures.ready), λ fact h. c.poll_turn.ensures.kept fact (c.loop.invariant.1 fact h))

pub returns-in-Ready-Ok-false-clause-ready : goal.returns-in-Ready-Ok-false-clause-ready
returns-in-Ready-Ok-false-clause-ready g c =
    reading-ended _ _ _ _ _ _ _ _ _ c.poll_turn.new.decoder _ _ _ _ _ _ (tt {0}) c.loop.invariant.0 (rw (c.in-Ready-Ok-false.field-0-is ∙ ap Ok c.in-Ready-Ok-false.field-0-0-test) at c.in-Ready-Ok-false.ensures.ready)

pub returns-in-Ready-Err-clause-ready : goal.returns-in-Ready-Err-clause-ready
returns-in-Ready-Err-clause-ready g c =
    reading-stopped _ _ _ _ _ _ _ _ _ c.poll_turn.new.decoder _ _ _ _ _ _ _ c.loop.invariant.0 (rw c.in-Ready-Err.field-0-is at c.in-Ready-Err.ensures.ready)
