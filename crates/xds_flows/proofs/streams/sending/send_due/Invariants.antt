use Rattle.xds_node.specs.Turning.{IsOpen, numbers_left}
use Rattle.xds_flows.proofs.Sendings.{IsSentTo}
use Rattle.xds_flows.proofs.streams.sending.send_due.Given as goal

abbrev pub invariant-loop-draft : goal.invariant-loop-draft
invariant-loop-draft g l =
    IsSentTo l.stream l.initial.core l.core (g.W.Write.contents l.initial.writer.inner) (g.W.Write.contents l.writer.inner) l.initial.writer.failed l.writer.failed × IsOpen l.stream l.core

abbrev pub decreases-loop-draft : goal.decreases-loop-draft
decreases-loop-draft g l = numbers_left l.stream l.core
