use Rattle.std.proofs.Common.{length}
use Rattle.xds_check.proofs.Traces.{IsReadTo}
use Rattle.xds_check.proofs.trace.Trace.read.Given as goal

abbrev pub invariant-loop-text : goal.invariant-loop-text
invariant-loop-text l = IsReadTo l.bytes l.rest l.line l.lines.items l.order

abbrev pub decreases-loop-text : goal.decreases-loop-text
decreases-loop-text l = length l.rest
