use Rattle.std.specs.Prelude.{length}
use Rattle.xds_changes.proofs.LineReading.{IsReadInto}
use Rattle.xds_changes.proofs.write_lines.read_batch.Given as goal

abbrev pub invariant-loop-bytes : goal.invariant-loop-bytes
invariant-loop-bytes l = IsReadInto l.body l.left l.line l.batch

abbrev pub decreases-loop-bytes : goal.decreases-loop-bytes
decreases-loop-bytes l = length l.left
