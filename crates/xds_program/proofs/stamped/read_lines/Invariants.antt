use Rattle.std.proofs.Common.{length}
use Rattle.xds_resource.specs.PerType.{at}
use Rattle.xds_program.specs.Gathered.{IsReadTo}
use Rattle.xds_program.proofs.stamped.read_lines.Given as goal

abbrev pub invariant-loop-bytes : goal.invariant-loop-bytes
invariant-loop-bytes l = IsReadTo l.fn.input l.left l.reading.line (at l.reading.catalogues)

abbrev pub decreases-loop-bytes : goal.decreases-loop-bytes
decreases-loop-bytes l = length l.left
