use Rattle.std.proofs.Common.{length}
use Rattle.xds_program.proofs.Reading.{AreTaken}
use Rattle.xds_program.proofs.gathering.take_lines.Given as goal

abbrev pub invariant-loop-bytes : goal.invariant-loop-bytes
invariant-loop-bytes l = AreTaken l.rest l.left l.fn.reading.line l.reading.line l.fn.reading.catalogues l.reading.catalogues

abbrev pub decreases-loop-bytes : goal.decreases-loop-bytes
decreases-loop-bytes l = length l.left
