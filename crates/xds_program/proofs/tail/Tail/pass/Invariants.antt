use Rattle.std.proofs.Common.{length}
use Rattle.xds_program.proofs.tail.Tail.pass.Given as goal

abbrev pub decreases-loop-following : goal.decreases-loop-following
decreases-loop-following l = length l.rest
