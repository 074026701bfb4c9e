use Rattle.std.proofs.Common.{length}
use Rattle.xds_program.proofs.gathering.+gather_rest.Given as goal

abbrev pub decreases-gather_rest : goal.decreases-gather_rest
decreases-gather_rest l = length l.rest.items
