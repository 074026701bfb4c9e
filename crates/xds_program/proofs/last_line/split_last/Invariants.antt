use Rattle.std.proofs.Common.{length}
use Rattle.xds_program.proofs.LastLines.{IsLeft}
use Rattle.xds_program.proofs.last_line.split_last.Given as goal

-- whole lines, and then what is left
abbrev pub invariant-loop-following : goal.invariant-loop-following
invariant-loop-following l = IsLeft l.bytes l.rest

abbrev pub decreases-loop-following : goal.decreases-loop-following
decreases-loop-following l = length l.rest
