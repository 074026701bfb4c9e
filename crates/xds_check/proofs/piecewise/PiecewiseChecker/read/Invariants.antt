use Rattle.std.proofs.Common.{length}
use Rattle.xds_check.proofs.PieceByPiece.{IsReadOf}
use Rattle.xds_check.proofs.piecewise.PiecewiseChecker.read.Given as goal

-- the piece was read up to what is left
abbrev pub invariant-loop-part : goal.invariant-loop-part
invariant-loop-part l = IsReadOf l.piece l.rest l.initial.self l.self

abbrev pub decreases-loop-part : goal.decreases-loop-part
decreases-loop-part l = length l.rest
