use Rattle.std.proofs.Common.{length}
use Rattle.xds_changes.proofs.KeptLines.{IsKeptTo}
use Rattle.xds_changes.proofs.keeping.keep_piece.Given as goal

abbrev pub invariant-loop-part : goal.invariant-loop-part
invariant-loop-part g l = IsKeptTo (g.H.Hands.hands) (g.H.Keeps.refuses) l.initial.hands l.hands l.initial.kept l.kept l.piece l.rest

abbrev pub decreases-loop-part : goal.decreases-loop-part
decreases-loop-part g l = length l.rest
