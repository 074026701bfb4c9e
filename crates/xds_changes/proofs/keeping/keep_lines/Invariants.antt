use Rattle.xds_changes.proofs.KeptLines.{IsKeptSoFar}
use Rattle.xds_changes.proofs.keeping.keep_lines.Given as goal

abbrev pub invariant-loop : goal.invariant-loop
invariant-loop g l =
    IsKeptSoFar (g.H.Hands.hands) (g.H.Keeps.refuses) l.initial.hands l.hands (g.I.Read.remaining l.initial.input) (g.I.Read.remaining l.input) l.kept
