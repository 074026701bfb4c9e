use Rattle.xds_changes.proofs.Handings.{IsTakenSoFar}
use Rattle.xds_changes.proofs.input.take_lines.Given as goal

abbrev pub invariant-loop : goal.invariant-loop
invariant-loop g l =
    IsTakenSoFar (g.H.Hands.hands) l.initial.hands l.hands (g.I.Read.remaining l.initial.input) (g.I.Read.remaining l.input) l.held.bytes.items l.line
