use Rattle.xds_check.proofs.LineByLine.{AreTakenOf}
use Rattle.xds_check.proofs.checking.first_broken.Given as goal

-- the lines so far keep the rules, and what is kept is what they say
abbrev pub invariant-loop-i : goal.invariant-loop-i
invariant-loop-i l = AreTakenOf l.lines l.i l.judges
