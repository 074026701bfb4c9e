use Rattle.std.proofs.Common.{All}
use Rattle.xds_cases.specs.Cases.{Holds}
use Rattle.xds_cases.proofs.cases.hold.Given as goal

abbrev pub invariant-loop-case : goal.invariant-loop-case
invariant-loop-case g l = All (λ x. Holds g.O.Outcome.may_make x.now) l.yielded
