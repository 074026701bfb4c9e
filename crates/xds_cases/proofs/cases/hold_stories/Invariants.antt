use Rattle.std.proofs.Common.{All}
use Rattle.xds_cases.specs.Cases.{Holds}
use Rattle.xds_cases.proofs.cases.hold_stories.Given as goal

abbrev pub invariant-loop-story : goal.invariant-loop-story
invariant-loop-story g l = All (λ x. Holds g.O.Outcome.may_make x.now) l.yielded
