use Rattle.std.proofs.Common.{All}
use Rattle.xds_cases.specs.Scripts.{IsFollowed}
use Rattle.xds_cases.proofs.scripts.follow.Given as goal

abbrev pub invariant-loop-story : goal.invariant-loop-story
invariant-loop-story g l = All (λ x. IsFollowed g.S.Script.may_begin g.S.Script.may_answer x.now) l.yielded
