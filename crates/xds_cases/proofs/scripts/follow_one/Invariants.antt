use Rattle.std.proofs.Common.{map}
use Rattle.xds_cases.specs.Scripts.{AreAnswered}
use Rattle.xds_cases.proofs.scripts.follow_one.Given as goal

abbrev pub invariant-loop-line : goal.invariant-loop-line
invariant-loop-line g l = AreAnswered g.S.Script.may_answer l.initial.script (map (λ x. x.now) l.yielded) l.script
