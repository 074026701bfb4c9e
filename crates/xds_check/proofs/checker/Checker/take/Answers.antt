use Rattle.std.proofs.Common.{◌+◌, refl, arith}
use Rattle.xds_check.proofs.LineByLine.{taken_more, may_come}
use Rattle.xds_check.proofs.checker.Checker.take.Goals as goal

pub returns-clause-taken : goal.returns-clause-taken
returns-clause-taken c = λ lines h.
    let follows = may_come lines c.args.line.now c.args.self.now c.may_follow.result h c.may_follow.ensures c.if-not-may_follow.false in
    taken_more lines c.args.line.now c.args.self.now (record { order = c.take.new.self; judges = c.judge.new.judges; broken = c.judge.new.broken; taken = c.args.self.now.taken + 1 }) h (omega arith) refl c.in_ok-take.ensures.ok
    (c.in_ok-judge.ensures.judged lines h.count follows h.judged)
