use Rattle.std.proofs.Common.{inl}
use Rattle.xds_check.proofs.Traces.{not_following}
use Rattle.xds_check.proofs.trace.take_line.Goals as goal

pub returns-in-Err-clause-refused : goal.returns-in-Err-clause-refused
returns-in-Err-clause-refused c = λ other. let k = c.in-Err.ensures other in (k.0, inl k.1)

pub returns-then-not-may_follow-clause-refused : goal.returns-then-not-may_follow-clause-refused
returns-then-not-may_follow-clause-refused c = not_following c.args.order.now c.args.text.now c.in-Ok.line c.may_follow.result c.in-Ok.ensures c.if-not-may_follow.true c.may_follow.ensures
