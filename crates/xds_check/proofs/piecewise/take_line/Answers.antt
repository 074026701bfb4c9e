use Rattle.std.proofs.Common.{inl}
use Rattle.xds_check.proofs.piecewise.take_line.Goals as goal

pub returns-in-Err-clause-refused : goal.returns-in-Err-clause-refused
returns-in-Err-clause-refused c = λ other. let k = c.in-Err.ensures other in (k.0, λ lines h. inl k.1)
