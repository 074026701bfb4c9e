use Rattle.std.proofs.Common.{inl, refl}
use Rattle.xds_causes.proofs.Causing.{line_cause}
use Rattle.xds_causes.proofs.cause.cause_of.Goals as goal

pub returns-in-Ok-clause-cause : goal.returns-in-Ok-clause-cause
returns-in-Ok-clause-cause c = line_cause c.args.line.now c.in-Ok.text.now c.cause_in.result c.in-Ok.ensures.cases c.cause_in.ensures.cause

pub returns-in-Err-clause-cause : goal.returns-in-Err-clause-cause
returns-in-Err-clause-cause c = inl (c.in-Err.ensures.cases.0, refl)
