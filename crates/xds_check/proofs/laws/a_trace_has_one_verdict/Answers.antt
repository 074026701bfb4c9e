use Rattle.xds_check.proofs.OneVerdict.{none_has_no_first, one_is_first}
use Rattle.xds_check.proofs.laws.a_trace_has_one_verdict.Goals as goal

pub returns-clause-either : goal.returns-clause-either
returns-clause-either c = none_has_no_first

pub returns-clause-once : goal.returns-clause-once
returns-clause-once c = one_is_first
