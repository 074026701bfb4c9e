use Rattle.xds_check.proofs.OneMeaning.{one_line_said}
use Rattle.xds_check.proofs.OneTrace as traces
use Rattle.xds_check.proofs.laws.bytes_are_one_trace.Goals as goal

pub returns-clause-line : goal.returns-clause-line
returns-clause-line c = one_line_said

pub returns-clause-trace : goal.returns-clause-trace
returns-clause-trace c = traces.bytes_are_one_trace

pub returns-clause-no_bad_line : goal.returns-clause-no_bad_line
returns-clause-no_bad_line c = traces.a_trace_has_no_bad_line
