use Rattle.xds_trace.proofs.Tracing as laws
use Rattle.xds_trace.proofs.laws.every_legal_trace_keeps_the_rules.Goals as goal

pub returns-clause-kept : goal.returns-clause-kept
returns-clause-kept c = laws.every_legal_trace_keeps_the_rules

pub returns-clause-idle : goal.returns-clause-idle
returns-clause-idle c = laws.so_do_idle_ends
