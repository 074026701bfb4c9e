use Rattle.xds_trace.proofs.Named as laws
use Rattle.xds_trace.proofs.laws.every_trace_keeps_the_rules.Goals as goal

pub returns-clause-kept : goal.returns-clause-kept
returns-clause-kept c = laws.every_trace_keeps_the_rules

pub returns-clause-idle : goal.returns-clause-idle
returns-clause-idle c = laws.so_does_one_with_idle_ends
