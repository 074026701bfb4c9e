use Rattle.std.proofs.Common.{map, ◌∙◌}
use Rattle.xds_trace.specs.Telling.{record_of}
use Rattle.xds_trace.proofs.Traced.{keeps_the_rules, short_where_legal}
use Rattle.xds_trace.proofs.telling.trace_of.Goals as goal

pub returns-in-Ok-clause-keeps : goal.returns-in-Ok-clause-keeps
returns-in-Ok-clause-keeps c = keeps_the_rules (map record_of c.args.records.now) c.of_lines.result (c.of_lines.ensures ∙ c.in-Ok.ensures.told) c.in-Ok.ensures.sound

pub returns-in-Err-clause-legal : goal.returns-in-Err-clause-legal
returns-in-Err-clause-legal c = short_where_legal (map record_of c.args.records.now) c.in-Err.refusal c.in-Err.ensures.told
