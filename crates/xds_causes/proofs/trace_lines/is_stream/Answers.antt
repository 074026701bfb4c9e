use Rattle.std.proofs.Common.{◌∙◌}
use Rattle.xds_causes.proofs.Lining.{stream_none, stream_some}
use Rattle.xds_causes.proofs.trace_lines.is_stream.Goals as goal

pub returns-in-Some : goal.returns-in-Some
returns-in-Some c = c.is_within.ensures ∙ stream_some _ _ c.in-Some.ensures.shortest

pub returns-in-None : goal.returns-in-None
returns-in-None c = stream_none _ _ c.decimal_number.ensures.all c.in-None.is
