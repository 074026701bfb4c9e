use Rattle.std.proofs.Common.{inr}
use Rattle.xds_trace.proofs.Joining.{audited_told, audited_keeps, audited_refused}
use Rattle.xds_trace.proofs.histories.of_audited.Goals as goal

pub returns-in-Ok-clause-told : goal.returns-in-Ok-clause-told
returns-in-Ok-clause-told g c = audited_told c.as_slice.result.now c.args.segments.items c.args.history c.of_history-trace.result c.as_slice.ensures.value c.of_history-trace.ensures.told

pub returns-in-Ok-clause-keeps : goal.returns-in-Ok-clause-keeps
returns-in-Ok-clause-keeps g c = audited_keeps c.as_slice.result.now c.args.segments.items c.args.history c.of_history-trace.result c.as_slice.ensures.value c.of_history-trace.ensures.keeps c.in-Ok.ensures.in_order

pub returns-in-Ok-clause-refused : goal.returns-in-Ok-clause-refused
returns-in-Ok-clause-refused g c = audited_refused c.as_slice.result.now c.args.segments.items c.args.history c.of_history-trace.result c.as_slice.ensures.value c.of_history-trace.ensures.legal c.in-Ok.ensures.in_order

pub returns-in-Err-clause-refused : goal.returns-in-Err-clause-refused
returns-in-Err-clause-refused g c = inr c.in-Err.ensures.in_order
