use Rattle.std.proofs.Common.{◌∙◌, sym}
use Rattle.xds_causes.proofs.Lining.{kind_message}
use Rattle.xds_causes.proofs.trace_lines.kind_of_cause.Goals as goal

pub returns-in-Some-clause-told : goal.returns-in-Some-clause-told
returns-in-Some-clause-told c =
    kind_message c.args.rest.now _ _ c.as_bytes.result.now c.args.is_request c.in-Some.message c.message_cause.result c.parted.ensures.0 c.parted.ensures.1 c.as_bytes.ensures.value
    (sym c.message_of.ensures ∙ c.in-Some.is) c.message_cause.ensures.told
