use Rattle.std.proofs.Common.{arith}
use Rattle.serde_json.specs.View.{view}
use Rattle.xds_message.specs.DeltaMessages.{SpellsDeltaResponse}
use Rattle.xds_json.proofs.Lists.{Reads-refused}
use Rattle.xds_message.proofs.delta_response.delta_response_from.Goals as goal

pub returns-in_err-removed_resources : goal.returns-in_err-removed_resources
returns-in_err-removed_resources c =
    Reads-refused (SpellsDeltaResponse (view c.args.value)) _ _ _ _ c.texts_field.result c.in_err-removed_resources.field-0.0 c.from_residual-in_err-removed_resources.ensures.1 (grind arith) c.texts_field.ensures (λ m s. (m.removed_resources, s.removed_resources))
