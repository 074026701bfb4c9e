use Rattle.std.proofs.Common.{arith}
use Rattle.xds_json.proofs.Lists.{Reads-refused}
use Rattle.serde_json.specs.View.{view}
use Rattle.xds_message.specs.DeltaMessages.{SpellsDeltaRequest}
use Rattle.xds_message.proofs.delta_request.delta_request_of.Goals as goal

pub returns-in_err-texts_field : goal.returns-in_err-texts_field
returns-in_err-texts_field c =
    Reads-refused (SpellsDeltaRequest (view c.args.value.now)) _ _ _ _ c.texts_field.result c.in_err-texts_field.field-0.0 c.from_residual-in_err-texts_field.ensures.1 (grind arith) c.texts_field.ensures (λ m s. (m.resource_names_subscribe, s.resource_names_subscribe))

pub returns-in_err-texts_field-2 : goal.returns-in_err-texts_field-2
returns-in_err-texts_field-2 c =
    Reads-refused (SpellsDeltaRequest (view c.args.value.now)) _ _ _ _ c.texts_field-2.result c.in_err-texts_field-2.field-0.0 c.from_residual-in_err-texts_field-2.ensures.1 (grind arith) c.texts_field-2.ensures (λ m s. (m.resource_names_unsubscribe, s.resource_names_unsubscribe))

pub returns-in_err-versions_field : goal.returns-in_err-versions_field
returns-in_err-versions_field c =
    Reads-refused (SpellsDeltaRequest (view c.args.value.now)) _ _ _ _ c.versions_field.result c.in_err-versions_field.field-0.0 c.from_residual-in_err-versions_field.ensures.1 (grind arith) c.versions_field.ensures (λ m s. (m.initial_resource_versions, s.initial_resource_versions))

pub returns-in_err-text_field-2 : goal.returns-in_err-text_field-2
returns-in_err-text_field-2 c =
    Reads-refused (SpellsDeltaRequest (view c.args.value.now)) _ _ _ _ c.text_field-2.result c.in_err-text_field-2.field-0.0 c.from_residual-in_err-text_field-2.ensures.1 (grind arith) c.text_field-2.ensures (λ m s. (m.response_nonce, s.response_nonce))
