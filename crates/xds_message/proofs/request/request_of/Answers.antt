use Rattle.std.proofs.Common.{arith}
use Rattle.xds_json.proofs.Lists.{Reads-refused}
use Rattle.serde_json.specs.View.{view}
use Rattle.xds_message.specs.Messages.{SpellsRequest}
use Rattle.xds_message.proofs.request.request_of.Goals as goal

pub returns-in_err-taken_texts : goal.returns-in_err-taken_texts
returns-in_err-taken_texts c =
    Reads-refused (SpellsRequest (view c.args.value)) _ _ _ _ c.taken_texts.result c.in_err-taken_texts.field-0.0 c.from_residual-in_err-taken_texts.ensures.1 (grind arith) c.taken_texts.ensures (λ m s. (m.resource_names, s.resource_names))

pub returns-in_err-text_field-3 : goal.returns-in_err-text_field-3
returns-in_err-text_field-3 c =
    Reads-refused (SpellsRequest (view c.args.value)) _ _ _ _ c.text_field-3.result c.in_err-text_field-3.field-0.0 c.from_residual-in_err-text_field-3.ensures.1 (grind arith) c.text_field-3.ensures (λ m s. (m.response_nonce, s.response_nonce))
