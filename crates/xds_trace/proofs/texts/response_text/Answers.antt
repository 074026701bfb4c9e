use Rattle.std.proofs.Common.{◌∙◌}
use Rattle.xds_trace.proofs.TextLemmas.{response_is}
use Rattle.xds_trace.proofs.texts.response_text.Goals as goal

pub returns-clause-ok : goal.returns-clause-ok
returns-clause-ok c =
    response_is c.args.stream c.args.draft.now _ _ _ _ _ _ _ _ c.in_ok-text.ensures.ok c.format.ensures.text c.in_ok-push_str.ensures.bytes c.kind_text.ensures
    c.in_ok-push_str-2.ensures.bytes (c.as_str.ensures.value ∙ c.in_ok-message.ensures.ok) c.in_ok-push_str-3.ensures.bytes c.in_ok-push_str-4.ensures.bytes
