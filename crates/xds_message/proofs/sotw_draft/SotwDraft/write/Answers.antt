use Rattle.std.proofs.Common.{[], ◌∷◌, map, codes, ap, ◌∙◌}
use Rattle.serde_json.specs.Written.{compact_text}
use Rattle.xds_resource.specs.Resources.{value_of}
use Rattle.xds_message.specs.Written.{Fields, text_data, list_data, object_set, response_object}
use Rattle.xds_message.specs.Drafts.{Drafted, message_of}
use Rattle.xds_message.proofs.JoinedLemmas.{object_joined}
use Rattle.xds_message.proofs.sotw_draft.SotwDraft.write.Goals as goal

pub returns-clause-text : goal.returns-clause-text
returns-clause-text c =
    let versions : Fields = (codes "versionInfo", text_data c.as_str-2.result.now) ∷ [] in
    let types : Fields = (codes "typeUrl", text_data c.url.result.now) ∷ versions in
    let resources : Fields = (codes "resources", list_data (map value_of c.as_slice.result.now)) ∷ types in
    let all : Fields = (codes "nonce", text_data c.as_str.result.now) ∷ resources in
    let members = c.in_ok-join_text.ensures.ok [] ∙ c.in_ok-later-3.ensures.ok versions ∙ c.in_ok-later-2.ensures.ok types ∙ c.in_ok-later.ensures.ok resources in
    let joined = object_joined [] _ _ _ c.in_ok-join_text.field-0 all c.in_ok-out.ensures.ok members c.in_ok-push_str.ensures.bytes tt in
    joined
    ∙ (λ i. compact_text (object_set (
    (codes "nonce", text_data (c.as_str.ensures.value i))
    ∷ (codes "resources", list_data (map value_of (c.as_slice.ensures.value i)))
    ∷ (codes "typeUrl", text_data (c.url.ensures i))
    ∷ (codes "versionInfo", text_data (c.as_str-2.ensures.value i))
    ∷ [])))
    ∙ ap (λ (m : Drafted). compact_text (response_object (message_of m))) c.self.view_is
