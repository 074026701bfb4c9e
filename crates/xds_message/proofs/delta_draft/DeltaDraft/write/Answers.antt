use Rattle.std.proofs.Common.{[], ◌∷◌, List, map, codes, string_bytes, ap, ◌∙◌}
use Rattle.serde_json.specs.Data.{string}
use Rattle.serde_json.specs.Written.{compact_text}
use Rattle.xds_message.specs.Written.{Fields, text_data, list_data, object_set}
use Rattle.xds_message.specs.DeltaWritten.{resource_object, delta_response_object}
use Rattle.xds_message.specs.Drafts.{DraftedDelta, DraftedResource, drafted_resource, delta_message_of}
use Rattle.xds_message.proofs.Lists.{map-twice}
use Rattle.xds_message.proofs.JoinedLemmas.{object_joined}
use Rattle.xds_message.proofs.delta_draft.DeltaDraft.write.Goals as goal

pub returns-clause-text : goal.returns-clause-text
returns-clause-text c =
    let types : Fields = (codes "typeUrl", text_data c.url.result.now) ∷ [] in
    let versions : Fields = (codes "systemVersionInfo", text_data c.as_str-2.result.now) ∷ types in
    let resources : Fields = (codes "resources", list_data (map (λ (r : DraftedResource). resource_object (drafted_resource r)) c.as_slice-2.result.now)) ∷ versions in
    let removed : Fields = (codes "removedResources", list_data (map (λ s. string (string_bytes s)) c.as_slice.result.now)) ∷ resources in
    let all : Fields = (codes "nonce", text_data c.as_str.result.now) ∷ removed in
    let members = c.in_ok-join_text.ensures.ok [] ∙ c.in_ok-later-4.ensures.ok types ∙ c.in_ok-later-3.ensures.ok versions ∙ c.in_ok-later-2.ensures.ok resources ∙ c.in_ok-later.ensures.ok removed in
    let joined = object_joined [] _ _ _ c.in_ok-join_text.field-0 all c.in_ok-out.ensures.ok members c.in_ok-push_str.ensures.bytes tt in
    let texts = ap (map (λ s. string (string_bytes s))) c.as_slice.ensures.value ∙ map-twice string_bytes string c.self.inside.removed.items in
    let objects =
    map-twice drafted_resource resource_object c.as_slice-2.result.now ∙ ap (λ (rs : List DraftedResource). map resource_object (map drafted_resource rs)) c.as_slice-2.ensures.value in
    joined
    ∙ (λ i. compact_text (object_set (
    (codes "nonce", text_data (c.as_str.ensures.value i))
    ∷ (codes "removedResources", list_data (texts i))
    ∷ (codes "resources", list_data (objects i))
    ∷ (codes "systemVersionInfo", text_data (c.as_str-2.ensures.value i))
    ∷ (codes "typeUrl", text_data (c.url.ensures i))
    ∷ [])))
    ∙ ap (λ (m : DraftedDelta). compact_text (delta_response_object (delta_message_of m))) c.self.view_is
