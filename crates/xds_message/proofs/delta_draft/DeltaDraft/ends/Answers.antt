use Rattle.std.proofs.Common.{[], ◌∷◌, ◌++◌, List, map, codes, string_bytes, ap, sym, ◌∙◌}
use Rattle.serde_json.specs.Data.{string}
use Rattle.serde_json.specs.Written.{compact_text}
use Rattle.xds_message.specs.Written.{Fields, text_data, list_data, object_set}
use Rattle.xds_message.specs.DeltaWritten.{resource_object, delta_response_object}
use Rattle.xds_message.specs.Drafts.{DraftedDelta, DraftedResource, drafted_resource, delta_message_of}
use Rattle.xds_message.specs.Joined.{with_commas}
use Rattle.xds_message.specs.Pieces.{resource_text}
use Rattle.xds_message.proofs.Lists.{map-twice}
use Rattle.xds_message.proofs.JoinedLemmas.{object_joined, joined_behind, closed_behind}
use Rattle.xds_message.proofs.delta_draft.DeltaDraft.ends.Goals as goal

pub returns-clause-text : goal.returns-clause-text
returns-clause-text c =
    let between = with_commas (map resource_text c.as_slice-resources.result.now) in
    let head = string_bytes c.join_list_ends.new.head in
    let types : Fields = (codes "typeUrl", text_data c.url.result.now) ∷ [] in
    let versions : Fields = (codes "systemVersionInfo", text_data c.as_str-version.result.now) ∷ types in
    let resources : Fields = (codes "resources", list_data (map (λ (r : DraftedResource). resource_object (drafted_resource r)) c.as_slice-resources.result.now)) ∷ versions in
    let removed : Fields = (codes "removedResources", list_data (map (λ s. string (string_bytes s)) c.as_slice-removed.result.now)) ∷ resources in
    let all : Fields = (codes "nonce", text_data c.as_str.result.now) ∷ removed in
    let type_behind = joined_behind head between _ _ _ _ _ c.in_ok-join_text.ensures.ok [] in
    let version_behind = joined_behind head between _ _ _ _ _ c.in_ok-later-4.ensures.ok types in
    let members = type_behind ∙ version_behind ∙ c.in_ok-later-3.ensures.ok versions ∙ c.in_ok-later-2.ensures.ok resources ∙ c.in_ok-later.ensures.ok removed in
    let closed = closed_behind head between _ _ c.in_ok-push_str.ensures.bytes in
    let joined = object_joined [] _ _ _ c.in_ok-join_text.field-0 all c.in_ok-head.ensures.ok members closed tt in
    let texts = ap (map (λ s. string (string_bytes s))) c.as_slice-removed.ensures.value ∙ map-twice string_bytes string c.self.inside.removed.items in
    let objects =
    map-twice drafted_resource resource_object c.as_slice-resources.result.now ∙ ap (λ (rs : List DraftedResource). map resource_object (map drafted_resource rs)) c.as_slice-resources.ensures.value in
    ap (λ (m : DraftedDelta). head ++ (with_commas (map resource_text m.resources) ++ string_bytes c.push_str.new.self)) (sym c.self.view_is)
    ∙ ap (λ (resources : List DraftedResource). head ++ (with_commas (map resource_text resources) ++ string_bytes c.push_str.new.self)) (sym c.as_slice-resources.ensures.value)
    ∙ joined
    ∙ (λ i. compact_text (object_set (
    (codes "nonce", text_data (c.as_str.ensures.value i))
    ∷ (codes "removedResources", list_data (texts i))
    ∷ (codes "resources", list_data (objects i))
    ∷ (codes "systemVersionInfo", text_data (c.as_str-version.ensures.value i))
    ∷ (codes "typeUrl", text_data (c.url.ensures i))
    ∷ [])))
    ∙ ap (λ (m : DraftedDelta). compact_text (delta_response_object (delta_message_of m))) c.self.view_is
