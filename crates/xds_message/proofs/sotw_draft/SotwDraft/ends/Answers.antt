use Rattle.std.proofs.Common.{[], ◌∷◌, ◌++◌, ℕ, List, map, codes, string_bytes, ap, sym, ◌∙◌}
use Rattle.serde_json.specs.Written.{compact_text}
use Rattle.xds_resource.specs.Resources.{value_of}
use Rattle.xds_message.specs.Written.{Fields, text_data, list_data, object_set, response_object}
use Rattle.xds_message.specs.Drafts.{Drafted, body_text, message_of}
use Rattle.xds_message.specs.Joined.{with_commas}
use Rattle.xds_message.proofs.JoinedLemmas.{object_joined, joined_behind, closed_behind}
use Rattle.xds_message.proofs.sotw_draft.SotwDraft.ends.Goals as goal

pub returns-clause-text : goal.returns-clause-text
returns-clause-text c =
    let between = with_commas (map body_text c.as_slice-bodies.result.now) in
    let head = string_bytes c.join_list_ends.new.head in
    let versions : Fields = (codes "versionInfo", text_data c.as_str-2.result.now) ∷ [] in
    let types : Fields = (codes "typeUrl", text_data c.url.result.now) ∷ versions in
    let resources : Fields = (codes "resources", list_data (map value_of c.as_slice-bodies.result.now)) ∷ types in
    let all : Fields = (codes "nonce", text_data c.as_str.result.now) ∷ resources in
    let version_behind = joined_behind head between _ _ _ _ _ c.in_ok-join_text.ensures.ok [] in
    let type_behind = joined_behind head between _ _ _ _ _ c.in_ok-later-3.ensures.ok versions in
    let members = version_behind ∙ type_behind ∙ c.in_ok-later-2.ensures.ok types ∙ c.in_ok-later.ensures.ok resources in
    let closed = closed_behind head between _ _ c.in_ok-push_str.ensures.bytes in
    let joined = object_joined [] _ _ _ c.in_ok-join_text.field-0 all c.in_ok-head.ensures.ok members closed tt in
    ap (λ (m : Drafted). head ++ (with_commas (map body_text m.bodies) ++ string_bytes c.push_str.new.self)) (sym c.self.view_is)
    ∙ ap (λ (bodies : List (List ℕ)). head ++ (with_commas (map body_text bodies) ++ string_bytes c.push_str.new.self)) (sym c.as_slice-bodies.ensures.value)
    ∙ joined
    ∙ (λ i. compact_text (object_set (
    (codes "nonce", text_data (c.as_str.ensures.value i))
    ∷ (codes "resources", list_data (map value_of (c.as_slice-bodies.ensures.value i)))
    ∷ (codes "typeUrl", text_data (c.url.ensures i))
    ∷ (codes "versionInfo", text_data (c.as_str-2.ensures.value i))
    ∷ [])))
    ∙ ap (λ (m : Drafted). compact_text (response_object (message_of m))) c.self.view_is
