-- The object that is written for a message of the incremental variant spells it.
use Rattle.std.proofs.Common.{◌≡◌, ℕ, suc, List, [], ◌∷◌, length, map, Some, option_map, All, codes, refl, sym, ◌∙◌, subst, arith}
use Rattle.std.specs.List.{AllZip}
use Rattle.std.specs.FinMap as finmap
use Rattle.serde_json.specs.Data.{Data, null, boolean, number, string, array, object}
use Rattle.xds_json.specs.Spelling.{IsObject, IsTexts, IsInner, set_value}
use Rattle.xds_message.specs.Messages.{SpellsIdentity, SpellsFailure}
use Rattle.xds_json.specs.Versions.{VersionMap, IsVersions, versions_data, pairs_data, text_members}
use Rattle.xds_message.specs.Written.{list_data, identity_object, failure_object}
use Rattle.xds_message.specs.DeltaMessages.{DeltaRequest, DeltaResponse, VersionedResource, SpellsDeltaRequest, SpellsDeltaResponse, SpellsResource, IsResources}
use Rattle.xds_message.specs.DeltaWritten.{delta_request_fields, delta_request_object, resource_fields, resource_object, delta_response_fields, delta_response_object}
use Rattle.xds_message.specs.Laws.{HasDeltaCodeInRange}
use Rattle.xds_json.proofs.FieldsReadBack.{field-object_set, once_is, twice_is, IsTexts-list_data, text_once, text_twice, IsInner-identity, IsInner-failure}

-- ---- requests

pairs_spell : (ps : List (List ℕ × List ℕ)) (m : VersionMap) → finmap.entries m ≡ ps → IsVersions (pairs_data ps) m
pairs_spell [] m e = finmap.empty_of_len m (finmap.len-entries m ∙ (λ i. length (e i)))
pairs_spell (p ∷ ps) m e = (λ i. object (text_members (sym e i)))

IsVersions-versions_data : (m : VersionMap) → IsVersions (versions_data m) m
IsVersions-versions_data m = pairs_spell (finmap.entries m) m refl

pub SpellsDeltaRequest-delta_request_object : (m : DeltaRequest) → HasDeltaCodeInRange m → SpellsDeltaRequest (delta_request_object m) m
SpellsDeltaRequest-delta_request_object m h = record {
  is_object = refl;
  node = subst (λ x. IsInner SpellsIdentity x m.node) (sym (field-object_set (codes "node") (codes "node") (delta_request_fields m) ∙ twice_is (option_map identity_object m.node))) (IsInner-identity m.node);
  type_url = text_once _ m.type_url (field-object_set (codes "typeUrl") (codes "type_url") (delta_request_fields m));
  resource_names_subscribe = subst (λ x. IsTexts x m.resource_names_subscribe) (sym (field-object_set (codes "resourceNamesSubscribe") (codes "resource_names_subscribe") (delta_request_fields m) ∙ once_is (list_data (map string m.resource_names_subscribe)))) (IsTexts-list_data m.resource_names_subscribe);
  resource_names_unsubscribe = subst (λ x. IsTexts x m.resource_names_unsubscribe) (sym (field-object_set (codes "resourceNamesUnsubscribe") (codes "resource_names_unsubscribe") (delta_request_fields m) ∙ once_is (list_data (map string m.resource_names_unsubscribe)))) (IsTexts-list_data m.resource_names_unsubscribe);
  initial_resource_versions = subst (λ x. IsVersions x m.initial_resource_versions) (sym (field-object_set (codes "initialResourceVersions") (codes "initial_resource_versions") (delta_request_fields m) ∙ once_is (versions_data m.initial_resource_versions))) (IsVersions-versions_data m.initial_resource_versions);
  response_nonce = text_once _ m.response_nonce (field-object_set (codes "responseNonce") (codes "response_nonce") (delta_request_fields m));
  error_detail = subst (λ x. IsInner SpellsFailure x m.error_detail) (sym (field-object_set (codes "errorDetail") (codes "error_detail") (delta_request_fields m) ∙ once_is (option_map failure_object m.error_detail))) (IsInner-failure m.error_detail h);
}

-- ---- responses

set_value-object : (d : Data) → IsObject d → set_value (Some d) ≡ Some d
set_value-object null h = cc
set_value-object (boolean b) h = refl
set_value-object (number n) h = refl
set_value-object (string s) h = refl
set_value-object (array ds) h = refl
set_value-object (object ms) h = refl

SpellsResource-resource_object : (m : VersionedResource) → IsObject m.resource → SpellsResource (resource_object m) m
SpellsResource-resource_object m h = record {
  is_object = refl;
  name = text_twice _ m.name (field-object_set (codes "name") (codes "name") (resource_fields m));
  version = text_twice _ m.version (field-object_set (codes "version") (codes "version") (resource_fields m));
  resource = (λ i. set_value ((field-object_set (codes "resource") (codes "resource") (resource_fields m) ∙ twice_is (Some m.resource)) i)) ∙ set_value-object m.resource h;
  holds_object = h;
}

each_spelled : (ms : List VersionedResource) → All (λ r. IsObject r.resource) ms → AllZip SpellsResource (map resource_object ms) ms
each_spelled [] h = tt
each_spelled (m ∷ ms) h = (SpellsResource-resource_object m (h 0 m (omega arith)), each_spelled ms (λ k e below. h (suc k) e (omega arith)))

IsResources-list_data : (ms : List VersionedResource) → All (λ r. IsObject r.resource) ms → IsResources (list_data (map resource_object ms)) ms
IsResources-list_data [] h = refl
IsResources-list_data (m ∷ ms) h = (map resource_object (m ∷ ms), refl, each_spelled (m ∷ ms) h)

pub SpellsDeltaResponse-delta_response_object : (m : DeltaResponse) → All (λ r. IsObject r.resource) m.resources → SpellsDeltaResponse (delta_response_object m) m
SpellsDeltaResponse-delta_response_object m h = record {
  is_object = refl;
  system_version_info = text_once _ m.system_version_info (field-object_set (codes "systemVersionInfo") (codes "system_version_info") (delta_response_fields m));
  resources = subst (λ x. IsResources x m.resources) (sym (field-object_set (codes "resources") (codes "resources") (delta_response_fields m) ∙ twice_is (list_data (map resource_object m.resources)))) (IsResources-list_data m.resources h);
  type_url = text_once _ m.type_url (field-object_set (codes "typeUrl") (codes "type_url") (delta_response_fields m));
  nonce = text_twice _ m.nonce (field-object_set (codes "nonce") (codes "nonce") (delta_response_fields m));
  removed_resources = subst (λ x. IsTexts x m.removed_resources) (sym (field-object_set (codes "removedResources") (codes "removed_resources") (delta_response_fields m) ∙ once_is (list_data (map string m.removed_resources)))) (IsTexts-list_data m.removed_resources);
}
