-- The object that is written for a message spells the message.
use Rattle.std.proofs.Common.{map, option_map, All, codes, refl, sym, ◌∙◌, subst}
use Rattle.serde_json.specs.Data.{string}
use Rattle.xds_json.specs.Spelling.{IsObject, IsTexts, IsObjects, IsInner}
use Rattle.xds_message.specs.Messages.{Request, Response, SpellsIdentity, SpellsFailure, SpellsRequest, SpellsResponse}
use Rattle.xds_message.specs.Laws.{HasCodeInRange}
use Rattle.xds_message.specs.Written.{list_data, identity_object, failure_object, request_object, request_fields, response_object, response_fields}
use Rattle.xds_json.proofs.FieldsReadBack.{field-object_set, once_is, twice_is, IsTexts-list_data, IsObjects-list_data, text_once, text_twice, IsInner-identity, IsInner-failure}

pub SpellsRequest-request_object : (m : Request) → HasCodeInRange m → SpellsRequest (request_object m) m
SpellsRequest-request_object m h = record {
  is_object = refl;
  version_info = text_once _ m.version_info (field-object_set (codes "versionInfo") (codes "version_info") (request_fields m));
  node = subst (λ x. IsInner SpellsIdentity x m.node) (sym (field-object_set (codes "node") (codes "node") (request_fields m) ∙ twice_is (option_map identity_object m.node))) (IsInner-identity m.node);
  resource_names = subst (λ x. IsTexts x m.resource_names) (sym (field-object_set (codes "resourceNames") (codes "resource_names") (request_fields m) ∙ once_is (list_data (map string m.resource_names)))) (IsTexts-list_data m.resource_names);
  type_url = text_once _ m.type_url (field-object_set (codes "typeUrl") (codes "type_url") (request_fields m));
  response_nonce = text_once _ m.response_nonce (field-object_set (codes "responseNonce") (codes "response_nonce") (request_fields m));
  error_detail = subst (λ x. IsInner SpellsFailure x m.error_detail) (sym (field-object_set (codes "errorDetail") (codes "error_detail") (request_fields m) ∙ once_is (option_map failure_object m.error_detail))) (IsInner-failure m.error_detail h);
}

pub SpellsResponse-response_object : (m : Response) → All IsObject m.resources → SpellsResponse (response_object m) m
SpellsResponse-response_object m h = record {
  is_object = refl;
  version_info = text_once _ m.version_info (field-object_set (codes "versionInfo") (codes "version_info") (response_fields m));
  resources = subst (λ x. IsObjects x m.resources) (sym (field-object_set (codes "resources") (codes "resources") (response_fields m) ∙ twice_is (list_data m.resources))) (IsObjects-list_data m.resources h);
  type_url = text_once _ m.type_url (field-object_set (codes "typeUrl") (codes "type_url") (response_fields m));
  nonce = text_twice _ m.nonce (field-object_set (codes "nonce") (codes "nonce") (response_fields m));
}
