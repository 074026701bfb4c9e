-- The messages of the incremental variant in Envoy's `discovery.proto`, and which JSON values spell them: the proto3 JSON
-- mapping, of the fields that a control plane reads.
--     DeltaRequest, identity_code, failure_code,
--     delta_request_code               a DeltaDiscoveryRequest
--     VersionedResource                a Resource of a delta response
--     DeltaResponse                    a DeltaDiscoveryResponse
--     SpellsDeltaRequest               which values spell it
--     SpellsResource                   its object is always there
--     IsResources                      a list of resources
--     SpellsDeltaResponse              which values spell it
use Rattle.std.specs.Prelude.{◌≡◌, ℕ, ℤ, List, [], Option, Some, codes, refl}
use Rattle.std.specs.List.{AllZip}
use Rattle.std.specs.Coded.{Coded, code_by, coded×, coded_ℕ, coded_ℤ, coded_list, coded_option}
use Rattle.serde_json.specs.Data.{Data, array}
use Rattle.serde_json.specs.View.{items_of}
use Rattle.xds_resource.specs.Fields.{field}
use Rattle.xds_json.specs.Spelling.{IsObject, IsOrDefault, IsText, IsTexts, IsInner, set_value}
use Rattle.xds_message.specs.Messages.{Identity, Failure, SpellsIdentity, SpellsFailure}
use Rattle.xds_json.specs.Versions.{VersionMap, IsVersions, version_map_code}

-- a DeltaDiscoveryRequest
pub record DeltaRequest : Type 0 where
  pub node : Option Identity
  pub type_url : List ℕ
  pub resource_names_subscribe : List (List ℕ)
  pub resource_names_unsubscribe : List (List ℕ)
  pub initial_resource_versions : VersionMap
  pub response_nonce : List ℕ
  pub error_detail : Option Failure

abbrev pub identity_code : Coded Identity
identity_code = code_by (List ℕ × List ℕ) (coded× (coded_list coded_ℕ) (coded_list coded_ℕ)) (λ m. (m.id, m.cluster)) (λ p. record { id = p.0; cluster = p.1 }) (λ _. refl)

abbrev pub failure_code : Coded Failure
failure_code = code_by (ℤ × List ℕ) (coded× coded_ℤ (coded_list coded_ℕ)) (λ m. (m.code, m.message)) (λ p. record { code = p.0; message = p.1 }) (λ _. refl)

abbrev pub delta_request_code : Coded DeltaRequest
delta_request_code =
    code_by (Option Identity × (List ℕ × (List (List ℕ) × (List (List ℕ) × (VersionMap × (List ℕ × Option Failure))))))
    (coded× (coded_option identity_code) (coded× (coded_list coded_ℕ) (coded× (coded_list (coded_list coded_ℕ)) (coded× (coded_list (coded_list coded_ℕ)) (coded× version_map_code (coded× (coded_list coded_ℕ) (coded_option failure_code)))))))
    (λ m. (m.node, (m.type_url, (m.resource_names_subscribe, (m.resource_names_unsubscribe, (m.initial_resource_versions, (m.response_nonce, m.error_detail)))))))
    (λ p. record { node = p.0; type_url = p.1.0; resource_names_subscribe = p.1.1.0; resource_names_unsubscribe = p.1.1.1.0; initial_resource_versions = p.1.1.1.1.0; response_nonce = p.1.1.1.1.1.0; error_detail = p.1.1.1.1.1.1 }) (λ _. refl)

-- a Resource of a delta response: its name, its version, and its object as a JSON value
pub record VersionedResource : Type 0 where
  pub name : List ℕ
  pub version : List ℕ
  pub resource : Data

-- a DeltaDiscoveryResponse
pub record DeltaResponse : Type 0 where
  pub system_version_info : List ℕ
  pub resources : List VersionedResource
  pub type_url : List ℕ
  pub nonce : List ℕ
  pub removed_resources : List (List ℕ)

pub record SpellsDeltaRequest (d : Data) (m : DeltaRequest) : Type 0 where
  pub is_object : IsObject d
  pub node : IsInner SpellsIdentity (field (codes "node") (codes "node") d) m.node
  pub type_url : IsText (field (codes "typeUrl") (codes "type_url") d) m.type_url
  pub resource_names_subscribe : IsTexts (field (codes "resourceNamesSubscribe") (codes "resource_names_subscribe") d) m.resource_names_subscribe
  pub resource_names_unsubscribe : IsTexts (field (codes "resourceNamesUnsubscribe") (codes "resource_names_unsubscribe") d) m.resource_names_unsubscribe
  pub initial_resource_versions : IsVersions (field (codes "initialResourceVersions") (codes "initial_resource_versions") d) m.initial_resource_versions
  pub response_nonce : IsText (field (codes "responseNonce") (codes "response_nonce") d) m.response_nonce
  pub error_detail : IsInner SpellsFailure (field (codes "errorDetail") (codes "error_detail") d) m.error_detail

-- its object is always there
pub record SpellsResource (d : Data) (m : VersionedResource) : Type 0 where
  pub is_object : IsObject d
  pub name : IsText (field (codes "name") (codes "name") d) m.name
  pub version : IsText (field (codes "version") (codes "version") d) m.version
  pub resource : set_value (field (codes "resource") (codes "resource") d) ≡ Some m.resource
  pub holds_object : IsObject m.resource

-- a list of resources
abbrev pub IsResources : Option Data → List VersionedResource → Type 0
IsResources o resources = IsOrDefault [] (λ d rs. (ds : List Data) × (d ≡ array (items_of ds)) × AllZip SpellsResource ds rs) (set_value o) resources

pub record SpellsDeltaResponse (d : Data) (m : DeltaResponse) : Type 0 where
  pub is_object : IsObject d
  pub system_version_info : IsText (field (codes "systemVersionInfo") (codes "system_version_info") d) m.system_version_info
  pub resources : IsResources (field (codes "resources") (codes "resources") d) m.resources
  pub type_url : IsText (field (codes "typeUrl") (codes "type_url") d) m.type_url
  pub nonce : IsText (field (codes "nonce") (codes "nonce") d) m.nonce
  pub removed_resources : IsTexts (field (codes "removedResources") (codes "removed_resources") d) m.removed_resources
