-- The messages of Envoy's `discovery.proto` that are exchanged here, and which JSON values spell them: the proto3 JSON
-- mapping, of the fields that a control plane reads.
--     Request                         a DiscoveryRequest
--     Response                        a DiscoveryResponse, its resources as JSON values
--     SpellsRequest                   a value spells a request
--     SpellsResponse                  a value spells a response
use Rattle.std.specs.Prelude.{ℕ, List, Option, codes}
use Rattle.serde_json.specs.Data.{Data}
use Rattle.xds_resource.specs.Fields.{field}
use Rattle.xds_json.specs.Spelling.{IsObject, IsText, IsTexts, IsObjects, IsInner}
pub use Rattle.xds_json.specs.Parts.{Identity, Failure, SpellsIdentity, SpellsFailure}

-- a DiscoveryRequest
pub record Request : Type 0 where
  pub version_info : List ℕ
  pub node : Option Identity
  pub resource_names : List (List ℕ)
  pub type_url : List ℕ
  pub response_nonce : List ℕ
  pub error_detail : Option Failure

-- a DiscoveryResponse, its resources as JSON values
pub record Response : Type 0 where
  pub version_info : List ℕ
  pub resources : List Data
  pub type_url : List ℕ
  pub nonce : List ℕ

pub record SpellsRequest (d : Data) (m : Request) : Type 0 where
  pub is_object : IsObject d
  pub version_info : IsText (field (codes "versionInfo") (codes "version_info") d) m.version_info
  pub node : IsInner SpellsIdentity (field (codes "node") (codes "node") d) m.node
  pub resource_names : IsTexts (field (codes "resourceNames") (codes "resource_names") d) m.resource_names
  pub type_url : IsText (field (codes "typeUrl") (codes "type_url") d) m.type_url
  pub response_nonce : IsText (field (codes "responseNonce") (codes "response_nonce") d) m.response_nonce
  pub error_detail : IsInner SpellsFailure (field (codes "errorDetail") (codes "error_detail") d) m.error_detail

pub record SpellsResponse (d : Data) (m : Response) : Type 0 where
  pub is_object : IsObject d
  pub version_info : IsText (field (codes "versionInfo") (codes "version_info") d) m.version_info
  pub resources : IsObjects (field (codes "resources") (codes "resources") d) m.resources
  pub type_url : IsText (field (codes "typeUrl") (codes "type_url") d) m.type_url
  pub nonce : IsText (field (codes "nonce") (codes "nonce") d) m.nonce
