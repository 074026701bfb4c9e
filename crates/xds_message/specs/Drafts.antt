-- Responses before they are written: what they tell, with the resources as the compact texts that are stored. This project's own.
--     IsBodyText                       the compact text of a resource's object
--     body_text                        the compact text of the object that a stored text says: the same text again
--     Drafted                          a DiscoveryResponse before it is written
--     message_of                       its message
--     AreSound                         values that are shallow objects with whole numbers
--     IsSoundResponse                  a response whose resources are such
--     IsSoundDelta                     a delta response whose resources are such
--     with_text                        texts with one more behind them, if there is a body
--     DraftedResource                  a resource of a DeltaDiscoveryResponse before it is written
--     drafted_resource                 its message
--     DraftedDelta                     a DeltaDiscoveryResponse before it is written
--     delta_message_of                 its message
--     with_resource                    resources with the one that a write puts behind them, if it puts one
use Rattle.std.specs.Prelude.{◌≡◌, ◌≤◌, ℕ, List, [], ◌∷◌, ◌++◌, map, false, Option, Some, None, All}
use Rattle.serde_json.specs.Data.{Data, depth}
use Rattle.serde_json.specs.Read.{read}
use Rattle.serde_json.specs.Written.{compact_text, has_float}
use Rattle.xds_resource.specs.declared.types.TypeName.{TypeName}
use Rattle.xds_resource.specs.Types.{row}
use Rattle.xds_resource.specs.Resources.{value_of, max_nesting}
use Rattle.xds_resource.specs.Writes.{StampedWrite, version_of}
use Rattle.xds_message.specs.Spelling.{IsObject}
use Rattle.xds_message.specs.Messages.{Response}
use Rattle.xds_message.specs.DeltaMessages.{VersionedResource, DeltaResponse}

-- the compact text of a resource's object
pub record IsBodyText (body : List ℕ) : Type 0 where
  pub reads : read body ≡ Some (value_of body)
  pub text : compact_text (value_of body) ≡ body
  pub whole : has_float (value_of body) ≡ false
  pub shallow : depth (value_of body) ≤ max_nesting
  pub is_object : IsObject (value_of body)

-- the compact text of the object that a stored text says: the same text again
abbrev pub body_text : List ℕ → List ℕ
body_text body = compact_text (value_of body)

-- a DiscoveryResponse before it is written
pub record Drafted : Type 0 where
  pub kind : TypeName
  pub version_info : List ℕ
  pub nonce : List ℕ
  pub bodies : List (List ℕ)

abbrev pub message_of : Drafted → Response
message_of m = record { version_info = m.version_info; resources = map value_of m.bodies; type_url = (row m.kind).url; nonce = m.nonce }

-- the resources are shallow, whole objects
pub record AreSound (ds : List Data) : Type 0 where
  pub whole : All (λ d. has_float d ≡ false) ds
  pub shallow : All (λ d. depth d ≤ max_nesting) ds
  pub objects : All IsObject ds

abbrev pub IsSoundResponse : Response → Type 0
IsSoundResponse m = AreSound m.resources

abbrev pub IsSoundDelta : DeltaResponse → Type 0
IsSoundDelta m = AreSound (map (λ r. r.resource) m.resources)

-- texts with one more behind them, if there is a body
abbrev pub with_text : List (List ℕ) → Option (List ℕ) → List (List ℕ)
with_text bodies None = bodies
with_text bodies (Some body) = bodies ++ body ∷ []

-- a resource of a DeltaDiscoveryResponse before it is written
pub record DraftedResource : Type 0 where
  pub name : List ℕ
  pub version : List ℕ
  pub body : List ℕ

abbrev pub drafted_resource : DraftedResource → VersionedResource
drafted_resource r = record { name = r.name; version = r.version; resource = value_of r.body }

-- a DeltaDiscoveryResponse before it is written
pub record DraftedDelta : Type 0 where
  pub kind : TypeName
  pub system_version_info : List ℕ
  pub nonce : List ℕ
  pub resources : List DraftedResource
  pub removed_resources : List (List ℕ)

abbrev pub delta_message_of : DraftedDelta → DeltaResponse
delta_message_of m = record {
  system_version_info = m.system_version_info;
  resources = map drafted_resource m.resources;
  type_url = (row m.kind).url;
  nonce = m.nonce;
  removed_resources = m.removed_resources;
}

-- resources with the one that a write puts behind them, if it puts one
abbrev pub with_resource : List DraftedResource → StampedWrite → Option (List ℕ) → List DraftedResource
with_resource resources w None = resources
with_resource resources w (Some body) = resources ++ record { name = w.name; version = version_of w; body = body } ∷ []
