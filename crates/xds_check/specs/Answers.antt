-- Requests and responses as a trace has them, in either variant of Envoy's "xDS REST and gRPC protocol".
--     Label                            the name and the version that stand beside a resource in a delta response
--     Statement                        a resource of a response
--     Answer                           a response of either variant
--     IsReadable                       a resource whose text can be read again
--     IsStatement                      a resource of the type, with a label just in delta
--     IsAnswer                         what every response is that is read
--     sotw_message                     the message of a response of the state of the world
--     label_or_none                    a label, empty where there is none
--     labelled_resource                a stated resource with its name and version, as in a delta response
--     delta_message                    the message of a delta response
--     stated_names                     the names of the resources that a response states
--     variant_of                       the variant of a request
--     url_of                           the type URL of a request
--     is_of                            whether a request is of this type; one of a type outside the table is of none
--     nonce_of                         the nonce of a request
--     rejects                          whether a request that answers a response rejects it
--     cluster_in                       the cluster text of a node, empty where there is none
--     cluster_of                       the cluster text of the node in a request, empty where there is none
--     mention_in                       the two lists of a delta request
--     lists_in                         the list of names of a request, if it is one of the state of the world
--     mentions_in                      the two lists of a request, if it is one of delta
use Rattle.std.specs.Prelude.{◌≡◌, ℕ, List, [], ◌∷◌, map, Bool, false, Option, Some, is_some, All}
use Rattle.std.specs.Option.{option_map_or, unwrap_or}
use Rattle.serde_json.specs.Read.{read}
use Rattle.xds_resource.specs.declared.types.TypeName.{TypeName}
use Rattle.xds_resource.specs.Types.{row, type_of_url, is_same_type}
use Rattle.xds_interest.specs.Delta.{Mention}
use Rattle.xds_message.specs.Messages.{Identity, Response}
use Rattle.xds_message.specs.DeltaMessages.{DeltaRequest, VersionedResource, DeltaResponse}
use Rattle.xds_resource.specs.Resources.{IsCanonical, value_of}
use Rattle.xds_ledger.specs.Variants.{is_delta}
use Rattle.xds_ledger.specs.declared.variant.VariantName.{VariantName}
use Rattle.xds_ledger.specs.declared.variant.VariantName.TheVariants as variants
use Rattle.xds_check.specs.declared.asking.Asking.{Asking}
use Rattle.xds_check.specs.declared.asking.Asking.TheVariants.{Sotw, Delta}

-- ---- responses

-- the name and the version that stand beside a resource in a delta response
pub record Label : Type 0 where
  pub name : List ℕ
  pub version : List ℕ

-- a resource of a response: its name and the compact text of its object, and in a delta response its label
pub record Statement : Type 0 where
  pub name : List ℕ
  pub body : List ℕ
  pub label : Option Label

-- A response of either variant. One of the state of the world has no labels and removes nothing.
pub record Answer : Type 0 where
  pub variant : VariantName
  pub kind : TypeName
  -- the version of the response, or of the system in delta
  pub version_info : List ℕ
  pub nonce : List ℕ
  pub statements : List Statement
  pub removed : List (List ℕ)

-- a resource whose text can be read again
abbrev pub IsReadable : Statement → Type 0
IsReadable x = read x.body ≡ Some (value_of x.body)

-- a resource of the type, with a label just in delta
pub record IsStatement (v : VariantName) (t : TypeName) (x : Statement) : Type 0 where
  pub canonical : IsCanonical t (record { name = x.name; body = x.body })
  pub labelled : is_some x.label ≡ is_delta v

-- what every response is that is read: its resources are of its type, and only one of delta removes names
pub record IsAnswer (a : Answer) : Type 0 where
  pub statements : All (IsStatement a.variant a.kind) a.statements
  pub removed : is_delta a.variant ≡ false → a.removed ≡ []

-- the messages that responses are written as
abbrev pub sotw_message : Answer → Response
sotw_message a = record { version_info = a.version_info; resources = map (λ x. value_of x.body) a.statements; type_url = (row a.kind).url; nonce = a.nonce }

abbrev pub label_or_none : Option Label → Label
label_or_none label = unwrap_or label (record { name = []; version = [] })

abbrev pub labelled_resource : Statement → VersionedResource
labelled_resource x = record { name = (label_or_none x.label).name; version = (label_or_none x.label).version; resource = value_of x.body }

abbrev pub delta_message : Answer → DeltaResponse
delta_message a = record {
  system_version_info = a.version_info;
  resources = map labelled_resource a.statements;
  type_url = (row a.kind).url;
  nonce = a.nonce;
  removed_resources = a.removed;
}

-- the names of the resources that a response states
abbrev pub stated_names : Answer → List (List ℕ)
stated_names a = map (λ x. x.name) a.statements

-- ---- requests

abbrev pub variant_of : Asking → VariantName
variant_of (Sotw m) = variants.StateOfTheWorld
variant_of (Delta m) = variants.Delta

abbrev pub url_of : Asking → List ℕ
url_of (Sotw m) = m.type_url
url_of (Delta m) = m.type_url

-- whether a request is of this type; one of a type outside the table is of none
abbrev pub is_of : TypeName → Asking → Bool
is_of t m = option_map_or (λ u. is_same_type u t) (type_of_url (url_of m)) false

abbrev pub nonce_of : Asking → List ℕ
nonce_of (Sotw m) = m.response_nonce
nonce_of (Delta m) = m.response_nonce

-- rule: accept-reject
-- whether a request that answers a response rejects it
abbrev pub rejects : Asking → Bool
rejects (Sotw m) = is_some m.error_detail
rejects (Delta m) = is_some m.error_detail

-- rule: groups
abbrev pub cluster_in : Option Identity → List ℕ
cluster_in node = option_map_or (λ n. n.cluster) node []

-- rule: groups
-- the cluster text of the node in a request, empty where there is none
abbrev pub cluster_of : Asking → List ℕ
cluster_of (Sotw m) = cluster_in m.node
cluster_of (Delta m) = cluster_in m.node

abbrev pub mention_in : DeltaRequest → Mention
mention_in m = record { subscribe = m.resource_names_subscribe; unsubscribe = m.resource_names_unsubscribe }

-- the list of names of a request, if it is one of the state of the world
abbrev pub lists_in : Asking → List (List (List ℕ))
lists_in (Sotw m) = m.resource_names ∷ []
lists_in (Delta m) = []

-- the two lists of a request, if it is one of delta
abbrev pub mentions_in : Asking → List Mention
mentions_in (Sotw m) = []
mentions_in (Delta m) = mention_in m ∷ []
