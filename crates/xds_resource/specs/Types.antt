-- The table of resource types of Envoy's "xDS REST and gRPC protocol": one row a type. A further type is one row more.
--     Row            what is known of a type
--     row            the row of each type
--     types          the types, in the order in which a server answers them
--     type_of_url    the type of the table that has this URL
--     type_of_word   the type that the programs call by this word
--     is_same_type   whether two types are the same: no two of them share a URL
--     place          how many types a server answers before this one
--     type_cmp       the order of types, in which a server answers them
use Rattle.std.specs.Prelude.{ℕ, List, [], ◌∷◌, Bool, true, false, bytes_eq, Option, codes, find}
use Rattle.std.specs.List.{position_or_len}
use Rattle.std.specs.Ordering.{nat_cmp}
use Rattle.std.specs.declared.cmp.Ordering.{Ordering}
use Rattle.xds_resource.specs.declared.types.TypeName.{TypeName}
use Rattle.xds_resource.specs.declared.types.TypeName.TheVariants.{Cluster, Endpoint, Listener, Route, Secret}

-- what is known of a type
pub record Row : Type 0 where
  -- the word that the programs use
  pub word : List ℕ
  -- the type URL of discovery messages, which is also the `@type` of a resource
  pub url : List ℕ
  -- the field that names a resource, in lowerCamelCase and as the proto file spells it
  pub name_field : List ℕ
  pub proto_name_field : List ℕ
  -- whether a state-of-the-world response lists all resources of the type
  pub is_complete : Bool
  -- the path of the REST variant
  pub rest_path : List ℕ

-- rule: star-covers, rule: whole-response
abbrev pub row : TypeName → Row
row Cluster = record {
  word = codes "cluster";
  url = codes "type.googleapis.com/envoy.config.cluster.v3.Cluster";
  name_field = codes "name";
  proto_name_field = codes "name";
  is_complete = true;
  rest_path = codes "/v3/discovery:clusters";
}
row Endpoint = record {
  word = codes "endpoint";
  url = codes "type.googleapis.com/envoy.config.endpoint.v3.ClusterLoadAssignment";
  name_field = codes "clusterName";
  proto_name_field = codes "cluster_name";
  is_complete = false;
  rest_path = codes "/v3/discovery:endpoints";
}
row Listener = record {
  word = codes "listener";
  url = codes "type.googleapis.com/envoy.config.listener.v3.Listener";
  name_field = codes "name";
  proto_name_field = codes "name";
  is_complete = true;
  rest_path = codes "/v3/discovery:listeners";
}
row Route = record {
  word = codes "route";
  url = codes "type.googleapis.com/envoy.config.route.v3.RouteConfiguration";
  name_field = codes "name";
  proto_name_field = codes "name";
  is_complete = false;
  rest_path = codes "/v3/discovery:routes";
}
row Secret = record {
  word = codes "secret";
  url = codes "type.googleapis.com/envoy.extensions.transport_sockets.tls.v3.Secret";
  name_field = codes "name";
  proto_name_field = codes "name";
  is_complete = false;
  rest_path = codes "/v3/discovery:secrets";
}

-- rule: type-order
-- the types, in the order in which a server answers them
abbrev pub types : List TypeName
types = Cluster ∷ Endpoint ∷ Listener ∷ Route ∷ Secret ∷ []

-- the type of the table that has this URL
abbrev pub type_of_url : List ℕ → Option TypeName
type_of_url url = find (λ t. bytes_eq url (row t).url) types

-- the type that the programs call by this word
abbrev pub type_of_word : List ℕ → Option TypeName
type_of_word word = find (λ t. bytes_eq word (row t).word) types

-- whether two types are the same: no two of them share a URL
abbrev pub is_same_type : TypeName → TypeName → Bool
is_same_type s t = bytes_eq (row s).url (row t).url

-- rule: type-order
-- how many types a server answers before this one
abbrev pub place : TypeName → ℕ
place t = position_or_len (is_same_type t) types

-- rule: type-order
-- the order of types, in which a server answers them
abbrev pub type_cmp : TypeName → TypeName → Ordering
type_cmp s t = nat_cmp (place s) (place t)
