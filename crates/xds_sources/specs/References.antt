-- What resources refer to, and which references lead nowhere. This project's own, after Envoy's messages. What a value refers to at any
-- depth is `walked`, an object's member before what is in it.
--     Refers          a type and a name that is referred to
--     refers_of       the reference that the program hands on
--     text_at         the text that a field holds, if it holds one
--     named           the reference to a name, where there is one that isn't empty
--     each_named      the clusters that a field of each item of a list names
--     listed_named    the same of a field that may be a list
--     weighted        the clusters of a weighted choice
--     by_action       the clusters that an action of a route names
--     by_member       what a member of an object refers to by itself
--     is_eds          whether a cluster gets its endpoints by EDS
--     text_or         a text, or where there is none, or an empty one, a name
--     service_of      the name of a cluster's endpoints
--     by_cluster      the endpoints that a cluster refers to
--     references      what a resource refers to
--     of_body         what a body of a type and a name refers to, if there is one
--     of_write        what the resource that a write puts refers to
--     Leads           a reference that leads nowhere: the keys of the resource and of what it refers to
--     leads_of        the one that the program hands on
--     missing         those of some references that lead nowhere
--     dangling_of     those of some resources
--     dangling        those of all that is held
use Rattle.std.specs.Prelude.{ℕ, List, [], ◌∷◌, ◌++◌, Bool, false, if◌then◌else◌, bytes_eq, codes, Option, Some, None, is_some, nat_eq, string_bytes}
use Rattle.std.specs.Option.{option_and_then, option_map_or}
use Rattle.std.specs.FinMap as finmap
use Rattle.serde_json.specs.Data.{Num, Data, null, boolean, number, string, array, object, Items, no_items, item, Members, no_members, member}
use Rattle.serde_json.specs.Find.{get, as_str, as_u64}
use Rattle.xds_resource.specs.declared.types.TypeName.{TypeName}
use Rattle.xds_resource.specs.declared.types.TypeName.TheVariants.{Cluster, Endpoint, Listener, Route, Secret}
use Rattle.xds_resource.specs.declared.any.AnyWrite.{AnyWrite}
use Rattle.xds_resource.specs.Any.{write_type, stamped_write}
use Rattle.xds_resource.specs.Fields.{field}
use Rattle.xds_resource.specs.Resources.{value_of}
use Rattle.xds_resource.specs.Writes.{text_cmp}
use Rattle.xds_sources.specs.Keys.{key}
use Rattle.xds_sources.specs.declared.references.Reference.{Reference}
use Rattle.xds_sources.specs.declared.references.Dangling.{Dangling}

-- a type and a name that is referred to
pub record Refers : Type 0 where
  pub kind : TypeName
  pub name : List ℕ

-- the reference that the program hands on
abbrev pub refers_of : Reference → Refers
refers_of r = record { kind = r.kind; name = string_bytes r.name }

-- the text that a field holds, if it holds one
abbrev pub text_at : List ℕ → List ℕ → Data → Option (List ℕ)
text_at camel proto d = option_and_then as_str (field camel proto d)

-- the reference to a name, where there is one that isn't empty
abbrev pub named : TypeName → Option (List ℕ) → List Refers
named t None = []
named t (Some []) = []
named t (Some (c ∷ cs)) = record { kind = t; name = c ∷ cs } ∷ []

-- the clusters that a field of each item of a list names
abbrev pub each_named : List ℕ → Items → List Refers
each_named k no_items = []
each_named k (item d ds) = named Cluster (text_at k k d) ++ each_named k ds

-- the same of a field that may be a list
abbrev pub listed_named : List ℕ → Option Data → List Refers
listed_named k None = []
listed_named k (Some null) = []
listed_named k (Some (boolean b)) = []
listed_named k (Some (number n)) = []
listed_named k (Some (string s)) = []
listed_named k (Some (array ds)) = each_named k ds
listed_named k (Some (object ms)) = []

-- the clusters of a weighted choice
abbrev pub weighted : Option Data → List Refers
weighted None = []
weighted (Some d) = listed_named (codes "name") (field (codes "clusters") (codes "clusters") d)

-- the clusters that an action of a route names: one, weighted ones, and those of mirrored requests
abbrev pub by_action : Data → List Refers
by_action d =
    named Cluster (text_at (codes "cluster") (codes "cluster") d)
    ++ (weighted (field (codes "weightedClusters") (codes "weighted_clusters") d) ++ listed_named (codes "cluster") (field (codes "requestMirrorPolicies") (codes "request_mirror_policies") d))

-- what a member of an object refers to by itself: `rds` names a route configuration, `route` clusters
abbrev pub by_member : List ℕ → Data → List Refers
by_member k d = if bytes_eq k (codes "rds") then named Route (text_at (codes "routeConfigName") (codes "route_config_name") d) else (if bytes_eq k (codes "route") then by_action d else [])

-- what a value refers to, at any depth, an object's member before what is in it
abbrev mutual
  pub walked : Data → List Refers
  walked null = []
  walked (boolean b) = []
  walked (number n) = []
  walked (string s) = []
  walked (array ds) = items_walked ds
  walked (object ms) = members_walked ms

  pub items_walked : Items → List Refers
  items_walked no_items = []
  items_walked (item d ds) = walked d ++ items_walked ds

  pub members_walked : Members → List Refers
  members_walked no_members = []
  members_walked (member k d ms) = by_member k d ++ (walked d ++ members_walked ms)

-- whether a cluster gets its endpoints by EDS, as the name of its type or its number says
abbrev pub is_eds : Option Data → Bool
is_eds None = false
is_eds (Some null) = false
is_eds (Some (boolean b)) = false
is_eds (Some (number n)) = option_map_or (λ x. nat_eq x 3) (as_u64 n) false
is_eds (Some (string s)) = bytes_eq s (codes "EDS")
is_eds (Some (array ds)) = false
is_eds (Some (object ms)) = false

-- a text, or where there is none, or an empty one, this name
abbrev pub text_or : List ℕ → Option (List ℕ) → List ℕ
text_or name None = name
text_or name (Some []) = name
text_or name (Some (c ∷ cs)) = c ∷ cs

-- the name of a cluster's endpoints
abbrev pub service_of : List ℕ → Data → List ℕ
service_of name d = text_or name (option_and_then (text_at (codes "serviceName") (codes "service_name")) (field (codes "edsClusterConfig") (codes "eds_cluster_config") d))

-- the endpoints that a cluster refers to
abbrev pub by_cluster : List ℕ → Data → List Refers
by_cluster name d = if is_eds (get (codes "type") d) then named Endpoint (Some (service_of name d)) else []

-- what a resource of a type and a name refers to, where this is its object
abbrev pub references : TypeName → List ℕ → Data → List Refers
references Cluster name d = by_cluster name d
references Endpoint name d = []
references Listener name d = walked d
references Route name d = walked d
references Secret name d = []

-- what a body of a type and a name refers to, if there is one
abbrev pub of_body : TypeName → List ℕ → Option (List ℕ) → List Refers
of_body t name None = []
of_body t name (Some body) = references t name (value_of body)

-- what the resource that a write puts refers to
abbrev pub of_write : AnyWrite → List Refers
of_write w = of_body (write_type w) (stamped_write w).name (stamped_write w).body

-- a reference that leads nowhere: the keys of the resource and of what it refers to
pub record Leads : Type 0 where
  pub from : List ℕ
  pub to : List ℕ

-- the one that the program hands on
abbrev pub leads_of : Dangling → Leads
leads_of d = record { from = string_bytes d.from; to = string_bytes d.to }

-- those of some references that lead nowhere
abbrev pub missing : finmap.FinMap text_cmp AnyWrite → List ℕ → List Refers → List Leads
missing held from [] = []
missing held from (r ∷ rs) = if is_some (finmap.get held (key r.kind r.name)) then missing held from rs else record { from = from; to = key r.kind r.name } ∷ missing held from rs

-- those of some resources
abbrev pub dangling_of : finmap.FinMap text_cmp AnyWrite → List (List ℕ × AnyWrite) → List Leads
dangling_of held [] = []
dangling_of held (e ∷ es) = missing held e.0 (of_write e.1) ++ dangling_of held es

-- those of all that is held
abbrev pub dangling : finmap.FinMap text_cmp AnyWrite → List Leads
dangling held = dangling_of held (finmap.entries held)
