-- Five things of one kind, one for each resource type: catalogues, sessions, caches, marks. This project's own.
--     PerType, per_type_code   one thing for each of the five types
--     at                       the one of a type
--     per_type                 what f gives of each type
--     each                     the same thing for each type
--     with_at                  p, with x for the type t
--     PutsAtOneType            what was put at a type is there, and the other types keep theirs
use Rattle.std.specs.Prelude.{◌≡◌, ◌≢◌, refl}
use Rattle.std.specs.Coded.{Coded, code_by, coded×}
use Rattle.xds_resource.specs.declared.types.TypeName.{TypeName}
use Rattle.xds_resource.specs.declared.types.TypeName.TheVariants.{Cluster, Endpoint, Listener, Route, Secret}

pub record PerType (X : Type 0) : Type 0 where
  pub cluster : X
  pub endpoint : X
  pub listener : X
  pub route : X
  pub secret : X

abbrev pub per_type_code : {X : Type 0} → Coded X → Coded (PerType X)
per_type_code {X} x =
    code_by (X × (X × (X × (X × X)))) (coded× x (coded× x (coded× x (coded× x x)))) (λ p. (p.cluster, (p.endpoint, (p.listener, (p.route, p.secret)))))
    (λ q. record { cluster = q.0; endpoint = q.1.0; listener = q.1.1.0; route = q.1.1.1.0; secret = q.1.1.1.1 }) (λ _. refl)

-- the one of a type
abbrev pub at : {X : Type 0} → PerType X → TypeName → X
at p Cluster = p.cluster
at p Endpoint = p.endpoint
at p Listener = p.listener
at p Route = p.route
at p Secret = p.secret

-- what f gives of each type
abbrev pub per_type : {X : Type 0} → (TypeName → X) → PerType X
per_type f = record { cluster = f Cluster; endpoint = f Endpoint; listener = f Listener; route = f Route; secret = f Secret }

-- the same thing for each type
abbrev pub each : {X : Type 0} → X → PerType X
each x = per_type (λ _. x)

-- p, with x for the type t
abbrev pub with_at : {X : Type 0} → PerType X → TypeName → X → PerType X
with_at p Cluster x = record p { cluster = x }
with_at p Endpoint x = record p { endpoint = x }
with_at p Listener x = record p { listener = x }
with_at p Route x = record p { route = x }
with_at p Secret x = record p { secret = x }

-- what was put at a type is there, and the other types keep theirs
abbrev pub PutsAtOneType : {X : Type 0} → PerType X → TypeName → X → Type 0
PutsAtOneType p t x = (at (with_at p t x) t ≡ x) × ((s : TypeName) → s ≢ t → at (with_at p t x) s ≡ at p s)
