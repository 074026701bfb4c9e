-- The type that a misspelt type URL means. This project's own.
--     common_front   how many bytes two texts have in common at their beginnings
--     common_back    how many they have in common at their ends
--     last_name      the name at the end of the URL of a type, with the dot before it
--     is_near        a text comes near to the URL of a type: it ends with the same name, or has at most three bytes else at one place
--     type_near      the first type that a text comes near to
use Rattle.std.specs.Prelude.{ℕ, suc, ◌+◌, ◌==◌, ◌||◌, List, [], ◌∷◌, codes, length, reverse, max, nat_le, Bool, if◌then◌else◌, Option, Some, None}
use Rattle.xds_resource.specs.declared.types.TypeName.{TypeName}
use Rattle.xds_resource.specs.declared.types.TypeName.TheVariants.{Cluster, Endpoint, Listener, Route, Secret}
use Rattle.xds_resource.specs.Types.{row}

-- how many bytes two texts have in common at their beginnings
abbrev pub common_front : List ℕ → List ℕ → ℕ
common_front [] other = 0
common_front (a ∷ one) [] = 0
common_front (a ∷ one) (b ∷ other) = if a == b then 1 + common_front one other else 0

-- how many they have in common at their ends
abbrev pub common_back : List ℕ → List ℕ → ℕ
common_back one other = common_front (reverse one) (reverse other)

-- the name at the end of the URL of a type, with the dot before it
abbrev pub last_name : TypeName → List ℕ
last_name Cluster = codes ".Cluster"
last_name Endpoint = codes ".ClusterLoadAssignment"
last_name Listener = codes ".Listener"
last_name Route = codes ".RouteConfiguration"
last_name Secret = codes ".Secret"

-- a text comes near to the URL of a type: it ends with the same name, or has at most three bytes else at one place
abbrev pub is_near : List ℕ → TypeName → Bool
is_near url t =
    nat_le (length (last_name t)) (common_back url (row t).url)
    || nat_le (max (length url) (length (row t).url)) (common_front url (row t).url + common_back url (row t).url + 3)

-- the first type that a text comes near to
abbrev pub type_near : List ℕ → Option TypeName
type_near url =
    if is_near url Cluster then Some Cluster else if is_near url Endpoint then Some Endpoint else if is_near url Listener then Some Listener
    else if is_near url Route then Some Route else if is_near url Secret then Some Secret else None
