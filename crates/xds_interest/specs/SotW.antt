-- The interest of a state-of-the-world stream, from the name lists of its requests, as Envoy's "xDS REST and gRPC protocol" tells.
--     listed          what one list says by itself, of a client without a cluster
--     is_named        whether a list names something
--     last_list       the last list of all, and the empty one where there is none
--     unnamed         what a client wants that has sent requests and named nothing yet
--     sotw_interest   the interest after these lists, in order
use Rattle.std.specs.Prelude.{ℕ, List, [], ◌∷◌, Bool, true, false, if◌then◌else◌}
use Rattle.std.specs.List.{list_any}
use Rattle.std.specs.FinSet as set
use Rattle.xds_resource.specs.declared.types.TypeName.{TypeName}
use Rattle.xds_resource.specs.Types.{row}
use Rattle.xds_interest.specs.Interests.{Selection, is_star, names_among}

-- rule: listed-names
-- what one list says by itself, of a client without a cluster
abbrev pub listed : TypeName → List (List ℕ) → Selection
listed t names = record { star = list_any (is_star t) names; names = set.from_list (names_among t names); cluster = [] }

-- rule: listed-names
-- whether a list names something
abbrev pub is_named : List (List ℕ) → Bool
is_named [] = false
is_named (name ∷ names) = true

-- rule: listed-names
-- the last list of all, and the empty one where there is none
abbrev pub last_list : List (List (List ℕ)) → List (List ℕ)
last_list [] = []
last_list (names ∷ []) = names
last_list (names ∷ (more ∷ lists)) = last_list (more ∷ lists)

-- rule: listed-names
-- What a client wants that has sent requests and named nothing yet: all of a complete type, and nothing of an incomplete one.
-- Before its first request it wants nothing.
abbrev pub unnamed : TypeName → List (List (List ℕ)) → Selection
unnamed t [] = record { star = false; names = set.empty; cluster = [] }
unnamed t (names ∷ lists) = record { star = (row t).is_complete; names = set.empty; cluster = [] }

-- rule: listed-names
-- The interest after these lists, in order. Once one of them has named something, the last list says all.
abbrev pub sotw_interest : TypeName → List (List (List ℕ)) → Selection
sotw_interest t lists = if list_any is_named lists then listed t (last_list lists) else unnamed t lists
