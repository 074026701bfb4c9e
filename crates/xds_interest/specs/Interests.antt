-- What a client wants of one type: explicit names and the star, as Envoy's "xDS REST and gRPC protocol" has them. Groups and clusters, which narrow the star, are this project's own.
--     Selection, selection_code   an interest: whether it has the star, its explicit names
--     reaches                     the star reaches every name, and an explicit name reaches itself
--     is_open_to                  whether the star of a client of this cluster covers a write of these groups
--     covers                      whether an interest covers a write of this name and these groups
--     in_cluster                  the same interest, of a client of another cluster
--     text_or_empty               a text that may be left out, which is then empty
--     star_text                   how the star is written
--     is_star                     whether a text in a request of the type is the star
--     has_name                    whether a list mentions a text
--     names_among                 the texts of a list that are names, in a request of the type
use Rattle.std.specs.Prelude.{ℕ, ◌==◌, List, [], length, Bool, ◌&&◌, ◌||◌, not, bytes_eq, Option, codes, refl}
use Rattle.std.specs.List.{list_any, filter}
use Rattle.std.specs.Option.{option_map_or}
use Rattle.std.specs.FinSet as set
use Rattle.std.specs.Coded.{Coded, code_by, coded×, coded_ℕ, coded_bool, coded_list}
use Rattle.xds_resource.specs.declared.types.TypeName.{TypeName}
use Rattle.xds_resource.specs.Types.{row}
use Rattle.xds_resource.specs.Groups.{has_group}
use Rattle.xds_resource.specs.Writes.{text_cmp}

-- an interest: whether it has the star, its explicit names, and the text of the client's cluster, empty where it has none
pub record Selection : Type 0 where
  pub star : Bool
  pub names : set.FinSet text_cmp
  pub cluster : List ℕ

abbrev pub selection_code : Coded Selection
selection_code =
    code_by (Bool × (set.FinSet text_cmp × List ℕ)) (coded× coded_bool (coded× (set.code (coded_list coded_ℕ)) (coded_list coded_ℕ))) (λ s. (s.star, (s.names, s.cluster)))
    (λ p. record { star = p.0; names = p.1.0; cluster = p.1.1 }) (λ _. refl)

-- the star reaches every name, and an explicit name reaches itself
abbrev pub reaches : Selection → List ℕ → Bool
reaches s name = s.star || set.contains s.names name

-- rule: star-covers, rule: groups
-- whether the star of a client of this cluster covers a write of these groups: it has none, or the cluster is among them
abbrev pub is_open_to : List (List ℕ) → List ℕ → Bool
is_open_to groups cluster = (length groups == 0) || has_group groups cluster

-- rule: star-covers
-- whether an interest covers a write of this name and these groups: an explicit name covers it whatever its groups, the star what is open to the cluster
abbrev pub covers : Selection → List ℕ → List (List ℕ) → Bool
covers s name groups = set.contains s.names name || (s.star && is_open_to groups s.cluster)

-- the same interest, of a client of another cluster
abbrev pub in_cluster : List ℕ → Selection → Selection
in_cluster cluster s = record s { cluster = cluster }

-- a text that may be left out, which is then empty
abbrev pub text_or_empty : {Y : Type 0} → (Y → List ℕ) → Option Y → List ℕ
text_or_empty bytes text = option_map_or bytes text []

-- how the star is written
abbrev pub star_text : List ℕ
star_text = codes "*"

-- rule: star-covers
-- whether a text in a request of the type is the star: of an incomplete type `*` is a name as any other
abbrev pub is_star : TypeName → List ℕ → Bool
is_star t name = (row t).is_complete && bytes_eq star_text name

-- whether a list mentions a text
abbrev pub has_name : List (List ℕ) → List ℕ → Bool
has_name names name = list_any (bytes_eq name) names

-- the texts of a list that are names, in a request of the type
abbrev pub names_among : TypeName → List (List ℕ) → List (List ℕ)
names_among t texts = filter (λ text. not (is_star t text)) texts
