-- What is kept of a stream's requests for one type, so that its interest is known after one request more. This project's own.
--     Asked, asked_code   whether there was a request, whether a state-of-the-world list named something
--     nothing             a client of this cluster that wants nothing
--     everything          all of a complete type, and nothing of an incomplete one
--     unasked             before the first request of a client of this cluster
--     list_says           state of the world: what a list says of a client without a cluster, where one before it named something or not
--     sotw_asked          state of the world: after one list more
--     star_after          delta: whether the star stands after one request more, where it stood before or not
--     names_after         delta: the explicit names after one request more
--     delta_asked         delta: after one request more; before the first the star stands if that subscribes nothing
--     wanted_by           delta: what a request leaves the client wanting of the names that it touches
--     widened             with more explicit names
--     without_names       without some of its explicit names
--     narrowed            delta: with the star of an interest
--     sotw_kept           what is kept of the lists of a whole stream, of a client of this cluster
--     delta_kept          what is kept of the delta requests of a whole stream, of a client of this cluster
--     IsStarOfComplete    the star of an incomplete type does not stand
use Rattle.std.specs.Prelude.{◌≡◌, ℕ, List, [], ◌∷◌, ◌++◌, Bool, true, false, ◌&&◌, ◌||◌, not, if◌then◌else◌, refl}
use Rattle.std.specs.List.{list_any, filter}
use Rattle.std.specs.FinSet as set
use Rattle.std.specs.Coded.{Coded, code_by, coded×, coded_bool}
use Rattle.xds_resource.specs.declared.types.TypeName.{TypeName}
use Rattle.xds_resource.specs.Types.{row}
use Rattle.xds_resource.specs.Writes.{text_cmp}
use Rattle.xds_interest.specs.Interests.{Selection, selection_code, star_text, has_name, names_among, in_cluster}
use Rattle.xds_interest.specs.SotW.{is_named, listed, sotw_interest}
use Rattle.xds_interest.specs.Delta.{Mention, delta_interest}

-- whether there was a request, whether a state-of-the-world list named something, and the interest
pub record Asked : Type 0 where
  pub begun : Bool
  pub named : Bool
  pub interest : Selection

abbrev pub asked_code : Coded Asked
asked_code =
    code_by (Bool × (Bool × Selection)) (coded× coded_bool (coded× coded_bool selection_code)) (λ a. (a.begun, (a.named, a.interest)))
    (λ p. record { begun = p.0; named = p.1.0; interest = p.1.1 }) (λ _. refl)

-- a client of this cluster that wants nothing
abbrev pub nothing : List ℕ → Selection
nothing cluster = record { star = false; names = set.empty; cluster = cluster }

-- all of a complete type, and nothing of an incomplete one
abbrev pub everything : TypeName → Selection
everything t = record { star = (row t).is_complete; names = set.empty; cluster = [] }

-- before the first request of a client of this cluster
abbrev pub unasked : List ℕ → Asked
unasked cluster = record { begun = false; named = false; interest = nothing cluster }

-- rule: listed-names
-- state of the world: what a list says of a client without a cluster, where one before it named something or none did
abbrev pub list_says : TypeName → Bool → List (List ℕ) → Selection
list_says t named names = if named || is_named names then listed t names else everything t

-- rule: listed-names
-- state of the world: after one list more
abbrev pub sotw_asked : TypeName → Asked → List (List ℕ) → Asked
sotw_asked t a names = record {
  begun = true;
  named = a.named || is_named names;
  interest = in_cluster a.interest.cluster (if a.named || is_named names then listed t names else everything t);
}

-- rule: delta-names
-- delta: whether the star stands after one request more, where it stood before or not
abbrev pub star_after : Mention → Bool → Bool
star_after m before = if has_name m.subscribe star_text then true else if has_name m.unsubscribe star_text then false else before

-- rule: delta-names
-- delta: the explicit names after one request more, which are those that it subscribes and those of before that it doesn't unsubscribe
abbrev pub names_after : TypeName → Mention → List (List ℕ) → List (List ℕ)
names_after t m before = names_among t m.subscribe ++ filter (λ name. not (has_name m.unsubscribe name)) before

-- rule: delta-names
-- delta: after one request more; before the first the star stands if that subscribes nothing
abbrev pub delta_asked : TypeName → Asked → Mention → Asked
delta_asked t a m = record {
  begun = true;
  named = false;
  interest = record {
    star = (row t).is_complete && star_after m (if a.begun then a.interest.star else not (is_named m.subscribe));
    names = set.from_list (names_after t m (set.items a.interest.names));
    cluster = a.interest.cluster;
  };
}

-- rule: delta-names
-- delta: what a request leaves the client wanting of the names that it touches, which are those that it subscribes
abbrev pub wanted_by : TypeName → Asked → Mention → Selection
wanted_by t a m = record { star = (delta_asked t a m).interest.star; names = set.from_list (names_among t m.subscribe); cluster = a.interest.cluster }

-- with more explicit names
abbrev pub widened : Asked → set.FinSet text_cmp → Asked
widened a names = record a { interest = record a.interest { names = set.union a.interest.names names } }

-- without some of its explicit names
abbrev pub without_names : Asked → set.FinSet text_cmp → Asked
without_names a names = record a { interest = record a.interest { names = set.difference a.interest.names names } }

-- delta: with the star of an interest, and without those texts of a list that the interest doesn't name
abbrev pub narrowed : Asked → Selection → List (List ℕ) → Asked
narrowed a wanted texts = record {
  begun = true;
  named = false;
  interest = record {
    star = wanted.star;
    names = set.difference a.interest.names (set.difference (set.from_list texts) wanted.names);
    cluster = a.interest.cluster;
  };
}

-- rule: listed-names
-- what is kept of the lists of a whole stream, of a client of this cluster
abbrev pub sotw_kept : TypeName → List ℕ → List (List (List ℕ)) → Asked
sotw_kept t cluster [] = unasked cluster
sotw_kept t cluster (names ∷ lists) = record { begun = true; named = list_any is_named (names ∷ lists); interest = in_cluster cluster (sotw_interest t (names ∷ lists)) }

-- rule: delta-names
-- what is kept of the delta requests of a whole stream, of a client of this cluster
abbrev pub delta_kept : TypeName → List ℕ → List Mention → Asked
delta_kept t cluster [] = unasked cluster
delta_kept t cluster (m ∷ ms) = record { begun = true; named = false; interest = in_cluster cluster (delta_interest t (m ∷ ms)) }

-- rule: star-covers
-- the star of an incomplete type does not stand
abbrev pub IsStarOfComplete : TypeName → Asked → Type 0
IsStarOfComplete t a = (row t).is_complete ≡ false → a.interest.star ≡ false
