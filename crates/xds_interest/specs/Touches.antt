-- The names that a request touches, as a set: each of some names, or every name. This project's own.
--     Touch, touch_code            whether every name is touched, and those that are touched in any case
--     no_touch                     no name
--     touches                      whether a name is touched
--     sotw_touch                   from an old interest to a new one of the state of the world
--     delta_touch                  by a delta request
use Rattle.std.specs.Prelude.{ℕ, List, ◌++◌, Bool, false, ◌&&◌, ◌||◌, refl}
use Rattle.std.specs.FinSet as set
use Rattle.std.specs.Coded.{Coded, code_by, coded×, coded_ℕ, coded_bool, coded_list}
use Rattle.xds_resource.specs.declared.types.TypeName.{TypeName}
use Rattle.xds_resource.specs.Types.{row}
use Rattle.xds_resource.specs.Writes.{text_cmp}
use Rattle.xds_interest.specs.Interests.{Selection, star_text, names_among}
use Rattle.xds_interest.specs.Delta.{Mention}
use Rattle.xds_interest.specs.Touched.{exactly_one, mentions}

-- whether every name is touched, and those that are touched in any case
pub record Touch : Type 0 where
  pub all : Bool
  pub names : set.FinSet text_cmp

abbrev pub touch_code : Coded Touch
touch_code =
    code_by (Bool × set.FinSet text_cmp) (coded× coded_bool (set.code (coded_list coded_ℕ))) (λ t. (t.all, t.names)) (λ p. record { all = p.0; names = p.1 }) (λ _. refl)

-- no name
abbrev pub no_touch : Touch
no_touch = record { all = false; names = set.empty }

abbrev pub touches : Touch → List ℕ → Bool
touches t name = t.all || set.contains t.names name

-- from an old interest to a new one of the state of the world
abbrev pub sotw_touch : Selection → Selection → Touch
sotw_touch old new = record { all = exactly_one old.star new.star; names = set.union (set.difference old.names new.names) (set.difference new.names old.names) }

-- by a delta request
abbrev pub delta_touch : TypeName → Mention → Touch
delta_touch t m = record { all = (row t).is_complete && mentions m star_text; names = set.from_list (names_among t (m.subscribe ++ m.unsubscribe)) }
