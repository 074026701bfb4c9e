-- The names of the live writes, kept by whom the star covers them for: everyone, or the clients of a cluster among a write's
-- groups. So a whole response is judged by names that it ought to have, without a look at all that ever stood. This project's own.
--     ByGroup                          for each group the names that live in it
--     LiveNames, live_names_code       the names of live writes: those without groups, and those of each group
--     no_names                         no name lives
--     in_group                         the names that live in a group
--     stands                           whether a name stands among some
--     lives_for_everyone               whether the write of a name lives and is for everyone
--     lives_for                        whether the write of a name lives and is for this group
--     AreLive                          these are the names of the live writes among some entries
--     with_name                        marks with a name, or without it
--     with_name_in                     the marks of each group, with a name in one group or without it
--     with_name_in_each                the same of several groups
--     with_name_of                     with the name of a write of these groups, or without it
--     are_among                        whether all of some names stand among others
--     has_starred                      whether it has all that the star covers for a client of a cluster
--     has_if_live                      whether it has a name, where that lives
--     has_explicit                     whether it has all explicit names that live
--     has_shown                        whether it has all that an interest covers
use Rattle.std.specs.Prelude.{◌≡◌, ℕ, List, [], ◌∷◌, length, ◌==◌, Bool, true, false, not, ◌&&◌, ◌||◌, if◌then◌else◌, is_some, refl}
use Rattle.std.specs.Coded.{Coded, code_by, coded×, coded_ℕ, coded_list}
use Rattle.std.specs.List.{list_all}
use Rattle.std.specs.Option.{option_map_or, unwrap_or}
use Rattle.std.specs.FinMap as finmap
use Rattle.std.specs.FinSet as set
use Rattle.xds_resource.specs.Groups.{has_group}
use Rattle.xds_resource.specs.Writes.{text_cmp}
use Rattle.xds_interest.specs.Interests.{Selection}
use Rattle.xds_catalogue.specs.Content.{is_live, live_at}
use Rattle.xds_catalogue.specs.Holdings.{Entries, IsCatalogue}
use Rattle.xds_check.specs.Kept.{Marks, marks_code}

abbrev pub ByGroup : Type 0
ByGroup = finmap.FinMap text_cmp Marks

-- the names of live writes that have no groups, and those of live writes by each of their groups
pub record LiveNames : Type 0 where
  pub everyone : Marks
  pub by_group : finmap.FinMap text_cmp Marks

abbrev pub live_names_code : Coded LiveNames
live_names_code =
    code_by (Marks × finmap.FinMap text_cmp Marks) (coded× marks_code (finmap.code (coded_list coded_ℕ) marks_code)) (λ x. (x.everyone, x.by_group))
    (λ p. record { everyone = p.0; by_group = p.1 }) (λ _. refl)

abbrev pub no_names : LiveNames
no_names = record { everyone = finmap.empty; by_group = finmap.empty }

-- the names that live in a group
abbrev pub in_group : ByGroup → List ℕ → Marks
in_group by group = unwrap_or (finmap.get by group) finmap.empty

-- whether a name stands among some
abbrev pub stands : Marks → List ℕ → Bool
stands m name = is_some (finmap.get m name)

-- rule: star-covers, rule: groups
-- whether what stands under a name lives and is for everyone, and whether it lives and is for a group
abbrev pub lives_for_everyone : Entries → List ℕ → Bool
lives_for_everyone m name = option_map_or (λ w. is_live w && (length w.groups == 0)) (finmap.get m name) false

-- rule: star-covers, rule: groups
abbrev pub lives_for : Entries → List ℕ → List ℕ → Bool
lives_for m group name = option_map_or (λ w. is_live w && has_group w.groups group) (finmap.get m name) false

-- rule: tombstones
-- these are the names of the live writes among some entries
pub record AreLive (m : Entries) (x : LiveNames) : Type 0 where
  pub named : IsCatalogue m
  pub for_everyone : (name : List ℕ) → stands x.everyone name ≡ lives_for_everyone m name
  pub for_groups : (group name : List ℕ) → stands (in_group x.by_group group) name ≡ lives_for m group name

-- ---- a name that comes and goes

-- with a name, or without it
abbrev pub with_name : Bool → List ℕ → Marks → Marks
with_name lives name m = if lives then finmap.insert m name true else finmap.remove m name

abbrev pub with_name_in : Bool → List ℕ → ByGroup → List ℕ → ByGroup
with_name_in lives name by group = finmap.insert (finmap.remove by group) group (with_name lives name (in_group by group))

abbrev pub with_name_in_each : Bool → List ℕ → ByGroup → List (List ℕ) → ByGroup
with_name_in_each lives name by [] = by
with_name_in_each lives name by (g ∷ gs) = with_name_in_each lives name (with_name_in lives name by g) gs

-- with the name of a write of these groups, or without it
abbrev pub with_name_of : Bool → List ℕ → List (List ℕ) → LiveNames → LiveNames
with_name_of lives name groups x =
    if length groups == 0 then record x { everyone = with_name lives name x.everyone } else record x { by_group = with_name_in_each lives name x.by_group groups }

-- ---- what a whole response has

-- whether all of some names stand among others
abbrev pub are_among : Marks → Marks → Bool
are_among names others = list_all (stands others) (finmap.keys names)

-- rule: star-covers, rule: whole-response
-- whether it has all that the star covers for a client of a cluster
abbrev pub has_starred : LiveNames → List ℕ → Marks → Bool
has_starred x cluster stated = are_among x.everyone stated && are_among (in_group x.by_group cluster) stated

-- rule: whole-response
-- whether it has a name, where that lives
abbrev pub has_if_live : Entries → Marks → List ℕ → Bool
has_if_live m stated name = not (is_some (live_at m name)) || stands stated name

-- rule: whole-response
-- whether it has all explicit names that live
abbrev pub has_explicit : Entries → Selection → Marks → Bool
has_explicit m s stated = list_all (has_if_live m stated) (set.items s.names)

-- rule: whole-response
-- whether it has all that an interest covers
abbrev pub has_shown : Entries → LiveNames → Selection → Marks → Bool
has_shown m x s stated = has_explicit m s stated && (not s.star || has_starred x s.cluster stated)
