-- The laws of lists, and of interests of the state of the world.
use Rattle.std.proofs.Common.{◌≡◌, Contains, ◌≢◌, ℕ, List, [], ◌∷◌, ◌++◌, Bool, true, false, ◌&&◌, ◌||◌, not, cond, refl, sym, ap, ◌∙◌, suc, arith}
use Rattle.std.specs.List.{list_any}
use Rattle.std.specs.Str.{bytes_eq}
use Rattle.std.specs.FinSet as set
use Rattle.std.proofs.lemmas.Map.Views.{any-filter_same}
use Rattle.std.proofs.lemmas.Bool.{cond-true, cond-false}
use Rattle.std.proofs.lemmas.List.Folds.{list_any_at}
use Rattle.std.proofs.lemmas.Slice.Eq.{bytes_eq-Decides}
use Rattle.std.proofs.Math.Bool.{and-false}
use Rattle.xds_resource.specs.declared.types.TypeName.{TypeName}
use Rattle.xds_resource.specs.Types.{row}
use Rattle.xds_resource.specs.Writes.{text_cmp}
use Rattle.xds_interest.specs.Interests.{star_text, is_star, has_name, names_among}
use Rattle.xds_interest.specs.SotW.{is_named, last_list, unnamed, listed, sotw_interest}
use Rattle.xds_interest.specs.Laws.{LastListSaysAll, WhileNothingIsNamed, ListReachesItsNames, UntouchedKeepsReach}
use Rattle.xds_interest.proofs.Texts.{contains-from_texts}
use Rattle.xds_interest.proofs.Choices.{and-or, and_second, or_kept, neither_one}

pub last_list-push : (lists : List (List (List ℕ))) (last : List (List ℕ)) → last_list (lists ++ last ∷ []) ≡ last
last_list-push [] last = refl
last_list-push (x ∷ []) last = refl
last_list-push (x ∷ (y ∷ lists)) last = last_list-push (y ∷ lists) last

is_named-true : (names : List (List ℕ)) → names ≢ [] → is_named names ≡ true
is_named-true [] some = absurd (some refl)
is_named-true (x ∷ xs) some = refl

-- rule: listed-names
pub last_list_says_all : LastListSaysAll
last_list_says_all t lists last named (k, within, is) some =
    cond-true _ _ _ (list_any_at is_named (lists ++ last ∷ []) k named within (ap is_named is ∙ is_named-true named some)) ∙ ap (listed t) (last_list-push lists last)

nothing_is_named : (lists : List (List (List ℕ))) → ((names : List (List ℕ)) → Contains lists names → names ≡ []) → list_any is_named lists ≡ false
nothing_is_named [] empty = refl
nothing_is_named (x ∷ xs) empty =
    (λ i. is_named (empty x (0, omega arith, refl) i) || nothing_is_named xs (λ names (k, within, is). empty names (suc k, omega arith, is)) i)

-- rule: listed-names
pub while_nothing_is_named : WhileNothingIsNamed
while_nothing_is_named t [] some empty = absurd (some refl)
while_nothing_is_named t (x ∷ xs) some empty = cond-false _ _ _ (nothing_is_named (x ∷ xs) empty)

-- a list has the star of a complete type
pub list_any-is_star : (t : TypeName) (names : List (List ℕ)) → list_any (is_star t) names ≡ ((row t).is_complete && has_name names star_text)
list_any-is_star t [] = sym (and-false (row t).is_complete)
list_any-is_star t (x ∷ xs) = ap (λ b. is_star t x || b) (list_any-is_star t xs) ∙ sym (and-or (row t).is_complete (bytes_eq star_text x) (has_name xs star_text))

pub has_name-names_among : (t : TypeName) (names : List (List ℕ)) (name : List ℕ) → has_name (names_among t names) name ≡ (not (is_star t name) && has_name names name)
has_name-names_among t names name =
    any-filter_same (bytes_eq name) (λ text. not (is_star t text)) (not (is_star t name)) (λ text same. ap (λ x. not (is_star t x)) (sym ((bytes_eq-Decides name text).0 same))) names

pub contains-listed : (t : TypeName) (names : List (List ℕ)) (name : List ℕ) → set.contains (listed t names).names name ≡ (not (is_star t name) && has_name names name)
contains-listed t names name = contains-from_texts (names_among t names) name ∙ has_name-names_among t names name

-- rule: listed-names
pub list_reaches_its_names : ListReachesItsNames
list_reaches_its_names t names name =
    (λ i. list_any-is_star t names i || contains-listed t names name i)
    ∙ or_kept (row t).is_complete (has_name names star_text) (has_name names name) (bytes_eq star_text name)
    (λ starry. ap (has_name names) (sym ((bytes_eq-Decides star_text name).0 (and_second (row t).is_complete _ starry))))

pub untouched_keeps_reach : UntouchedKeepsReach
untouched_keeps_reach old new name h = neither_one old.star new.star (set.contains old.names name) (set.contains new.names name) h

pub sotw_star_is_no_name : (t : TypeName) (name : List ℕ) → is_star t name ≡ true → (lists : List (List (List ℕ))) → set.contains (sotw_interest t lists).names name ≡ false
sotw_star_is_no_name t name starry lists = cases (list_any is_named lists)
  where
    unnamed_has_none : (lists : List (List (List ℕ))) → set.contains (unnamed t lists).names name ≡ false
    unnamed_has_none [] = set.contains-empty text_cmp name
    unnamed_has_none (x ∷ xs) = set.contains-empty text_cmp name

    cases : (b : Bool) → set.contains (cond b (listed t (last_list lists)) (unnamed t lists)).names name ≡ false
    cases true = contains-listed t (last_list lists) name ∙ ap (λ b. not b && has_name (last_list lists) name) starry
    cases false = unnamed_has_none lists

pub sotw_incomplete_has_no_star : (t : TypeName) → (row t).is_complete ≡ false → (lists : List (List (List ℕ))) → (sotw_interest t lists).star ≡ false
sotw_incomplete_has_no_star t incomplete lists = cases (list_any is_named lists)
  where
    unnamed_has_none : (lists : List (List (List ℕ))) → (unnamed t lists).star ≡ false
    unnamed_has_none [] = refl
    unnamed_has_none (x ∷ xs) = incomplete

    cases : (b : Bool) → (cond b (listed t (last_list lists)) (unnamed t lists)).star ≡ false
    cases true = list_any-is_star t (last_list lists) ∙ ap (λ b. b && has_name (last_list lists) star_text) incomplete
    cases false = unnamed_has_none lists
