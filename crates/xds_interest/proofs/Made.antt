-- What the functions make is what the definitions say.
use Rattle.std.proofs.Common.{◌≡◌, ℕ, List, [], ◌∷◌, ◌++◌, Bool, true, false, ◌&&◌, ◌||◌, not, refl, sym, ap, ◌∙◌}
use mathlib.Core.Bool.{beq}
use Rattle.std.specs.Str.{bytes_eq}
use Rattle.std.specs.FinSet as set
use Rattle.std.proofs.lemmas.List.Elements.{filter-append}
use Rattle.std.proofs.lemmas.List.Folds.{list_any-append}
use Rattle.std.proofs.Math.Bool.{and-true}
use Rattle.xds_resource.specs.declared.types.TypeName.{TypeName}
use Rattle.xds_resource.specs.Types.{row}
use Rattle.xds_resource.specs.Writes.{text_cmp}
use Rattle.xds_interest.specs.Interests.{Selection, star_text, is_star, has_name, names_among, in_cluster}
use Rattle.xds_interest.specs.SotW.{is_named, sotw_interest}
use Rattle.xds_interest.specs.Delta.{Mention}
use Rattle.xds_interest.specs.Touched.{exactly_one}
use Rattle.xds_interest.specs.Asked.{names_after}
use Rattle.xds_interest.specs.Touches.{Touch, sotw_touch, delta_touch}
use Rattle.xds_interest.proofs.Texts.{contains-from_texts, same_texts}
use Rattle.xds_interest.proofs.Listed.{or_swap}
use Rattle.xds_interest.proofs.NameSets.{union-empty, contains-union_list, contains-difference_list, and_swap}
use Rattle.xds_interest.proofs.SotwLaws.{list_any-is_star, has_name-names_among}
use Rattle.xds_interest.proofs.AskedLaws.{contains-names_after}

abbrev pub selection : Bool → set.FinSet text_cmp → List ℕ → Selection
selection star names cluster = record { star = star; names = names; cluster = cluster }

-- ---- the first list

star_of_first : (t : TypeName) (texts : List (List ℕ)) → (sotw_interest t (texts ∷ [])).star ≡ ((row t).is_complete && (not (is_named texts) || has_name texts star_text))
star_of_first t [] = sym (and-true (row t).is_complete)
star_of_first t (x ∷ xs) = list_any-is_star t (x ∷ xs)

-- of an incomplete type the first list is no star
pub closed_star : (t : TypeName) (texts : List (List ℕ)) → (row t).is_complete ≡ false → (sotw_interest t (texts ∷ [])).star ≡ false
closed_star t texts incomplete = star_of_first t texts ∙ ap (λ c. c && (not (is_named texts) || has_name texts star_text)) incomplete

names_of_first : (t : TypeName) (texts : List (List ℕ)) → set.union set.empty (set.from_list {R = text_cmp} (names_among t texts)) ≡ (sotw_interest t (texts ∷ [])).names
names_of_first t [] = union-empty set.empty
names_of_first t (x ∷ xs) = union-empty (set.from_list (names_among t (x ∷ xs)))

pub first_made : (t : TypeName) (texts : List (List ℕ)) (star : Bool) (names : set.FinSet text_cmp) (cluster : List ℕ) → star ≡ (sotw_interest t (texts ∷ [])).star
    → names ≡ set.union set.empty (set.from_list (names_among t texts)) → selection star names cluster ≡ in_cluster cluster (sotw_interest t (texts ∷ []))
first_made t texts star names cluster star_is names_are = (λ i. record { star = star_is i; names = (names_are ∙ names_of_first t texts) i; cluster = cluster })

-- ---- touched names

abbrev pub touch : Bool → set.FinSet text_cmp → Touch
touch all names = record { all = all; names = names }

pub sotw_touch_made : (old new : Selection) → set.union (set.union set.empty (set.difference old.names new.names)) (set.difference new.names old.names) ≡ (sotw_touch old new).names
sotw_touch_made old new = ap (λ s. set.union s (set.difference new.names old.names)) (union-empty (set.difference old.names new.names))

pub delta_touch_made : (t : TypeName) (m : Mention)
    → set.union (set.union set.empty (set.from_list {R = text_cmp} (names_among t m.subscribe))) (set.from_list (names_among t m.unsubscribe)) ≡ (delta_touch t m).names
delta_touch_made t m =
    ap (λ s. set.union s (set.from_list (names_among t m.unsubscribe))) (union-empty (set.from_list (names_among t m.subscribe)))
    ∙ same_texts _ _ (λ q.
    contains-union_list (set.from_list (names_among t m.subscribe)) (names_among t m.unsubscribe) q
    ∙ ap (λ b. b || has_name (names_among t m.unsubscribe) q) (contains-from_texts (names_among t m.subscribe) q)
    ∙ sym (list_any-append (bytes_eq q) (names_among t m.subscribe) (names_among t m.unsubscribe))
    ∙ ap (λ l. has_name l q) (sym (filter-append (λ text. not (is_star t text)) m.subscribe m.unsubscribe))
    ∙ sym (contains-from_texts (names_among t (m.subscribe ++ m.unsubscribe)) q))

pub sotw_touch_is : (old new : Selection) (all : Bool) (names : set.FinSet text_cmp) → all ≡ exactly_one old.star new.star
    → names ≡ set.union (set.union set.empty (set.difference old.names new.names)) (set.difference new.names old.names) → touch all names ≡ sotw_touch old new
sotw_touch_is old new all names all_is names_are = (λ i. touch (all_is i) ((names_are ∙ sotw_touch_made old new) i))

pub delta_touch_is : (t : TypeName) (m : Mention) (all : Bool) (names : set.FinSet text_cmp) → all ≡ (delta_touch t m).all
    → names ≡ set.union (set.union set.empty (set.from_list {R = text_cmp} (names_among t m.subscribe))) (set.from_list (names_among t m.unsubscribe)) → touch all names ≡ delta_touch t m
delta_touch_is t m all names all_is names_are = (λ i. touch (all_is i) ((names_are ∙ delta_touch_made t m) i))

pub differ : (a b : Bool) → not (beq a b) ≡ exactly_one a b
differ true true = refl
differ true false = refl
differ false true = refl
differ false false = refl

-- ---- the explicit names after a delta request

pub names_after_made : (t : TypeName) (m : Mention) (before : set.FinSet text_cmp)
    → set.union (set.difference before (set.from_list m.unsubscribe)) (set.from_list (names_among t m.subscribe)) ≡ set.from_list (names_after t m (set.items before))
names_after_made t m before = same_texts _ _ (λ q.
    contains-union_list (set.difference before (set.from_list m.unsubscribe)) (names_among t m.subscribe) q
    ∙ (λ i. contains-difference_list before m.unsubscribe q i || has_name-names_among t m.subscribe q i)
    ∙ or_swap (set.contains before q && not (has_name m.unsubscribe q)) (not (is_star t q) && has_name m.subscribe q)
    ∙ ap (λ b. (not (is_star t q) && has_name m.subscribe q) || b) (and_swap (set.contains before q) (not (has_name m.unsubscribe q)))
    ∙ sym (contains-names_after t m before q))
