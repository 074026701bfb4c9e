-- A list that says what is kept already: it leaves that as it is, and touches no name.
use Rattle.std.proofs.Common.{◌≡◌, ℕ, ◌+◌, ◌<◌, List, [], ◌∷◌, ◌++◌, map, take, length, get_or, Bool, true, false, cond, not, ◌&&◌, ◌||◌, refl, sym, ap, ◌∙◌, String, Bor, append_assoc}
use Rattle.std.specs.List.{list_any}
use Rattle.std.specs.Str.{bytes_eq}
use Rattle.std.specs.String.{string_bytes}
use Rattle.std.specs.FinSet as set
use Rattle.std.proofs.lemmas.Cmp.{nat_list_cmp_total}
use Rattle.std.proofs.lemmas.List.{take_more, map-append}
use Rattle.std.proofs.lemmas.List.Elements.{filter-append}
use Rattle.std.proofs.Math.Bool.{and-true}
use Rattle.xds_resource.specs.declared.types.TypeName.{TypeName}
use Rattle.xds_resource.specs.Types.{row}
use Rattle.xds_resource.specs.Writes.{text_cmp}
use Rattle.xds_resource.proofs.NameMaps.{bytes_eq_tells, texts_of}
use Rattle.xds_interest.specs.Interests.{star_text, is_star, has_name, names_among, in_cluster}
use Rattle.xds_interest.specs.SotW.{is_named}
use Rattle.xds_interest.specs.Asked.{Asked, list_says, sotw_asked}
use Rattle.xds_interest.specs.Laws.{UnchangedTouchesNothing}
use Rattle.xds_interest.proofs.Texts.{same_texts}
use Rattle.xds_interest.proofs.Listed.{names_among-push_star}
use Rattle.xds_interest.proofs.Ordered.{all_names}
use Rattle.xds_interest.proofs.SotwLaws.{list_any-is_star}
use Rattle.xds_interest.proofs.Choices.{exactly_one_of_same}

-- ---- a list beside the names of a set, text by text

-- the names of the first texts of a list are the first names of all
abbrev pub Alike : TypeName → List (List ℕ) → List (List ℕ) → List (List ℕ) → Type 0
Alike t first whole left = whole ≡ names_among t first ++ left

-- of strings, beside strings
abbrev pub AlikeStrings : {Y Z : Type 0} → TypeName → List (String Y) → ℕ → List (String Z) → List (String Z) → Type 0
AlikeStrings t texts n whole left = Alike t (map string_bytes (take n texts)) (map string_bytes whole) (map string_bytes left)

pub alike_star : (t : TypeName) (first more whole left : List (List ℕ)) (x : List ℕ) → more ≡ first ++ x ∷ [] → is_star t x ≡ true → Alike t first whole left → Alike t more whole left
alike_star t first more whole left x pushed starry so_far = so_far ∙ ap (λ l. l ++ left) (sym (names_among-push_star t first x starry) ∙ ap (names_among t) (sym pushed))

names_among-push_name : (t : TypeName) (xs : List (List ℕ)) (x : List ℕ) → is_star t x ≡ false → names_among t (xs ++ x ∷ []) ≡ names_among t xs ++ x ∷ []
names_among-push_name t xs x plain = filter-append _ xs (x ∷ []) ∙ ap (λ b. names_among t xs ++ cond (not b) (x ∷ []) []) plain

pub alike_name : (t : TypeName) (first more whole left rest : List (List ℕ)) (k x : List ℕ) → more ≡ first ++ x ∷ [] → is_star t x ≡ false → left ≡ k ∷ rest → bytes_eq k x ≡ true
    → Alike t first whole left → Alike t more whole rest
alike_name t first more whole left rest k x pushed plain next same so_far =
    so_far ∙ ap (λ l. names_among t first ++ l) next ∙ ap (λ q. names_among t first ++ q ∷ rest) (bytes_eq_tells k x same) ∙ sym (append_assoc (names_among t first) (x ∷ []) rest)
    ∙ ap (λ l. l ++ rest) (sym (names_among-push_name t first x plain) ∙ ap (names_among t) (sym pushed))

-- ---- borrowed texts beside the names of a set

-- the first texts, and what is left of the names, are all names
abbrev pub InTurn : {Z : Type 0} → List (Bor (List ℕ)) → ℕ → List (String Z) → List (String Z) → Type 0
InTurn texts n whole left = map string_bytes whole ≡ texts_of (take n texts) ++ map string_bytes left

pub in_turn_more : {Z : Type 0} (texts : List (Bor (List ℕ))) (n : ℕ) (whole left rest : List (String Z)) (k : String Z) (d : Bor (List ℕ)) → n < length texts → left ≡ k ∷ rest
    → bytes_eq (string_bytes k) (get_or texts n d).now ≡ true → InTurn texts n whole left → InTurn texts (n + 1) whole rest
in_turn_more texts n whole left rest k d within next same so_far =
    let x : Bor (List ℕ) = get_or texts n d in
    so_far ∙ ap (λ l. texts_of (take n texts) ++ map string_bytes l) next ∙ ap (λ q. texts_of (take n texts) ++ q ∷ map string_bytes rest) (bytes_eq_tells (string_bytes k) x.now same)
    ∙ sym (append_assoc (texts_of (take n texts)) (x.now ∷ []) (map string_bytes rest))
    ∙ ap (λ l. l ++ map string_bytes rest) (sym (map-append (λ s. s.now) (take n texts) (x ∷ [])) ∙ ap texts_of (sym (take_more texts n d within)))

-- of a list without the star all texts are names
pub plain_names : (t : TypeName) (xs ys : List (List ℕ)) → list_any (is_star t) ys ≡ false → set.from_list {R = text_cmp} xs ≡ set.from_list ys → set.from_list {R = text_cmp} xs ≡ set.from_list (names_among t ys)
plain_names t xs ys plain same = same ∙ ap (λ l. set.from_list l) (sym (all_names t ys plain))

-- ---- what a list says

star_said : (t : TypeName) (named : Bool) (texts : List (List ℕ)) → ((row t).is_complete && ((not named && not (is_named texts)) || has_name texts star_text)) ≡ (list_says t named texts).star
star_said t true texts = sym (list_any-is_star t texts)
star_said t false [] = and-true (row t).is_complete
star_said t false (x ∷ xs) = sym (list_any-is_star t (x ∷ xs))

-- of an incomplete type no list says the star
pub closed_said : (t : TypeName) (named : Bool) (texts : List (List ℕ)) → (row t).is_complete ≡ false → (list_says t named texts).star ≡ false
closed_said t named texts incomplete = sym (star_said t named texts) ∙ ap (λ c. c && ((not named && not (is_named texts)) || has_name texts star_text)) incomplete

named_before : (n m : Bool) → (n || not m) ≡ true → (n || m) ≡ n
named_before true m h = refl
named_before false true h = absurd cc
named_before false false h = refl

-- rule: listed-names
-- what is kept stays as it is
pub asked_again : (t : TypeName) (a : Asked) (texts : List (List ℕ)) → a.begun ≡ true → (a.named || not (is_named texts)) ≡ true → in_cluster a.interest.cluster (list_says t a.named texts) ≡ a.interest
    → sotw_asked t a texts ≡ a
asked_again t a texts begun named is = (λ i. record { begun = sym begun i; named = named_before a.named (is_named texts) named i; interest = is i })

-- ---- touched names

none_left : (b : Bool) → ((b && not b) || (b && not b)) ≡ false
none_left true = refl
none_left false = refl

none_touched : (n : set.FinSet text_cmp) → set.union (set.difference n n) (set.difference n n) ≡ set.empty
none_touched n = same_texts _ _ (λ q.
    set.contains-union nat_list_cmp_total (set.difference n n) (set.difference n n) q ∙ ap (λ b. b || b) (set.contains-difference nat_list_cmp_total n n q)
    ∙ none_left (set.contains n q) ∙ sym (set.contains-empty text_cmp q))

pub unchanged_touches_nothing : UnchangedTouchesNothing
unchanged_touches_nothing s = (λ i. record { all = exactly_one_of_same s.star i; names = none_touched s.names i })
