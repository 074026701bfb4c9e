-- A list of texts, read text by text.
use Rattle.std.proofs.Common.{◌≡◌, ℕ, ◌+◌, ◌<◌, List, [], ◌∷◌, ◌++◌, map, take, length, get_or, Bool, true, false, not, ◌||◌, ◌==◌, refl, sym, ap, ◌∙◌, cond, arith, String}
use Rattle.std.specs.List.{list_any}
use Rattle.std.specs.Str.{bytes_eq}
use Rattle.std.specs.String.{string_bytes}
use Rattle.std.proofs.lemmas.List.{map-append, append-nil, take_more}
use Rattle.std.proofs.lemmas.List.Elements.{filter-append}
use Rattle.std.proofs.lemmas.Bool.{or_right, ne_eqb}
use Rattle.std.proofs.Math.Bool.{or-false}
use Rattle.xds_resource.specs.declared.types.TypeName.{TypeName}
use Rattle.xds_interest.specs.Interests.{is_star, has_name, names_among}
use Rattle.xds_interest.specs.SotW.{is_named}

pub or_swap : (a b : Bool) → (a || b) ≡ (b || a)
or_swap true b = sym (or_right b true refl)
or_swap false b = sym (or-false b)

pub or_assoc : (a b c : Bool) → (a || (b || c)) ≡ ((a || b) || c)
or_assoc true b c = refl
or_assoc false b c = refl

-- one text more
pub list_any-push : {X : Type 0} (p : X → Bool) (xs : List X) (x : X) → list_any p (xs ++ x ∷ []) ≡ (list_any p xs || p x)
list_any-push p [] x = or-false (p x)
list_any-push p (y ∷ xs) x = ap (λ b. p y || b) (list_any-push p xs x) ∙ or_assoc (p y) _ _

pub names_among-push_star : (t : TypeName) (xs : List (List ℕ)) (x : List ℕ) → is_star t x ≡ true → names_among t (xs ++ x ∷ []) ≡ names_among t xs
names_among-push_star t xs x starry = filter-append _ xs (x ∷ []) ∙ ap (λ b. names_among t xs ++ cond (not b) (x ∷ []) []) starry ∙ append-nil _

pub has_name-push_name : (t : TypeName) (xs : List (List ℕ)) (x q : List ℕ) → is_star t x ≡ false
    → has_name (names_among t (xs ++ x ∷ [])) q ≡ (has_name (names_among t xs) q || bytes_eq q x)
has_name-push_name t xs x q plain =
    ap (λ l. has_name l q) (filter-append _ xs (x ∷ []) ∙ ap (λ b. names_among t xs ++ cond (not b) (x ∷ []) []) plain) ∙ list_any-push (bytes_eq q) _ x

pub unnamed-by_length : {Y : Type 0} (names : List (String Y)) → (length names == 0) ≡ not (is_named (map string_bytes names))
unnamed-by_length [] = refl
unnamed-by_length (x ∷ xs) = ne_eqb (length (x ∷ xs)) 0 (λ e. omega (arith, e))

pub texts_more : {Y : Type 0} (names : List (String Y)) (n : ℕ) (x : String Y) → n < length names → x ≡ get_or names n x
    → map string_bytes (take (n + 1) names) ≡ map string_bytes (take n names) ++ string_bytes x ∷ []
texts_more names n x within is =
    ap (map string_bytes) (take_more names n x within ∙ ap (λ y. take n names ++ y ∷ []) (sym is)) ∙ map-append string_bytes (take n names) (x ∷ [])
