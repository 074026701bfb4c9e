-- When a word is the shortest decimal of a number in a range.
use Rattle.std.proofs.Common.{◌≡◌, ◌≤◌, ◌<◌, ◌^◌, ℕ, List, Bool, true, false, cond, Some, None, refl, ap, ◌∙◌, subst}
use Rattle.std.specs.Prelude.{bytes_eq, nat_le, decimal, ◌&&◌}
use Rattle.std.specs.Str.Parse.{digits_value}
use Rattle.std.proofs.lemmas.Bool.{leb-true, le-leb}
use Rattle.std.proofs.lemmas.Fmt.{decimal_is_IsNumeral}
use Rattle.xds_resource.proofs.NameMaps.{bytes_eq_same, bytes_eq_tells}
use Rattle.xds_script.specs.Words.{number_in}

all_true : (a b c : Bool) → a ≡ true → b ≡ true → c ≡ true → (a && (b && c)) ≡ true
all_true a b c h i j = rw (h, i, j) refl

each_true : (a b c : Bool) → (a && (b && c)) ≡ true → (a ≡ true) × (b ≡ true) × (c ≡ true)
each_true true true true h = (refl, refl, refl)
each_true true true false h = (refl, refl, h)
each_true true false c h = (refl, h, cc)
each_true false b c h = (h, cc, cc)

unless_true : (b : Bool) (n : ℕ) → (b ≡ true → ⊥) → cond b (Some n) None ≡ None
unless_true true n refuted = absurd (refuted refl)
unless_true false n refuted = refl

-- the number whose decimal the word is
pub number_in-decimal : (least most n : ℕ) (w : List ℕ) → w ≡ decimal n → n < 2 ^ 64 → least ≤ n → n ≤ most → number_in least most w ≡ Some n
number_in-decimal least most n w e small from to =
    let value : digits_value 10 w ≡ n = ap (digits_value 10) e ∙ (decimal_is_IsNumeral n small).1 in
    let same : bytes_eq w (decimal n) ≡ true = subst (λ (x : List ℕ). bytes_eq w x ≡ true) e (bytes_eq_same w) in
    ap (λ v. cond (bytes_eq w (decimal v) && (nat_le least v && nat_le v most)) (Some v) None) value
    ∙ ap (λ b. cond b (Some n) None) (all_true _ _ _ same (le-leb least n from) (le-leb n most to))

-- no number, where the word is the decimal of none in the range
pub number_in-none : (least most : ℕ) (w : List ℕ) → ((n : ℕ) → w ≡ decimal n → least ≤ n → n ≤ most → ⊥) → number_in least most w ≡ None
number_in-none least most w refuted =
    unless_true _ (digits_value 10 w)
    (λ passed.
    let parts = each_true _ _ _ passed in
    refuted (digits_value 10 w) (bytes_eq_tells w (decimal (digits_value 10 w)) parts.0) (leb-true least (digits_value 10 w) parts.1) (leb-true (digits_value 10 w) most parts.2))
