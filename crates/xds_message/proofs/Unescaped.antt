-- A text that stands in quotes as it is.
use Rattle.std.proofs.Common.{◌≡◌, ◌∷◌, [], ◌++◌, ◌==◌, ◌||◌, ℕ, List, true, refl, ap}
use Rattle.std.proofs.lemmas.Bool.{and_parts, or_parts, not-true, eqb-false, ltb-false}
use Rattle.std.specs.List.{list_all}
use Rattle.json.specs.Run.{is_stop, is_plain}
use Rattle.json.specs.Print.{escape, quoted}
use Rattle.json.proofs.Printed.Strings.{escape_byte_plain}

pub plain_stays : (s : List ℕ) → list_all is_plain s ≡ true → escape s ≡ s
plain_stays [] all = refl
plain_stays (x ∷ s) all =
    let none = or_parts ((x == 34) || (x == 92)) _ (not-true (is_stop x) (and_parts (is_plain x) _ all).0) in
    let tests = or_parts (x == 34) _ none.0 in
    let rest = plain_stays s (and_parts (is_plain x) _ all).1 in
    λ i. escape_byte_plain x (eqb-false x 34 tests.0) (eqb-false x 92 tests.1) (ltb-false x 32 none.1) i ++ rest i

-- so its quotes are all that stands round it
pub plain_quoted : (s : List ℕ) → list_all is_plain s ≡ true → quoted s ≡ 34 ∷ (s ++ 34 ∷ [])
plain_quoted s all = ap (λ (t : List ℕ). 34 ∷ (t ++ 34 ∷ [])) (plain_stays s all)
