-- Small facts on tests, on lists of names and on numbers.
use Rattle.std.proofs.Common.{◌≡◌, ℕ, ◌≤◌, List, [], ◌∷◌, Bool, true, false, ◌||◌, refl, ap, ◌∙◌, arith}
use Rattle.std.specs.Prelude.{bytes_eq}
use Rattle.std.specs.List.{list_any}
use Rattle.xds_resource.proofs.NameMaps.{has_text, bytes_eq_tells}

-- a test that no name passes
pub none_passes : (p : List ℕ → Bool) → ((name : List ℕ) → p name ≡ false) → (names : List (List ℕ)) → list_any p names ≡ false
none_passes p fails [] = refl
none_passes p fails (n ∷ ns) = (λ i. fails n i || none_passes p fails ns i)

pub first_false : (a b : Bool) → (a || b) ≡ false → a ≡ false
first_false true b e = absurd cc
first_false false b e = refl

pub second_false : (a b : Bool) → (a || b) ≡ false → b ≡ false
second_false true b e = absurd cc
second_false false b e = e

fails_at : (p : List ℕ → Bool) (n : List ℕ) (ns : List (List ℕ)) (q : List ℕ) (b : Bool) → bytes_eq q n ≡ b → p n ≡ false → (has_text ns q ≡ true → p q ≡ false) → (b || has_text ns q) ≡ true → p q ≡ false
fails_at p n ns q true here fails later e = ap p (bytes_eq_tells q n here) ∙ fails
fails_at p n ns q false other fails later e = later e

-- a listed name fails a test that no listed name passes
pub listed_fails : (p : List ℕ → Bool) (names : List (List ℕ)) (q : List ℕ) → list_any p names ≡ false → has_text names q ≡ true → p q ≡ false
listed_fails p [] q none e = absurd cc
listed_fails p (n ∷ ns) q none e = fails_at p n ns q (bytes_eq q n) refl (first_false (p n) _ none) (listed_fails p ns q (second_false (p n) _ none)) e

pub le-zero : (n : ℕ) → 0 ≤ n
le-zero n = omega arith

pub le-itself : (n : ℕ) → n ≤ n
le-itself n = omega arith

pub le-onward : (a b c : ℕ) → a ≤ b → b ≤ c → a ≤ c
le-onward a b c first second = omega arith
