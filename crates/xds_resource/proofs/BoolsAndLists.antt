-- Booleans, options and lists: what the library's lemmas don't say of them.
use Rattle.std.proofs.Common.{◌≡◌, ℕ, ◌+◌, ◌<◌, ◌≤◌, List, [], ◌∷◌, length, take, drop, get_or, Bool, true, false, cond, not, Option, Some, None, refl, sym, ap, ◌∙◌, arith, length-take}
use Rattle.std.specs.Prelude.{T, ◌&&◌, Contains}
use Rattle.std.specs.Option.{option_or, option_map}
use Rattle.std.proofs.lemmas.List.{drop_more}

-- ---- Booleans

pub holds_first : (a b : Bool) → T (a && b) → T a
holds_first true b h = tt
holds_first false b h = h

pub holds_second : (a b : Bool) → T (a && b) → T b
holds_second true b h = h
holds_second false b h = absurd h

pub both_false : (a b : Bool) → (not a && not b) ≡ true → (a ≡ false) × (b ≡ false)
both_false true b is = absurd cc
both_false false true is = absurd cc
both_false false false is = (refl, refl)

pub true_together : (a b : Bool) → (a ≡ true → b ≡ true) → (b ≡ true → a ≡ true) → a ≡ b
true_together true b there back = sym (there refl)
true_together false true there back = back refl
true_together false false there back = refl

-- ---- options

pub option_or-None : {X : Type 0} (o : Option X) → option_or o None ≡ o
option_or-None None = refl
option_or-None (Some x) = refl

pub option_map-twice : {X Y Z : Type 0} (f : X → Y) (g : Y → Z) (o : Option X) → option_map (λ x. g (f x)) o ≡ option_map g (option_map f o)
option_map-twice f g None = refl
option_map-twice f g (Some x) = refl

-- ---- lists

pub same_tails : (x y : ℕ) (xs ys : List ℕ) → x ∷ xs ≡ y ∷ ys → (x ≡ y) × (xs ≡ ys)
same_tails x y xs ys e = (cc, cc)

pub none_in : {X : Type 0} (x : X) → Contains [] x → ⊥
none_in x h = let below = h.1 in absurd (omega (arith, below))

-- what is left of a list begins with the element that was read there
pub drop_here : {A : Type 0} (xs : List A) (i : ℕ) (x d : A) → i < length xs → x ≡ get_or xs i d → drop i xs ≡ x ∷ drop (i + 1) xs
drop_here xs i x d within is = drop_more xs i d within ∙ ap (λ y. y ∷ drop (i + 1) xs) (sym is)

pub shorter_if : (b : Bool) (n : ℕ) (bs : List ℕ) → length (cond b (take n bs) bs) ≤ length bs
shorter_if true n bs = omega (arith, length-take n bs)
shorter_if false n bs = omega arith
