-- Lists weighed: of two lists, after a change, of a part.
use Rattle.std.proofs.Common.{◌≡◌, ℕ, zero, suc, ◌+◌, ◌≤◌, List, [], ◌∷◌, ◌++◌, length, set, refl, sym, ap, arith}
use mathlib.Core.Option.{some, some-ne-none, some-injective}
use lib.ListN.{get_elem?}
use Rattle.xds_node.specs.Entries.{weigh}

module _ {X : Type 0} where
  pub weigh_append : (h : X → ℕ) (xs ys : List X) → weigh h (xs ++ ys) ≡ weigh h xs + weigh h ys
  weigh_append h [] ys = omega arith
  weigh_append h (x ∷ xs) ys = omega (arith, weigh_append h xs ys)

  -- one element more
  pub weigh_more : (h : X → ℕ) (xs : List X) (x : X) → weigh h (xs ++ x ∷ []) ≡ weigh h xs + h x
  weigh_more h xs x = omega (arith, weigh_append h xs (x ∷ []))

  -- after a change of one element
  pub weigh_set : (h : X → ℕ) (xs : List X) (i : ℕ) (v w : X) → get_elem? xs i ≡ some v → weigh h (set xs i w) + h v ≡ weigh h xs + h w
  weigh_set h [] i v w at = absurd (some-ne-none v (sym at))
  weigh_set h (x ∷ xs) zero v w at = let same : h x ≡ h v = ap h (some-injective x v at) in omega arith
  weigh_set h (x ∷ xs) (suc i) v w at = omega (arith, weigh_set h xs i v w at)

  -- a part weighs no more than the whole
  pub weigh_at : (h : X → ℕ) (xs : List X) (i : ℕ) (v : X) → get_elem? xs i ≡ some v → h v ≤ weigh h xs
  weigh_at h [] i v at = absurd (some-ne-none v (sym at))
  weigh_at h (x ∷ xs) zero v at = let same : h x ≡ h v = ap h (some-injective x v at) in omega arith
  weigh_at h (x ∷ xs) (suc i) v at = let part = weigh_at h xs i v at in omega arith

  pub weigh_length : (xs : List X) → weigh (λ _. 1) xs ≡ length xs
  weigh_length [] = refl
  weigh_length (x ∷ xs) = omega (arith, weigh_length xs)

  -- where nothing weighs anything in one way, and so none in another, all weigh nothing
  none_weighs : (f g : X → ℕ) (xs : List X) → ((j : ℕ) (u : X) → get_elem? xs j ≡ some u → g u ≡ 0 → f u ≡ 0) → weigh g xs ≡ 0 → weigh f xs ≡ 0
  none_weighs f g [] idle none = refl
  none_weighs f g (x ∷ xs) idle none =
      let here = idle zero x refl (omega arith) in
      let others = none_weighs f g xs (λ j u at. idle (suc j) u at) (omega arith) in
      omega arith

  -- where one element has all the weight in one way, and what has none of it has none in another, that element has all the weight in the other, too
  pub only : (f g : X → ℕ) (xs : List X) (i : ℕ) (v : X) → get_elem? xs i ≡ some v → weigh g xs ≡ g v → ((j : ℕ) (u : X) → get_elem? xs j ≡ some u → g u ≡ 0 → f u ≡ 0) → weigh f xs ≡ f v
  only f g [] i v at all idle = absurd (some-ne-none v (sym at))
  only f g (x ∷ xs) zero v at all idle =
      let same = some-injective x v at in
      let weight : g x ≡ g v = ap g same in
      let other : f x ≡ f v = ap f same in
      let others = none_weighs f g xs (λ j u there. idle (suc j) u there) (omega arith) in
      omega arith
  only f g (x ∷ xs) (suc i) v at all idle =
      let part = weigh_at g xs i v at in
      let here = idle zero x refl (omega arith) in
      let others = only f g xs i v at (omega arith) (λ j u there. idle (suc j) u there) in
      omega arith
