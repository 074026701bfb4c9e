-- Places of a list, from 1.
use Rattle.std.proofs.Common.{◌≡◌, ℕ, zero, suc, ◌-◌, ◌<◌, ◌≤◌, List, [], ◌∷◌, length, slice_index_or, Some, None, refl, sym, ap, subst, arith}
use Rattle.xds_world.specs.Worlds.{placed}

pub placed_zero : {X : Type 0} (xs : List X) → placed xs 0 ≡ None
placed_zero [] = refl
placed_zero (x ∷ xs) = refl

placed_beyond : {X : Type 0} (xs : List X) (k : ℕ) → length xs ≤ k → placed xs (suc k) ≡ None
placed_beyond [] k h = refl
placed_beyond (x ∷ xs) zero h = absurd (omega arith)
placed_beyond (x ∷ xs) (suc k) h = placed_beyond xs k (omega arith)

placed_within : {X : Type 0} (xs : List X) (k : ℕ) (x : X) → k < length xs → x ≡ slice_index_or xs k x → placed xs (suc k) ≡ Some x
placed_within [] k x h is = absurd (omega arith)
placed_within (y ∷ ys) zero x h is = ap Some (sym is)
placed_within (y ∷ ys) (suc k) x h is = placed_within ys k x (omega arith) is

less : (k : ℕ) → suc k - 1 ≡ k
less k = omega arith

pub beyond : {X : Type 0} (xs : List X) (p : ℕ) → (p ≡ 0 → ⊥) → length xs ≤ p - 1 → placed xs p ≡ None
beyond xs zero from h = absurd (from refl)
beyond xs (suc k) from h = placed_beyond xs k (subst (λ n. length xs ≤ n) (less k) h)

pub within : {X : Type 0} (xs : List X) (p : ℕ) (x : X) → (p ≡ 0 → ⊥) → p - 1 < length xs → x ≡ slice_index_or xs (p - 1) x → placed xs p ≡ Some x
within xs zero x from h is = absurd (from refl)
within xs (suc k) x from h is = placed_within xs k x (subst (λ n. n < length xs) (less k) h) (subst (λ n. x ≡ slice_index_or xs n x) (less k) is)
