-- What a list of replicas is after one of them was given an end.
use Rattle.std.proofs.Common.{◌≡◌, ◌≢◌, ◌<◌, ◌≤◌, inl, inr, ℕ, zero, suc, List, [], ◌∷◌, ◌++◌, length, Bool, true, false, Some, refl, sym, ap, subst, ◌∙◌, append-nil, length-set, eq-eqb, ne_eqb, arith}
use Rattle.std.specs.Prelude.{◌⊎◌, ◌==◌, slice_get, slice_set, slice_index_or}
use Rattle.std.proofs.lemmas.Option.{slice_get_within, slice_get-get_or, same_Some}
use Rattle.std.proofs.lemmas.Bool.{false≢true}
use Rattle.std.proofs.Math.Nat.{lt_of_not-le}
use Rattle.xds_machine.specs.declared.wires.Bound.{Bound}
use Rattle.xds_machine.specs.Wiring.{AllChange, GainsSend, GainsTake, Joins, given}

-- an element is set, and the others stay
set_tells : {X : Type 0} (xs : List X) (i : ℕ) (y x : X) → slice_get xs i ≡ Some x
    → (k : ℕ) (b c : X) → slice_get xs k ≡ Some b → slice_get (slice_set xs i y) k ≡ Some c → ((k ≡ i) × (b ≡ x) × (c ≡ y)) ⊎ ((k ≢ i) × (b ≡ c))
set_tells [] i y x at k b c old new = absurd cc
set_tells (z ∷ zs) zero y x at zero b c old new = inl (refl, same_Some b x (sym old ∙ at), same_Some c y (sym new))
set_tells (z ∷ zs) zero y x at (suc k) b c old new = inr ((λ e. omega (arith, e)), same_Some b c (sym old ∙ new))
set_tells (z ∷ zs) (suc i) y x at zero b c old new = inr ((λ e. omega (arith, e)), same_Some b c (sym old ∙ new))
set_tells (z ∷ zs) (suc i) y x at (suc k) b c old new = elim (set_tells zs i y x at k b c old new) [
  | inl here ↦ inl (ap suc here.0, here.1, here.2)
  | inr there ↦ inr ((λ e. there.0 (omega (arith, e))), there.1)
]

set_changes : {X : Type 0} (R : Bool → X → X → Type 0) → ((x : X) → R false x x) → (xs : List X) (i : ℕ) (y x : X) → slice_get xs i ≡ Some x → R true x y
    → (k : ℕ) (b c : X) → slice_get xs k ≡ Some b → slice_get (slice_set xs i y) k ≡ Some c → R (k == i) b c
set_changes R stays xs i y x at now k b c old new = elim (set_tells xs i y x at k b c old new) [
  | inl here ↦ subst (λ is. R is b c) (sym (eq-eqb k i here.0)) (subst (R true b) (sym here.2) (subst (λ v. R true v y) (sym here.1) now))
  | inr there ↦ subst (λ is. R is b c) (sym (ne_eqb k i there.0)) (subst (R false b) there.1 (stays b))
]

-- where nothing is there, nothing changes
none_changes : {X : Type 0} (R : Bool → X → X → Type 0) → ((x : X) → R false x x) → (xs : List X) (i : ℕ) → length xs ≤ i
    → (k : ℕ) (b c : X) → slice_get xs k ≡ Some b → slice_get xs k ≡ Some c → R (k == i) b c
none_changes R stays xs i none k b c old new =
    let within = slice_get_within xs k b old in
    subst (λ is. R is b c) (sym (ne_eqb k i (λ e. omega (arith, e, none, within)))) (subst (R false b) (same_Some b c (sym old ∙ new)) (stays b))

pub is_past : (n m i : ℕ) → n ≡ m → (i < n → false ≡ true) → m ≤ i
is_past n m i same none =
    let below = lt_of_not-le {n = suc i} {m = m} (λ over. false≢true (none (omega (arith, same, over)))) in
    omega (arith, below)

module _ {L C S T : Type 0} where
  no_send : (s : S) (b : Bound L C S T) → GainsSend false s b b
  no_send s b = record { sockets = refl; changes = refl; sends = sym (append-nil _); takes = refl }

  no_take : (t : T) (b : Bound L C S T) → GainsTake false t b b
  no_take t b = record { sockets = refl; changes = refl; sends = refl; takes = sym (append-nil _) }

  pub one_gives : (s : S) (old : List (Bound L C S T)) (i : ℕ) (b c : Bound L C S T) → slice_get old i ≡ Some b → GainsSend true s b c → AllChange (λ k. GainsSend (k == i) s) old (slice_set old i c)
  one_gives s old i b c at gains = record { count = length-set old i c; each = λ k x y. set_changes (λ is. GainsSend is s) (no_send s) old i c b at gains k x y }

  pub none_gives : (s : S) (old : List (Bound L C S T)) (i : ℕ) → length old ≤ i → AllChange (λ k. GainsSend (k == i) s) old old
  none_gives s old i none = record { count = refl; each = λ k x y. none_changes (λ is. GainsSend is s) (no_send s) old i none k x y }

  pub one_hands : (t : T) (old : List (Bound L C S T)) (i : ℕ) (b c : Bound L C S T) → slice_get old i ≡ Some b → GainsTake true t b c → AllChange (λ k. GainsTake (k == i) t) old (slice_set old i c)
  one_hands t old i b c at gains = record { count = length-set old i c; each = λ k x y. set_changes (λ is. GainsTake is t) (no_take t) old i c b at gains k x y }

  pub none_hands : (t : T) (old : List (Bound L C S T)) (i : ℕ) → length old ≤ i → AllChange (λ k. GainsTake (k == i) t) old old
  none_hands t old i none = record { count = refl; each = λ k x y. none_changes (λ is. GainsTake is t) (no_take t) old i none k x y }

  -- one is given an end to tell by, and then one is given an end to be told by
  pub both_change : (from to : ℕ) (s : S) (t : T) (old middle new : List (Bound L C S T)) → AllChange (λ k. GainsSend (k == from) s) old middle → AllChange (λ k. GainsTake (k == to) t) middle new → Joins from to s t old new
  both_change from to s t old middle new gives hands = record {
    count = hands.count ∙ gives.count;
    each = λ k b d here there.
        let within = slice_get_within old k b here in
        let between = slice_get-get_or middle k b (omega (arith, within, gives.count)) in
        let first = gives.each k b (slice_index_or middle k b) here between in
        let second = hands.each k (slice_index_or middle k b) d between there in
        record {
          sockets = second.sockets ∙ first.sockets;
          changes = second.changes ∙ first.changes;
          sends = ap (λ v. v.items) second.sends ∙ first.sends;
          takes = second.takes ∙ ap (λ v. v.items ++ given (k == to) t) first.takes;
        };
  }
