-- The pieces between bytes of one kind, from the first of them that comes.
use Rattle.std.proofs.Common.{◌≡◌, ◌≢◌, ℕ, zero, suc, ◌<◌, List, [], ◌∷◌, ◌++◌, length, get_or, take, drop, refl, ap, ◌∙◌, arith, ne_eqb}
use Rattle.std.proofs.lemmas.Bool.{eq-eqb}
use Rattle.std.specs.List.{onto_first}
use Rattle.xds_script.specs.Lines.{pieces}

at_mark : (m b : ℕ) (bs : List ℕ) → b ≡ m → pieces m (b ∷ bs) ≡ [] ∷ pieces m bs
at_mark m b bs e = rw (eq-eqb b m e) refl

past_byte : (m b : ℕ) (bs : List ℕ) → b ≢ m → pieces m (b ∷ bs) ≡ onto_first b (pieces m bs)
past_byte m b bs other = rw (ne_eqb b m other) refl

-- the first mark ends the first piece
pub pieces-at_mark : (m : ℕ) (bs : List ℕ) (i : ℕ) → i < length bs → get_or bs i 0 ≡ m → ((k : ℕ) → k < i → get_or bs k 0 ≡ m → ⊥) → pieces m bs ≡ take i bs ∷ pieces m (drop (suc i) bs)
pieces-at_mark m [] i h e none = absurd (omega arith)
pieces-at_mark m (b ∷ bs) zero h e none = at_mark m b bs e
pieces-at_mark m (b ∷ bs) (suc i) h e none =
    past_byte m b bs (none zero (omega arith)) ∙ ap (onto_first b) (pieces-at_mark m bs i (omega arith) e (λ k below. none (suc k) (omega arith)))

-- with no mark, all is one piece
pub pieces-no_mark : (m : ℕ) (bs : List ℕ) → ((k : ℕ) → k < length bs → get_or bs k 0 ≡ m → ⊥) → pieces m bs ≡ bs ∷ []
pieces-no_mark m [] none = refl
pieces-no_mark m (b ∷ bs) none = past_byte m b bs (none zero (omega arith)) ∙ ap (onto_first b) (pieces-no_mark m bs (λ k below. none (suc k) (omega arith)))

-- a mark behind a text without one ends the first piece
pub pieces-joined : (m : ℕ) (xs ys : List ℕ) → ((k : ℕ) → k < length xs → get_or xs k 0 ≢ m) → pieces m (xs ++ m ∷ ys) ≡ xs ∷ pieces m ys
pieces-joined m [] ys none = at_mark m m ys refl
pieces-joined m (x ∷ xs) ys none = past_byte m x (xs ++ m ∷ ys) (none zero (omega arith)) ∙ ap (onto_first x) (pieces-joined m xs ys (λ k below. none (suc k) (omega arith)))
