-- The pieces of bytes between marks.
use Rattle.std.proofs.Common.{◌≡◌, ◌==◌, ℕ, List, [], ◌∷◌, Bool, true, false, cond, refl, ap}
use Rattle.std.specs.List.{onto_first}
use Rattle.xds_script.specs.Lines.{pieces}

first_of : (t : Bool) (b : ℕ) (ps : List (List ℕ)) → ((o : List ℕ) × (os : List (List ℕ)) × (ps ≡ o ∷ os))
    → (o : List ℕ) × (os : List (List ℕ)) × (cond t ([] ∷ ps) (onto_first b ps) ≡ o ∷ os)
first_of true b ps there = ([], ps, refl)
first_of false b ps (o, os, is) = (b ∷ o, os, ap (onto_first b) is)

-- there is a piece at least
pub first_piece : (m : ℕ) (bytes : List ℕ) → (o : List ℕ) × (os : List (List ℕ)) × (pieces m bytes ≡ o ∷ os)
first_piece m [] = ([], [], refl)
first_piece m (b ∷ bytes) = first_of (b == m) b (pieces m bytes) (first_piece m bytes)
