-- Texts that are written piece by piece.
use Rattle.std.proofs.Common.{◌≡◌, ◌∙◌, ◌++◌, ℕ, List, sym, append_assoc}

pub joined_three : (a b c : List ℕ) → a ++ (b ++ c) ≡ a ++ b ++ c
joined_three a b c = sym (append_assoc a b c)

pub joined_four : (a b c d : List ℕ) → a ++ (b ++ (c ++ d)) ≡ a ++ b ++ c ++ d
joined_four a b c d = sym (append_assoc (a ++ b) c d ∙ append_assoc a b (c ++ d))
