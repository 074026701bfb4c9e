-- Where the last line of some bytes begins.
use Rattle.std.proofs.Common.{Bool, true≢false, ◌≡◌, ◌∙◌, ℕ, List, [], ◌∷◌, ◌++◌, length, false, inr, refl, ap, sym, append_assoc}
use Rattle.std.specs.Prelude.{◌==◌}
use Rattle.xds_program.specs.SoFar.{EndsLine}

-- the bytes are whole lines, and then what is left
pub record IsLeft (bytes rest : List ℕ) : Type 0 where
  pub front : List ℕ
  pub parts : bytes ≡ front ++ rest
  pub whole : EndsLine front
  pub some : rest ≡ [] → front ≡ []

-- what isn't empty is something
pub is_some_text : (following : List ℕ) (empty : Bool) → empty ≡ (length following == 0) → empty ≡ false → following ≡ [] → ⊥
is_some_text [] empty is isnt none = true≢false (sym is ∙ isnt)
is_some_text (b ∷ bs) empty is isnt none = cc

-- a line more is whole
pub left_more : (bytes rest line following : List ℕ) → IsLeft bytes rest → rest ≡ line ++ 10 ∷ following → (following ≡ [] → ⊥) → IsLeft bytes following
left_more bytes rest line following l split more = record {
  front = (l.front ++ line) ++ 10 ∷ [];
  parts = l.parts ∙ ap (λ (r : List ℕ). l.front ++ r) split ∙ sym (append_assoc l.front line (10 ∷ following)) ∙ sym (append_assoc (l.front ++ line) (10 ∷ []) following);
  whole = inr (l.front ++ line, refl);
  some = λ none. absurd (more none);
}
