-- The texts of what is live, gathered write by write.
use Rattle.std.proofs.Common.{◌≡◌, ℕ, ◌+◌, ◌<◌, ◌≤◌, List, [], ◌∷◌, ◌++◌, drop, length, get_or, Bool, true, false, cond, not, Option, Some, None, refl, sym, ap, ◌∙◌, append_assoc, append-nil}
use Rattle.std.specs.Prelude.{bytes_eq}
use Rattle.std.specs.List.{cons_option}
use Rattle.std.proofs.lemmas.List.{drop_more, drop_all}
use Rattle.xds_resource.specs.Writes.{StampedWrite}
use Rattle.xds_message.specs.Drafts.{with_text}
use Rattle.xds_message.proofs.DraftLemmas.{texts_step}
use Rattle.xds_stats.specs.Sizes.{live_texts, others}

one_text : (body : Option (List ℕ)) (rest : List (List ℕ)) → cons_option body [] ++ rest ≡ cons_option body rest
one_text None rest = refl
one_text (Some b) rest = refl

one_behind : (first : Option (List ℕ)) (texts : List (List ℕ)) (body : Option (List ℕ)) → cons_option first (with_text texts body) ≡ with_text (cons_option first texts) body
one_behind None texts body = refl
one_behind (Some b) texts None = refl
one_behind (Some b) texts (Some c) = refl

alone : (body : Option (List ℕ)) → cons_option body [] ≡ with_text [] body
alone None = refl
alone (Some b) = refl

-- the text of a write behind those of others
pub live_behind : (ws : List StampedWrite) (w : StampedWrite) → live_texts (ws ++ w ∷ []) ≡ with_text (live_texts ws) w.body
live_behind [] w = alone w.body
live_behind (v ∷ vs) w = ap (cons_option v.body) (live_behind vs w) ∙ one_behind v.body (live_texts vs) w.body

-- one write, where it is of another name, and what is left
others_step : (is_other : Bool) (w : StampedWrite) (rest : List StampedWrite)
    → live_texts (cond is_other (w ∷ []) []) ++ live_texts rest ≡ live_texts (cond is_other (w ∷ rest) rest)
others_step true w rest = one_text w.body (live_texts rest)
others_step false w rest = refl

module _ (ws : List StampedWrite) (i : ℕ) where
  next_one : (w : StampedWrite) → i < length ws → w ≡ get_or ws i w → drop i ws ≡ w ∷ drop (i + 1) ws
  next_one w within is = drop_more ws i w within ∙ ap (λ y. y ∷ drop (i + 1) ws) (sym is)

  pub live_more : (w : StampedWrite) (bodies next all : List (List ℕ)) → i < length ws → w ≡ get_or ws i w → next ≡ with_text bodies w.body
      → bodies ++ live_texts (drop i ws) ≡ all → next ++ live_texts (drop (i + 1) ws) ≡ all
  live_more w bodies next all within is made so_far =
      ap (λ (b : List (List ℕ)). b ++ live_texts (drop (i + 1) ws)) made
      ∙ texts_step bodies w.body (live_texts (drop (i + 1) ws))
      ∙ sym (ap (λ l. bodies ++ live_texts l) (next_one w within is))
      ∙ so_far

  pub live_all : (bodies all : List (List ℕ)) → length ws ≤ i → bodies ++ live_texts (drop i ws) ≡ all → bodies ≡ all
  live_all bodies all over so_far = sym (append-nil bodies) ∙ sym (ap (λ l. bodies ++ live_texts l) (drop_all i ws over)) ∙ so_far

  pub others_more : (put w : StampedWrite) (bodies next all : List (List ℕ)) → i < length ws → w ≡ get_or ws i w
      → next ≡ bodies ++ live_texts (others put (w ∷ [])) → bodies ++ live_texts (others put (drop i ws)) ≡ all → next ++ live_texts (others put (drop (i + 1) ws)) ≡ all
  others_more put w bodies next all within is made so_far =
      let rest = others put (drop (i + 1) ws) in
      ap (λ (b : List (List ℕ)). b ++ live_texts rest) made
      ∙ append_assoc bodies (live_texts (others put (w ∷ []))) (live_texts rest)
      ∙ ap (λ (l : List (List ℕ)). bodies ++ l) (others_step (not (bytes_eq w.name put.name)) w rest)
      ∙ sym (ap (λ l. bodies ++ live_texts (others put l)) (next_one w within is))
      ∙ so_far

  pub others_all : (put : StampedWrite) (bodies all : List (List ℕ)) → length ws ≤ i → bodies ++ live_texts (others put (drop i ws)) ≡ all → bodies ≡ all
  others_all put bodies all over so_far = sym (append-nil bodies) ∙ sym (ap (λ l. bodies ++ live_texts (others put l)) (drop_all i ws over)) ∙ so_far
