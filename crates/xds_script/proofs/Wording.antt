-- The first word of a line, and what is behind it.
use Rattle.std.proofs.Common.{◌≡◌, ◌≢◌, ◌<◌, arith, ℕ, List, [], ◌∷◌, ◌++◌, length, get_or, Bool, true, false, Bor, Option, Some, None, refl, ap, sym, ◌∙◌}
use Rattle.std.specs.Prelude.{◌==◌, not, is_some}
use Rattle.std.specs.Option.{option_map}
use Rattle.std.specs.List.{join_with_byte}
use Rattle.std.proofs.lemmas.List.Splits.{join_with_byte-slice_split, length-slice_split}
use Rattle.xds_script.specs.Words.{Text, words, words_in, is_empty, split_first, text_of}
use Rattle.xds_script.proofs.Splits.{pieces-joined, pieces-no_mark}

-- a space behind a text without one ends the first word
pub split_first-space : (line w rest : Text) (ws : List Text) → words line ≡ ws → (line ≡ w ++ 32 ∷ rest) × ((k : ℕ) → k < length w → get_or w k 0 ≢ 32) → Some (w, words rest) ≡ split_first ws
split_first-space line w rest ws is parts = ap split_first (sym (pieces-joined 32 w rest parts.1) ∙ sym (ap words parts.0) ∙ is)

-- without a space the line is one word
pub split_first-all : (line : Text) (ws : List Text) → words line ≡ ws → ((k : ℕ) → k < length line → get_or line k 0 ≢ 32) → Some (line, []) ≡ split_first ws
split_first-all line ws is none = ap split_first (sym (pieces-no_mark 32 line none) ∙ is)

text_by : (line : Text) (ws : List Text) → join_with_byte 32 ws ≡ line → 0 < length ws → Some line ≡ text_of ws
text_by line [] e some = absurd (omega (arith, some))
text_by line (w ∷ ws) e some = ap Some (sym e)

-- the words of a line, put together again, are the line
text_of-words : (line : Text) (ws : List Text) → words line ≡ ws → Some line ≡ text_of ws
text_of-words line ws is =
    text_by line ws (ap (join_with_byte 32) (sym is) ∙ join_with_byte-slice_split 32 line)
    (omega (arith, ap length (sym is) ∙ length-slice_split (λ b. b == 32) line))

pub text_of-words_in : (line : Option Text) (ws : List Text) → words_in line ≡ ws → line ≡ text_of ws
text_of-words_in None ws is = ap text_of is
text_of-words_in (Some line) ws is = text_of-words line ws is

empty_by : (line : Text) (ws : List Text) → words line ≡ ws → false ≡ is_empty ws
empty_by line [] is = absurd (omega (arith, ap length (sym is) ∙ length-slice_split (λ b. b == 32) line))
empty_by line (w ∷ ws) is = refl

-- there are no words where there is no line
pub is_none-words_in : (line : Option (Bor Text)) (r : Bool) (ws : List Text) → is_some line ≡ not r → words_in (option_map (λ s. s.now) line) ≡ ws → r ≡ is_empty ws
is_none-words_in None true ws e is = ap is_empty is
is_none-words_in None false ws e is = cc
is_none-words_in (Some line) true ws e is = cc
is_none-words_in (Some line) false ws e is = empty_by line.now ws is
