-- Texts that are cut at a word, and texts with one word in place of another. This project's own.
--     Text          bytes
--     begins_with   whether a text begins with a word; none begins with the empty word
--     around        what stands before the first place of a word in a text, and what stands behind it
--     pieces_past   the pieces of a text behind its first bytes, as many as are passed
--     pieces        what stands between the places of a word in a text, before the first of them and behind the last
--     each_behind   texts in a row, each with this text before it
--     joined        texts in a row, with this text between each two of them
--     replaced      a text, with `by` in each place of a word
--     AreWords      the words of a text, apart by white space
use Rattle.std.specs.Prelude.{◌≡◌, ℕ, zero, suc, ◌<◌, List, [], ◌∷◌, ◌++◌, length, drop, Bool, false, Option, Some, None, if◌then◌else◌, nat_eq}
use Rattle.std.specs.Option.{option_map}
use Rattle.std.specs.List.{starts_with, onto_first}
use Rattle.std.specs.Char.{is_whitespace, is_not_whitespace}
use Rattle.std.specs.Str.{NoCharPasses, EmptyOrStartsWithPassing}

abbrev pub Text : Type 0
Text = List ℕ

-- whether a text begins with a word; none begins with the empty word
abbrev pub begins_with : Text → Text → Bool
begins_with [] text = false
begins_with (b ∷ bs) text = starts_with nat_eq text (b ∷ bs)

-- what stands before the first place of a word in a text, and what stands behind it
abbrev pub around : Text → Text → Option (Text × Text)
around word [] = None
around word (b ∷ bs) = if begins_with word (b ∷ bs) then Some ([], drop (length word) (b ∷ bs)) else option_map (λ p. (b ∷ p.0, p.1)) (around word bs)

-- the pieces of a text behind its first bytes, as many as are passed
abbrev pub pieces_past : Text → ℕ → Text → List Text
pieces_past word passed [] = [] ∷ []
pieces_past word (suc passed) (b ∷ bs) = pieces_past word passed bs
pieces_past word zero (b ∷ bs) = if begins_with word (b ∷ bs) then [] ∷ pieces_past word (length (drop 1 word)) bs else onto_first b (pieces_past word zero bs)

-- what stands between the places of a word in a text, before the first of them and behind the last
abbrev pub pieces : Text → Text → List Text
pieces word text = pieces_past word zero text

-- texts in a row, each with this text before it
abbrev pub each_behind : Text → List Text → Text
each_behind between [] = []
each_behind between (text ∷ texts) = between ++ (text ++ each_behind between texts)

-- texts in a row, with this text between each two of them
abbrev pub joined : Text → List Text → Text
joined between [] = []
joined between (text ∷ texts) = text ++ each_behind between texts

-- a text, with `by` in each place of a word
unfoldable pub replaced : Text → Text → Text → Text
replaced word by text = joined by (pieces word text)

-- the words of a text, apart by white space
abbrev pub AreWords : Text → List Text → Type 0
AreWords text [] = NoCharPasses is_not_whitespace text
AreWords text (word ∷ words) = (gap : Text) × (rest : Text) × (text ≡ gap ++ (word ++ rest)) × NoCharPasses is_not_whitespace gap
    × (0 < length word) × NoCharPasses is_whitespace word × ((more : Text) × EmptyOrStartsWithPassing is_whitespace rest more) × AreWords rest words
