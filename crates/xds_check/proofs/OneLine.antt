-- What is written for a line holds no line feed, and a number holds no space.
use Rattle.std.proofs.Common.{◌≡◌, ◌≤◌, ◌+◌, ◌/◌, ◌%◌, ℕ, ℤ, pos, negsuc, zero, suc, List, [], ◌∷◌, ◌++◌, Bool, true, false, cond, refl, sym, ap, ◌∙◌, arith, ne_eqb}
use Rattle.std.specs.Prelude.{◌==◌, ◌||◌, nat_lt, decimal}
use Rattle.std.specs.List.{list_any}
use Rattle.std.specs.Char.{digit_char}
use Rattle.std.specs.Fmt.{signed_decimal, digits, digits_onto, digit_glyph}
use Rattle.std.proofs.lemmas.Bool.{ltb-false, true≢false}
use Rattle.std.proofs.lemmas.List.Folds.{list_any-append}
use Rattle.json.specs.Print.{escape_letter, escape_byte, escape, quoted}
use Rattle.serde_json.specs.Data.{Num, unsigned, negative, float, Data, null, boolean, number, string, array, object, Items, no_items, item, Members, no_members, member}
use Rattle.serde_json.specs.Written.{number_text, compact_text, items_text, members_text, comma_if}

-- ---- texts in which no byte passes a test

pub joined_free : (p : ℕ → Bool) (s t : List ℕ) → list_any p s ≡ false → list_any p t ≡ false → list_any p (s ++ t) ≡ false
joined_free p s t a b = list_any-append p s t ∙ (λ i. a i || b i)

pub more_free : (p : ℕ → Bool) (b : ℕ) (s : List ℕ) → p b ≡ false → list_any p s ≡ false → list_any p (b ∷ s) ≡ false
more_free p b s a e = λ i. a i || e i

-- ---- digits

-- a test that no byte from the first digit on passes
abbrev IsLow : (ℕ → Bool) → Type 0
IsLow p = (b : ℕ) → 48 ≤ b → p b ≡ false

glyph_high : (t : Bool) (d : ℕ) → 48 ≤ cond t (48 + d) (87 + d)
glyph_high true d = omega arith
glyph_high false d = omega arith

either_free : (p : ℕ → Bool) (t : Bool) (s r : List ℕ) → list_any p s ≡ false → list_any p r ≡ false → list_any p (cond t s r) ≡ false
either_free p true s r a b = a
either_free p false s r a b = b

onto_free : (p : ℕ → Bool) → IsLow p → (k n : ℕ) (acc : List ℕ) → list_any p acc ≡ false → list_any p (digits_onto k 10 false n acc) ≡ false
onto_free p low zero n acc e = e
onto_free p low (suc k) n acc e =
    let more = more_free p (digit_glyph false (n % 10)) acc (low (digit_glyph false (n % 10)) (glyph_high (nat_lt (n % 10) 10) (n % 10))) e in
    either_free p (n / 10 == 0) (digit_glyph false (n % 10) ∷ acc) (digits_onto k 10 false (n / 10) (digit_glyph false (n % 10) ∷ acc)) more
    (onto_free p low k (n / 10) (digit_glyph false (n % 10) ∷ acc) more)

pub decimal_free : (p : ℕ → Bool) → IsLow p → (n : ℕ) → list_any p (decimal n) ≡ false
unfolding digits
decimal_free p low n = onto_free p low 64 n [] refl

-- ---- line feeds and spaces

feeds_are_low : (b : ℕ) → 48 ≤ b → (b == 10) ≡ false
feeds_are_low b high = ne_eqb b 10 (λ e. omega (arith, high, e))

spaces_are_low : (b : ℕ) → 48 ≤ b → (b == 32) ≡ false
spaces_are_low b high = ne_eqb b 32 (λ e. omega (arith, high, e))

pub number_spaceless : (n : ℕ) → list_any (λ b. b == 32) (decimal n) ≡ false
number_spaceless n = decimal_free (λ b. b == 32) spaces_are_low n

pub number_feedless : (n : ℕ) → list_any (λ b. b == 10) (decimal n) ≡ false
number_feedless n = decimal_free (λ b. b == 10) feeds_are_low n

signed_feedless : (z : ℤ) → list_any (λ b. b == 10) (signed_decimal z) ≡ false
signed_feedless (pos n) = number_feedless n
signed_feedless (negsuc n) = more_free (λ b. b == 10) 45 (decimal (suc n)) refl (number_feedless (suc n))

-- ---- JSON

letter_by : (x : ℕ) (a b c d e f : Bool) → ((x == 34) || (x == 92)) ≡ a → (cond a x (cond b 98 (cond c 102 (cond d 110 (cond e 114 (cond f 116 0))))) == 10) ≡ false
letter_by x true b c d e f h = ne_eqb x 10 (λ is. true≢false (sym h ∙ ap (λ y. (y == 34) || (y == 92)) is))
letter_by x false true c d e f h = refl
letter_by x false false true d e f h = refl
letter_by x false false false true e f h = refl
letter_by x false false false false true f h = refl
letter_by x false false false false false true h = refl
letter_by x false false false false false false h = refl

letter_feedless : (x : ℕ) → (escape_letter x == 10) ≡ false
letter_feedless x = letter_by x ((x == 34) || (x == 92)) (x == 8) (x == 12) (x == 10) (x == 13) (x == 9) refl

digit_feedless : (d : ℕ) → (digit_char d == 10) ≡ false
digit_feedless d = feeds_are_low (digit_char d) (glyph_high (nat_lt d 10) d)

escaped_by : (short low : Bool) (x l a b : ℕ) → (l == 10) ≡ false → (a == 10) ≡ false → (b == 10) ≡ false → nat_lt x 32 ≡ low
    → list_any (λ b. b == 10) (cond short (92 ∷ l ∷ []) (cond low (92 ∷ 117 ∷ 48 ∷ 48 ∷ a ∷ b ∷ []) (x ∷ []))) ≡ false
escaped_by true low x l a b p q r h = more_free (λ b. b == 10) l [] p refl
escaped_by false true x l a b p q r h = more_free (λ b. b == 10) a (b ∷ []) q (more_free (λ b. b == 10) b [] r refl)
escaped_by false false x l a b p q r h = more_free (λ b. b == 10) x [] (ne_eqb x 10 (λ is. omega (arith, ltb-false x 32 h, is))) refl

escape_byte_feedless : (x : ℕ) → list_any (λ b. b == 10) (escape_byte x) ≡ false
unfolding escape_byte
escape_byte_feedless x = escaped_by (nat_lt 0 (escape_letter x)) (nat_lt x 32) x (escape_letter x) (digit_char (x / 16)) (digit_char (x % 16)) (letter_feedless x) (digit_feedless (x / 16)) (digit_feedless (x % 16)) refl

escape_feedless : (s : List ℕ) → list_any (λ b. b == 10) (escape s) ≡ false
escape_feedless [] = refl
escape_feedless (x ∷ xs) = joined_free (λ b. b == 10) (escape_byte x) (escape xs) (escape_byte_feedless x) (escape_feedless xs)

quoted_feedless : (s : List ℕ) → list_any (λ b. b == 10) (quoted s) ≡ false
quoted_feedless s = joined_free (λ b. b == 10) (escape s) (34 ∷ []) (escape_feedless s) refl

number_text_feedless : (n : Num) → list_any (λ b. b == 10) (number_text n) ≡ false
number_text_feedless (unsigned n) = number_feedless n
number_text_feedless (negative z) = signed_feedless z
number_text_feedless (float x) = refl

comma_feedless : (later : Bool) → list_any (λ b. b == 10) (comma_if later) ≡ false
comma_feedless true = refl
comma_feedless false = refl

mutual
  pub compact_feedless : (d : Data) → list_any (λ b. b == 10) (compact_text d) ≡ false
  compact_feedless null = refl
  compact_feedless (boolean true) = refl
  compact_feedless (boolean false) = refl
  compact_feedless (number n) = number_text_feedless n
  compact_feedless (string s) = quoted_feedless s
  compact_feedless (array ds) = items_feedless false ds
  compact_feedless (object ms) = members_feedless false ms

  items_feedless : (later : Bool) (ds : Items) → list_any (λ b. b == 10) (items_text later ds) ≡ false
  items_feedless later no_items = refl
  items_feedless later (item d ds) =
      joined_free (λ b. b == 10) (comma_if later) (compact_text d ++ items_text true ds) (comma_feedless later)
      (joined_free (λ b. b == 10) (compact_text d) (items_text true ds) (compact_feedless d) (items_feedless true ds))

  members_feedless : (later : Bool) (ms : Members) → list_any (λ b. b == 10) (members_text later ms) ≡ false
  members_feedless later no_members = refl
  members_feedless later (member k d ms) =
      joined_free (λ b. b == 10) (comma_if later) (quoted k ++ 58 ∷ (compact_text d ++ members_text true ms)) (comma_feedless later)
      (joined_free (λ b. b == 10) (quoted k) (58 ∷ (compact_text d ++ members_text true ms)) (quoted_feedless k)
      (joined_free (λ b. b == 10) (compact_text d) (members_text true ms) (compact_feedless d) (members_feedless true ms)))
