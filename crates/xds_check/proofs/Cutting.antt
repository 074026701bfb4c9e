-- Texts that are cut at their first space.
use Rattle.std.proofs.Common.{◌≡◌, ◌<◌, ◌+◌, ℕ, suc, List, [], ◌∷◌, ◌++◌, length, take, drop, Bool, true, false, cond, not, Option, Some, None, Bor, refl, ap, sym, ◌∙◌, arith}
use Rattle.std.proofs.lemmas.Bool.{or_parts}
use Rattle.std.specs.Prelude.{◌==◌, MatchOption}
use Rattle.std.specs.List.{before_first, after_first, position_or_len, list_any}
use Rattle.std.specs.Option.{option_map}
use Rattle.xds_check.specs.Words.{space, cut}

abbrev is_space : ℕ → Bool
is_space b = b == space

none_step : (b k : ℕ) (bs : List ℕ) (t : Bool) → cond (not t) (1 + k) 0 ≡ suc (length bs) → (k ≡ length bs → cut bs ≡ None)
    → cond {A = Option (List ℕ × List ℕ)} t (Some ([], bs)) (option_map (λ p. (b ∷ p.0, p.1)) (cut bs)) ≡ None
none_step b k bs true e later = absurd (omega (arith, e))
none_step b k bs false e later = ap (option_map (λ p. (b ∷ p.0, p.1))) (later (omega (arith, e)))

pub cut-none : (bs : List ℕ) → position_or_len is_space bs ≡ length bs → cut bs ≡ None
cut-none [] e = refl
cut-none (b ∷ bs) e = none_step b (position_or_len is_space bs) bs (is_space b) e (cut-none bs)

parts_step : (b k : ℕ) (bs : List ℕ) → ◌≡◌ {A = Option (List ℕ × List ℕ)} (Some (b ∷ take k bs, drop (k + 1) bs)) (Some (take (1 + k) (b ∷ bs), drop (1 + k + 1) (b ∷ bs)))
parts_step b k bs =
    let one : suc k ≡ 1 + k = omega arith in
    let two : suc (k + 1) ≡ 1 + k + 1 = omega arith in
    λ i. Some (take (one i) (b ∷ bs), drop (two i) (b ∷ bs))

some_step : (b k : ℕ) (bs : List ℕ) (t : Bool) → cond (not t) (1 + k) 0 < suc (length bs) → (k < length bs → cut bs ≡ Some (take k bs, drop (k + 1) bs))
    → cond {A = Option (List ℕ × List ℕ)} t (Some ([], bs)) (option_map (λ p. (b ∷ p.0, p.1)) (cut bs))
    ≡ Some (take (cond (not t) (1 + k) 0) (b ∷ bs), drop (cond (not t) (1 + k) 0 + 1) (b ∷ bs))
some_step b k bs true small later = refl
some_step b k bs false small later = ap (option_map (λ p. (b ∷ p.0, p.1))) (later (omega (arith, small))) ∙ parts_step b k bs

pub cut-some : (bs : List ℕ) → position_or_len is_space bs < length bs → cut bs ≡ Some (before_first is_space bs, after_first is_space bs)
cut-some [] small = absurd (omega (arith, small))
cut-some (b ∷ bs) small = some_step b (position_or_len is_space bs) bs (is_space b) small (cut-some bs)

-- what `split_once` gives
pub cut_is : (bs : List ℕ) (r : Option (Bor (List ℕ) × Bor (List ℕ))) → MatchOption r (position_or_len is_space bs ≡ length bs) (λ x. (position_or_len is_space bs < length bs) × (x.0.now ≡ before_first is_space bs) × (x.1.now ≡ after_first is_space bs))
    → option_map (λ p. (p.0.now, p.1.now)) r ≡ cut bs
cut_is bs None e = sym (cut-none bs e)
cut_is bs (Some x) e = (λ i. Some (e.1 i, e.2 i)) ∙ sym (cut-some bs e.0)

-- ---- texts that were joined

joined_step : (b : ℕ) (bs rest : List ℕ) (t : Bool) → t ≡ false → cut (bs ++ space ∷ rest) ≡ Some (bs, rest)
    → cond {A = Option (List ℕ × List ℕ)} t (Some ([], bs ++ space ∷ rest)) (option_map (λ p. (b ∷ p.0, p.1)) (cut (bs ++ space ∷ rest))) ≡ Some (b ∷ bs, rest)
joined_step b bs rest true e later = cc
joined_step b bs rest false e later = ap (option_map (λ p. (b ∷ p.0, p.1))) later

-- a word without a space, and a space behind it
pub cut-joined : (word rest : List ℕ) → list_any is_space word ≡ false → cut (word ++ space ∷ rest) ≡ Some (word, rest)
cut-joined [] rest e = refl
cut-joined (b ∷ bs) rest e =
    let parts = or_parts (is_space b) (list_any is_space bs) e in
    joined_step b bs rest (is_space b) parts.0 (cut-joined bs rest parts.1)
