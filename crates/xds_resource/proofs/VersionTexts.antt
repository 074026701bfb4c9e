-- Version texts: the dash stands once, so a text names one stamp.
use Rattle.std.proofs.Common.{◌≡◌, ◌≢◌, ℕ, ◌<◌, ◌^◌, List, [], ◌∷◌, ◌++◌, length, get_or, suc, arith, refl, sym, decimal}
use Rattle.std.specs.Prelude.{MatchOption, Option}
use Rattle.std.specs.Borrow.{Bor}
use Rattle.std.specs.Str.Parse.{AllDigits}
use Rattle.std.proofs.lemmas.Str.Parse.{numerals_by_value, tells_digits, not_in_digits}
use Rattle.std.proofs.lemmas.Str.Pattern.{IsSplitOnceResult, split_after}
use Rattle.std.proofs.lemmas.Fmt.{digits_decimal, decimal_injective}
use Rattle.xds_resource.specs.Stamps.{IsStamp, version_text}
use Rattle.xds_resource.proofs.BoolsAndLists.{same_tails}

-- no byte of a list is a dash
abbrev NoDash : List ℕ → Type 0
NoDash bs = (i : ℕ) → i < length bs → get_or bs i 0 ≢ 45

decimal_without_dash : (n : ℕ) → n < 2 ^ 64 → NoDash (decimal n)
decimal_without_dash n small =
    let own = numerals_by_value (AllDigits 10) tells_digits in
    not_in_digits own (decimal n) 45 (digits_decimal own n small) (λ r. omega (arith, r))

-- what stands before the first dash, and what stands after it
same_parts : (xs us ys vs : List ℕ) → NoDash xs → NoDash us → xs ++ 45 ∷ ys ≡ us ++ 45 ∷ vs → (xs ≡ us) × (ys ≡ vs)
same_parts [] [] ys vs no_x no_u e = (refl, (same_tails 45 45 ys vs e).1)
same_parts [] (u ∷ us) ys vs no_x no_u e = absurd (no_u 0 (omega arith) (sym (same_tails 45 u ys (us ++ 45 ∷ vs) e).0))
same_parts (x ∷ xs) [] ys vs no_x no_u e = absurd (no_x 0 (omega arith) (same_tails x 45 (xs ++ 45 ∷ ys) vs e).0)
same_parts (x ∷ xs) (u ∷ us) ys vs no_x no_u e =
    let here = same_tails x u (xs ++ 45 ∷ ys) (us ++ 45 ∷ vs) e in
    let more = same_parts xs us ys vs (λ i lt. no_x (suc i) (omega arith)) (λ i lt. no_u (suc i) (omega arith)) here.1 in
    (λ i. here.0 i ∷ more.0 i, more.1)

-- `split_once` at the dash of a version text gives the two numbers' texts
pub split-version_text : (counter writer : ℕ) (text : List ℕ) (r : Option (Bor (List ℕ) × Bor (List ℕ))) → IsStamp counter writer → text ≡ version_text counter writer
    → IsSplitOnceResult 45 text r → MatchOption r ⊥ (λ x. (x.0.now ≡ decimal counter) × (x.1.now ≡ decimal writer))
split-version_text counter writer text r stamp e split =
    split_after 45 text (decimal counter) (decimal writer) r split (omega arith) e (decimal_without_dash counter (omega (arith, stamp.counter_to)))

-- a version text names one stamp
pub version_text_injective : (c w d v : ℕ) → IsStamp c w → IsStamp d v → version_text c w ≡ version_text d v → (c ≡ d) × (w ≡ v)
version_text_injective c w d v one two e =
    let below_c : c < 2 ^ 64 = omega (arith, one.counter_to) in
    let below_d : d < 2 ^ 64 = omega (arith, two.counter_to) in
    let parts = same_parts (decimal c) (decimal d) (decimal w) (decimal v) (decimal_without_dash c below_c) (decimal_without_dash d below_d) e in (
      decimal_injective c d below_c below_d parts.0,
      decimal_injective w v (omega (arith, one.writer_to)) (omega (arith, two.writer_to)) parts.1,
    )
