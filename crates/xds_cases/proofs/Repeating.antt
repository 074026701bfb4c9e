-- Repeats that are written out one after another.
use Rattle.std.proofs.Common.{◌≡◌, ◌≢◌, ℕ, zero, suc, get_or, ◌+◌, ◌<◌, ◌^◌, Bool, true, false, cond, List, [], ◌∷◌, ◌++◌, length, refl, sym, ap, subst, ◌∙◌, arith, append_assoc, append-nil, codes}
use Rattle.std.specs.Prelude.{Option, Some, None, Result, Ok, Err, ok_or, option_and_then, nat_lt, ◌&&◌, replicate}
use Rattle.std.specs.Option.{option_map, option_map_or}
use Rattle.std.specs.Result.{result_ok}
use Rattle.std.specs.List.{concat}
use Rattle.std.specs.Str.{all_ascii_digits}
use Rattle.std.specs.Str.Parse.{ParsesUnsigned, IsNumeral, digits_value, without_leading_plus}
use Rattle.std.proofs.lemmas.Str.Parse.{IsNumeralModel, numerals_by_value, tells_all_ascii_digits}
use Rattle.std.proofs.lemmas.Grind.{replicate_next}
use Rattle.std.proofs.lemmas.List.Folds.{concat-append}
use Rattle.std.proofs.lemmas.Bool.Decides.{nat_tests}
use Rattle.xds_cases.specs.Texts.{Text, around, pieces}
use Rattle.xds_resource.specs.Refusals.{Gives}
use Rattle.xds_resource.specs.declared.refusal.Refusal.{Refusal}
use Rattle.xds_resource.specs.declared.refusal.Refusal.TheVariants.{OutOfMemory, BadScript}
use Rattle.xds_cases.specs.Cases.{IsRefusal, is_number, number_in, repeat_of, repeats_of, repeated}

-- one text written after another, where both are there
both_written : (start now next : Text) (o p : Option Text) → option_map (λ t. start ++ t) o ≡ Some now → option_map (λ t. now ++ t) p ≡ Some next
    → option_map (λ t. start ++ t) (option_and_then (λ first. option_map (λ more. first ++ more) p) o) ≡ Some next
both_written start now next None p e f = cc
both_written start now next (Some r) None e f = cc
both_written start now next (Some r) (Some m) e f =
    let is : start ++ r ≡ now = cc in
    ap Some (sym (append_assoc start r m) ∙ ap (λ t. t ++ m) is) ∙ f

repeats_of-push : (ts : List Text) (t : Text) → repeats_of (ts ++ t ∷ []) ≡ option_and_then (λ first. option_map (λ more. first ++ more) (repeat_of t)) (repeats_of ts)
repeats_of-push [] t = by (repeat_of t)
  where
    by : (o : Option Text) → option_and_then (λ first. option_map (λ more. first ++ more) (Some [])) o ≡ option_map (λ more. [] ++ more) o
    by None = refl
    by (Some r) = ap Some (append-nil r)
repeats_of-push (s ∷ ts) t = ap (λ o. option_and_then (λ first. option_map (λ more. first ++ more) o) (repeat_of s)) (repeats_of-push ts t) ∙ by (repeat_of s) (repeats_of ts) (repeat_of t)
  where
    by : (o p q : Option Text) → option_and_then (λ first. option_map (λ more. first ++ more) (option_and_then (λ first. option_map (λ more. first ++ more) q) p)) o
        ≡ option_and_then (λ first. option_map (λ more. first ++ more) q) (option_and_then (λ first. option_map (λ more. first ++ more) p) o)
    by None p q = refl
    by (Some a) None q = refl
    by (Some a) (Some b) None = refl
    by (Some a) (Some b) (Some d) = ap Some (sym (append_assoc a b d))

pub repeat_more : (start now next : Text) (ts : List Text) (t : Text) → option_map (λ r. start ++ r) (repeats_of ts) ≡ Some now → option_map (λ r. now ++ r) (repeat_of t) ≡ Some next
    → option_map (λ r. start ++ r) (repeats_of (ts ++ t ∷ [])) ≡ Some next
repeat_more start now next ts t e f = ap (option_map (λ r. start ++ r)) (repeats_of-push ts t) ∙ both_written start now next (repeats_of ts) (repeat_of t) e f

-- the tests of a number: some digits, digits alone, and small enough
tests-pass : (n v m : ℕ) (digits : Bool) → 0 < n → digits ≡ true → v < m → (nat_lt 0 n && (digits && nat_lt v m)) ≡ true
tests-pass n v m digits some are small = grind (arith, nat_tests)

passed-some : (n v m : ℕ) (digits : Bool) → (nat_lt 0 n && (digits && nat_lt v m)) ≡ true → 0 < n
passed-some n v m digits e = grind (arith, nat_tests)

passed-digits : (n v m : ℕ) (digits : Bool) → (nat_lt 0 n && (digits && nat_lt v m)) ≡ true → digits ≡ true
passed-digits n v m digits e = grind (arith, nat_tests)

passed-small : (n v m : ℕ) (digits : Bool) → (nat_lt 0 n && (digits && nat_lt v m)) ≡ true → v < m
passed-small n v m digits e = grind (arith, nat_tests)

digits_model : IsNumeralModel (λ ds. all_ascii_digits ds ≡ true) (digits_value 10)
digits_model = numerals_by_value (λ ds. all_ascii_digits ds ≡ true) tells_all_ascii_digits

is_number-false : (digits : Text) → ¬ (IsNumeral 10 digits × (digits_value 10 digits < 2 ^ 64)) → (b : Bool) → is_number digits ≡ b → b ≡ false
is_number-false digits h false e = refl
is_number-false digits h true e = absurd (h (
  (
    passed-some (length digits) (digits_value 10 digits) (2 ^ 64) (all_ascii_digits digits) e,
    digits_model.to digits (passed-digits (length digits) (digits_value 10 digits) (2 ^ 64) (all_ascii_digits digits) e),
  ),
  passed-small (length digits) (digits_value 10 digits) (2 ^ 64) (all_ascii_digits digits) e,
))

-- the number that `parse` reads
pub number_parsed : {E : Type 0} (text : Text) (r : Result ℕ E) → ParsesUnsigned 64 10 text r → result_ok r ≡ number_in text
unfolding number_in
number_parsed text (Ok n) h =
    let digits : Text = without_leading_plus text in
    let passes : is_number digits ≡ true = tests-pass (length digits) (digits_value 10 digits) (2 ^ 64) (all_ascii_digits digits) h.0.0.0 (digits_model.from digits h.0.0.1) h.0.1 in
    ap Some h.1 ∙ sym (ap (λ b. cond b (Some (digits_value 10 digits)) None) passes)
number_parsed text (Err e) h =
    let digits : Text = without_leading_plus text in
    sym (ap (λ b. cond b (Some (digits_value 10 digits)) None) (is_number-false digits h _ refl))

-- what is refused is refused by the `?` of a call
pub refused_on : {X : Type 0} (view : X → Text) (r : Result X Refusal) (answer : Result Text Refusal) (e refusal : Refusal) → r ≡ Err e → e ≡ refusal → (refusal ≢ OutOfMemory → answer ≡ Err refusal) → Gives view r answer
refused_on view r answer e refusal is same h = subst (λ s. Gives view s answer) (sym (is ∙ ap Err same)) h

-- a text cut at its first `<`, or not cut
pub repeated-none : (text : Text) → None ≡ around (codes "<") text → repeated text ≡ Some text
unfolding repeated
repeated-none text cut = ap (λ o. option_map_or (λ p. option_map (λ repeats. p.0 ++ repeats) (repeats_of (pieces (codes "<") p.1))) o (Some text)) (sym cut)

pub repeated-some : (text before parts all : Text) → Some (before, parts) ≡ around (codes "<") text → option_map (λ r. before ++ r) (repeats_of (pieces (codes "<") parts)) ≡ Some all → repeated text ≡ Some all
unfolding repeated
repeated-some text before parts all cut e = ap (λ o. option_map_or (λ p. option_map (λ repeats. p.0 ++ repeats) (repeats_of (pieces (codes "<") p.1))) o (Some text)) (sym cut) ∙ e

-- a piece written once more
pub written_once_more : (start now next piece : Text) (n : ℕ) → now ≡ start ++ concat (replicate n piece) → next ≡ now ++ piece → next ≡ start ++ concat (replicate (n + 1) piece)
written_once_more start now next piece n e f =
    let more : concat (replicate (n + 1) piece) ≡ concat (replicate n piece) ++ piece =
    ap concat (replicate_next n piece) ∙ concat-append (replicate n piece) (piece ∷ []) ∙ ap (λ (t : Text). concat (replicate n piece) ++ t) (append-nil piece) in
    f ∙ ap (λ (t : Text). t ++ piece) e ∙ append_assoc start (concat (replicate n piece)) piece ∙ ap (λ (t : Text). start ++ t) (sym more)

-- a repeat that is none, among others
repeats_of-none : (ts : List Text) (k : ℕ) (t : Text) → k < length ts → t ≡ get_or ts k t → repeat_of t ≡ None → repeats_of ts ≡ None
repeats_of-none [] k t within is none = absurd (omega arith)
repeats_of-none (s ∷ ts) zero t within is none =
    ap (option_and_then (λ first. option_map (λ more. first ++ more) (repeats_of ts))) (ap repeat_of (sym is) ∙ none)
repeats_of-none (s ∷ ts) (suc k) t within is none =
    ap (λ o. option_and_then (λ first. option_map (λ more. first ++ more) o) (repeat_of s)) (repeats_of-none ts k t (omega arith) is none) ∙ nothing (repeat_of s)
  where
    nothing : (o : Option Text) → option_and_then (λ first. option_map (λ more. first ++ more) None) o ≡ None
    nothing None = refl
    nothing (Some r) = refl

pub repeated-refused : (text before parts : Text) (k : ℕ) (part : Text) (refusal : Refusal) → Some (before, parts) ≡ around (codes "<") text → k < length (pieces (codes "<") parts) → part ≡ get_or (pieces (codes "<") parts) k part
    → IsRefusal (repeat_of part) refusal → refusal ≢ OutOfMemory → ok_or (repeated text) BadScript ≡ Err refusal
unfolding repeated
repeated-refused text before parts k part refusal cut within is h other =
    let bad = h other in
    ap (λ o. ok_or (option_map_or (λ p. option_map (λ repeats. p.0 ++ repeats) (repeats_of (pieces (codes "<") p.1))) o (Some text)) BadScript) (sym cut)
    ∙ ap (λ o. ok_or (option_map (λ repeats. before ++ repeats) o) BadScript) (repeats_of-none (pieces (codes "<") parts) k part within is bad.1) ∙ ap Err (sym bad.0)
