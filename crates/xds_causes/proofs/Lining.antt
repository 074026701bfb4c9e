-- The words of the lines of scripts and of traces.
use Rattle.std.proofs.Common.{◌≡◌, ◌≢◌, ◌<◌, ◌≤◌, ◌+◌, ◌^◌, ◌∙◌, arith, ℕ, List, [], length, get_or, drop, Bool, true, false, Option, Some, None, Result, Ok, Err, IfOk, refl, sym, ap, subst, ne_eqb}
use Rattle.std.specs.Prelude.{◌&&◌, ◌==◌, bytes_eq, decimal, is_some, nat_le, String, string_bytes}
use Rattle.std.specs.declared.alloc.Global.{Global}
use Rattle.std.specs.List.{position_or_len}
use Rattle.std.specs.Str.Parse.{digits_value}
use Rattle.std.proofs.lemmas.Fmt.{decimal_is_IsNumeral}
use Rattle.std.proofs.lemmas.List.{at_drop_all, take_all}
use Rattle.std.proofs.lemmas.List.Sums.{position_or_len_is}
use Rattle.xds_resource.proofs.NameMaps.{bytes_eq_same}
use Rattle.xds_check.specs.Words.{max_stream}
use Rattle.xds_script.specs.Words.{number_in}
use Rattle.xds_script.proofs.ShortNumbers.{number_in-none}
use Rattle.xds_causes.specs.declared.messages.Message.{Message}
use Rattle.xds_causes.specs.Told.{IsMessageTold, Text}
use Rattle.xds_causes.specs.ToldLines.{IsKindTold, IsOfMessageTold, behind, first_word, from_brace, is_brace, is_space, is_stream, message_of}
use Rattle.xds_causes.proofs.Causing.{some_if}

-- a text without a space is one word, with nothing behind it
pub one_word : (text : Text) → position_or_len is_space text ≡ length text → (text ≡ first_word text) × ([] ≡ behind text)
one_word text is =
    let all : length text ≤ position_or_len is_space text = omega (arith, is) in
    let beyond : length text ≤ position_or_len is_space text + 1 = omega (arith, is) in
    (sym (take_all (position_or_len is_space text) text all), sym (at_drop_all (λ (xs : Text). xs) text (position_or_len is_space text + 1) beyond))

-- a number is one of a stream where it is within the bounds
pub stream_some : (n : ℕ) (w : Text) → (n < 2 ^ 64) × (w ≡ decimal n) → (nat_le 1 n && nat_le n max_stream) ≡ is_stream w
stream_some n w is =
    let value : digits_value 10 w ≡ n = ap (digits_value 10) is.1 ∙ (decimal_is_IsNumeral n is.0).1 in
    let same : bytes_eq w (decimal n) ≡ true = subst (λ (x : Text). bytes_eq w x ≡ true) is.1 (bytes_eq_same w) in
    sym (
    some_if (bytes_eq w (decimal (digits_value 10 w)) && (nat_le 1 (digits_value 10 w) && nat_le (digits_value 10 w) max_stream)) (digits_value 10 w)
    ∙ ap (λ v. bytes_eq w (decimal v) && (nat_le 1 v && nat_le v max_stream)) value ∙ ap (λ b. b && (nat_le 1 n && nat_le n max_stream)) same
    )

-- a word that is no number is none of a stream
pub stream_none : (w : Text) (r : Option ℕ) → ((n : ℕ) → n < 2 ^ 64 → w ≡ decimal n → r ≡ Some n) → r ≡ None → false ≡ is_stream w
stream_none w r all none =
    sym (ap is_some (number_in-none 1 max_stream w (λ n e from to. let there : r ≡ Some n = all n (omega (arith, to)) e in absurd cc)))

-- the first brace
not_brace : (b : ℕ) → b ≢ 123 → is_brace b ≡ false
not_brace b isnt = ne_eqb b 123 isnt

pub at_brace : (text : Text) (i : ℕ) → (i < length text) × (get_or text i 0 ≡ 123) × ((k : ℕ) → k < i → get_or text k 0 ≢ 123) → drop i text ≡ from_brace text
at_brace text i is =
    let place : position_or_len is_brace text ≡ i = position_or_len_is is_brace text i 0 (omega (arith, is.0)) (λ k less. not_brace (get_or text k 0) (is.2 k less)) (λ _. ap is_brace is.1) in
    sym (ap (λ n. drop n text) place)

pub no_brace : (text : Text) → ((k : ℕ) → k < length text → get_or text k 0 ≢ 123) → [] ≡ from_brace text
no_brace text none =
    let place : position_or_len is_brace text ≡ length text = position_or_len_is is_brace text (length text) 0 (omega arith) (λ k less. not_brace (get_or text k 0) (none k less)) (λ less. absurd (omega (arith, less))) in
    sym (at_drop_all (λ (xs : Text). xs) text (position_or_len is_brace text) (omega (arith, place)))

-- what is told of the JSON behind a number that says a message
pub kind_message : {E : Type 0} (rest kind json bytes : Text) (b : Bool) (m : Message) (r : Result (String Global) E) → kind ≡ first_word rest → json ≡ behind rest → bytes ≡ json → message_of kind b ≡ Some m
    → IfOk r (λ t. IsMessageTold bytes m (string_bytes t)) → IfOk r (λ t. IsKindTold rest b (string_bytes t))
kind_message rest kind json bytes b m (Ok t) is_kind is_json is_bytes says told =
    let there : message_of (first_word rest) b ≡ Some m = ap (λ (k : Text). message_of k b) (sym is_kind) ∙ says in
    subst (λ (o : Option Message). IsOfMessageTold (first_word rest) (behind rest) b o (string_bytes t)) (sym there)
    (subst (λ (x : Text). IsMessageTold x m (string_bytes t)) (is_bytes ∙ is_json) told)
kind_message rest kind json bytes b m (Err e) is_kind is_json is_bytes says told = tt
