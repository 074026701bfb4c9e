-- What is wrong of a line, by the words of which its first parts are made.
use Rattle.std.proofs.Common.{◌≡◌, ◌≢◌, ◌<◌, ◌^◌, ℕ, List, [], ◌∷◌, length, Bool, true, false, cond, inl, inr, Option, Some, None, Result, Ok, Err, IfOk, refl, ap, sym, ◌∙◌, Bor, arith, ne_eqb, subst, suc}
use Rattle.std.specs.Prelude.{◌&&◌, ◌||◌, ◌==◌, nat_le, is_some, bytes_eq, decimal, codes}
use Rattle.std.specs.Option.{option_map}
use Rattle.std.specs.List.{onto_first}
use Rattle.std.specs.Str.{IsUtf8}
use Rattle.std.specs.Str.Parse.{digits_value}
use Rattle.std.proofs.lemmas.Fmt.{decimal_is_IsNumeral}
use Rattle.xds_resource.specs.declared.refusal.Refusal.{Refusal}
use Rattle.xds_resource.specs.declared.refusal.Refusal.TheVariants.{OutOfMemory, BadName, BadGroup}
use Rattle.xds_resource.specs.Resources.{IsRefused, NamedBody, parsed}
use Rattle.xds_resource.specs.declared.types.TypeName.{TypeName}
use Rattle.xds_resource.specs.Types.{type_of_word}
use Rattle.xds_resource.proofs.NameMaps.{bytes_eq_same}
use Rattle.xds_script.specs.Lines.{pieces}
use Rattle.xds_script.specs.Words.{Text, space, split_first, words, words_in, replica_number}
use Rattle.xds_script.specs.Commands.{groups_in}
use Rattle.xds_script.proofs.Named.{resource_in-parsed}
use Rattle.xds_script.proofs.ShortNumbers.{number_in-none}
use Rattle.xds_script.proofs.Wording.{text_of-words_in}
use Rattle.xds_causes.specs.declared.cause.Cause.{Cause}
use Rattle.xds_causes.specs.declared.cause.Cause.TheVariants.{UnknownCommand, NoNumber, WrongWords, Refused, UnknownType}
use Rattle.xds_causes.specs.Causes.{IsTextCause, IsResourceCause, IsGroupsCause, IsBehindNumber, IsBehindVerb, IsCauseOf, IsWordsCause, is_verb, name_cause, deletion_cause}
use Rattle.xds_causes.proofs.Pieces.{first_piece}

-- ---- the first word

-- the words are the first one and those behind it
pub split_is : (ws : List Text) (w : Text) (rest : List Text) → split_first ws ≡ Some (w, rest) → ws ≡ w ∷ rest
split_is [] w rest is = absurd cc
split_is (v ∷ vs) w rest is =
    let same : ◌≡◌ {A = Text × List Text} (v, vs) (w, rest) = cc in
    λ i. (same i).0 ∷ (same i).1

-- the words of a text that may be there
abbrev pub words_of : Option (Bor Text) → List Text
words_of o = words_in (option_map (λ (s : Bor Text). s.now) o)

some_words : (o : Option (Bor Text)) (text : Bor Text) → o ≡ Some text → words_of o ≡ words text.now
some_words o text is = ap words_of is

split_of : (o : Option (Bor Text)) (text : Bor Text) (w : Text) (rest : List Text) → o ≡ Some text → split_first (words text.now) ≡ Some (w, rest) → words_of o ≡ w ∷ rest
split_of o text w rest is split = some_words o text is ∙ split_is (words text.now) w rest split

-- ---- numbers

pub some_if : (t : Bool) (v : ℕ) → is_some (cond t (Some v) None) ≡ t
some_if true v = refl
some_if false v = refl

-- a number is one of a replica where it is within the bounds
pub number_some : (n : ℕ) (w : Text) → (n < 2 ^ 64) × (w ≡ decimal n) → (nat_le 1 n && nat_le n 65535) ≡ is_some (replica_number w)
number_some n w is =
    let value : digits_value 10 w ≡ n = ap (digits_value 10) is.1 ∙ (decimal_is_IsNumeral n is.0).1 in
    let same : bytes_eq w (decimal n) ≡ true = subst (λ (x : Text). bytes_eq w x ≡ true) is.1 (bytes_eq_same w) in
    sym (
    some_if (bytes_eq w (decimal (digits_value 10 w)) && (nat_le 1 (digits_value 10 w) && nat_le (digits_value 10 w) 65535)) (digits_value 10 w)
    ∙ ap (λ v. bytes_eq w (decimal v) && (nat_le 1 v && nat_le v 65535)) value ∙ ap (λ b. b && (nat_le 1 n && nat_le n 65535)) same
    )

-- a word that is no number is none
pub number_none : (w : Text) (r : Option ℕ) → ((n : ℕ) → n < 2 ^ 64 → w ≡ decimal n → r ≡ Some n) → r ≡ None → false ≡ is_some (replica_number w)
number_none w r all none =
    sym (ap is_some (number_in-none 1 65535 w (λ n e from to. let there : r ≡ Some n = all n (omega (arith, to)) e in absurd cc)))

-- ---- resources

pub text_cause : (line : Text) (c : Cause) → IsTextCause (Some line) c → IsResourceCause (words line) c
text_cause line c is = subst (λ o. IsTextCause o c) (text_of-words_in (Some line) (words line) refl) is

-- a resource has nothing wrong but what stands around it
pub resource_fine : (line : Text) (t : TypeName) (r : NamedBody) → parsed t line ≡ Ok r → IsResourceCause (words line) WrongWords
resource_fine line t r read = text_cause line WrongWords (inr (ap is_some (resource_in-parsed t line r read), refl))

-- and a text that is refused as one has that wrong
pub resource_refused : {E : Type 0} (line : Text) (e : Refusal) (r : Result Cause E) → (e ≢ OutOfMemory → IsRefused line e) → IfOk r (λ c. (e ≢ OutOfMemory) × (c ≡ Refused e))
    → IfOk r (IsResourceCause (words line))
resource_refused line e (Ok c) refused is = text_cause line c (inl (e, refused is.0, is.1))
resource_refused line e (Err x) refused is = tt

-- ---- groups

pub with_groups : {E : Type 0} (o : Option (Bor Text)) (text : Bor Text) (w : Text) (rest : List Text) (r : Result Cause E) → o ≡ Some text → split_first (words text.now) ≡ Some (w, rest)
    → true ≡ is_some (groups_in w) → IfOk r (IsResourceCause rest) → IfOk r (IsGroupsCause (words_of o))
with_groups o text w rest (Ok c) is split some cause = subst (λ (x : List Text). IsGroupsCause x c) (sym (split_of o text w rest is split)) (inl (sym some, cause))
with_groups o text w rest (Err e) is split some cause = tt

pub no_groups : (o : Option (Bor Text)) (text : Bor Text) (w : Text) (rest : List Text) → o ≡ Some text → split_first (words text.now) ≡ Some (w, rest)
    → false ≡ is_some (groups_in w) → IsGroupsCause (words_of o) (Refused BadGroup)
no_groups o text w rest is split none = subst (λ (x : List Text). IsGroupsCause x (Refused BadGroup)) (sym (split_of o text w rest is split)) (inr (sym none, refl))

-- ---- names

two_words : (o : Text) (os : List Text) → name_cause ([] ∷ o ∷ os) ≡ WrongWords
two_words o os = refl

more : (n : ℕ) → (suc n == 0) ≡ false
more n = ne_eqb (suc n) 0 (λ e. omega (arith, e))

more_words : (b : ℕ) (o : Text) (os : List Text) → name_cause ((b ∷ o) ∷ os) ≡ WrongWords
more_words b o [] = ap (λ t. cond t (Refused BadName) WrongWords) (more (length o))
more_words b o (x ∷ os) = refl

name_by : (t : Bool) (b : ℕ) (ps : List Text) → ((o : Text) × (os : List Text) × (ps ≡ o ∷ os)) → name_cause (cond t ([] ∷ ps) (onto_first b ps)) ≡ WrongWords
name_by true b ps (o, os, is) = ap (λ (x : List Text). name_cause ([] ∷ x)) is ∙ two_words o os
name_by false b ps (o, os, is) = ap (λ (x : List Text). name_cause (onto_first b x)) is ∙ more_words b o os

-- an empty name is none
pub name_words : (name : Text) → name_cause (words name) ≡ cond (length name == 0) (Refused BadName) WrongWords
name_words [] = refl
name_words (b ∷ bs) = name_by (b == space) b (pieces space bs) (first_piece space bs) ∙ sym (ap (λ t. cond t (Refused BadName) WrongWords) (more (length bs)))

pub deletion_unknown : (o : Option (Bor Text)) (text : Bor Text) (w : Text) (rest : List Text) → o ≡ Some text → split_first (words text.now) ≡ Some (w, rest)
    → is_some (type_of_word w) ≡ false → UnknownType ≡ deletion_cause (words_of o)
deletion_unknown o text w rest is split none =
    sym (ap deletion_cause (split_of o text w rest is split) ∙ ap (λ b. cond b (name_cause rest) UnknownType) none)

pub deletion_known : (o : Option (Bor Text)) (text : Bor Text) (w : Text) (rest : List Text) (c : Cause) → o ≡ Some text → split_first (words text.now) ≡ Some (w, rest)
    → is_some (type_of_word w) ≡ true → c ≡ name_cause rest → c ≡ deletion_cause (words_of o)
deletion_known o text w rest c is split some cause =
    cause ∙ sym (ap deletion_cause (split_of o text w rest is split) ∙ ap (λ b. cond b (name_cause rest) UnknownType) some)

-- a name that isn't empty is one
pub name_some : (o : Option (Bor Text)) (name : Bor Text) (empty : Bool) → o ≡ Some name → empty ≡ (length name.now == 0) → empty ≡ false
    → WrongWords ≡ name_cause (words_in (option_map (λ (s : Bor Text). s.now) o))
name_some o name empty is tells none =
    sym (
    ap (λ (x : Option (Bor Text)). name_cause (words_in (option_map (λ (s : Bor Text). s.now) x))) is ∙ name_words name.now
    ∙ ap (λ b. cond b (Refused BadName) WrongWords) (sym tells ∙ none)
    )

-- ---- lines

-- a verb that is none of the first two is the third
pub third_verb : (verb : Text) → is_verb verb ≡ true → bytes_eq verb (codes "put") ≡ false → bytes_eq verb (codes "putin") ≡ false → bytes_eq verb (codes "delete") ≡ true
third_verb verb is put putin =
    sym (
    ap (λ b. (b || bytes_eq verb (codes "putin")) || bytes_eq verb (codes "delete")) put
    ∙ ap (λ b. b || bytes_eq verb (codes "delete")) putin
    ) ∙ is

pub no_verb : (line w : Text) (rest : List Text) → split_first (words line) ≡ Some (w, rest) → is_verb w ≡ false → IsWordsCause (words line) UnknownCommand
no_verb line w rest split none = subst (λ (x : List Text). IsWordsCause x UnknownCommand) (sym (split_is (words line) w rest split)) (inl (none, refl))

module _ (line verb : Text) (behind : Option (Bor Text)) (split : split_first (words line) ≡ Some (verb, words_of behind)) (is : is_verb verb ≡ true) where
  behind_verb : (c : Cause) → IsBehindVerb verb (words_of behind) c → IsWordsCause (words line) c
  behind_verb c cause = subst (λ (x : List Text). IsWordsCause x c) (sym (split_is (words line) verb (words_of behind) split)) (inr (is, cause))

  -- a verb alone lacks words
  pub no_words : behind ≡ None → IsWordsCause (words line) WrongWords
  no_words none = behind_verb WrongWords (subst (λ (x : Option (Bor Text)). IsBehindVerb verb (words_of x) WrongWords) (sym none) refl)

  module _ (text : Bor Text) (some : behind ≡ Some text) (w : Text) (rest : List Text) (again : split_first (words text.now) ≡ Some (w, rest)) where
    pub no_number : is_some (replica_number w) ≡ false → IsWordsCause (words line) NoNumber
    no_number none =
        behind_verb NoNumber (subst (λ (x : List Text). IsBehindVerb verb x NoNumber) (sym (split_of behind text w rest some again)) (inl (none, refl)))

    -- what is wrong behind the number is wrong of the line
    pub behind_number : {E : Type 0} (r : Result Cause E) → is_some (replica_number w) ≡ true → IfOk r (IsBehindNumber verb rest) → IfOk r (IsWordsCause (words line))
    behind_number (Ok c) number cause =
        behind_verb c (subst (λ (x : List Text). IsBehindVerb verb x c) (sym (split_of behind text w rest some again)) (inr (number, cause)))
    behind_number (Err e) number cause = tt

pub behind_put : {E : Type 0} (verb : Text) (ws : List Text) (r : Result Cause E) → bytes_eq verb (codes "put") ≡ true → IfOk r (IsResourceCause ws) → IfOk r (IsBehindNumber verb ws)
behind_put verb ws (Ok c) put is = inl (put, is)
behind_put verb ws (Err e) put is = tt

pub behind_put_in : {E : Type 0} (verb : Text) (ws : List Text) (r : Result Cause E) → bytes_eq verb (codes "putin") ≡ true → IfOk r (IsGroupsCause ws) → IfOk r (IsBehindNumber verb ws)
behind_put_in verb ws (Ok c) putin is = inr (inl (putin, is))
behind_put_in verb ws (Err e) putin is = tt

-- a line is a text
pub line_cause : {E : Type 0} (line text : List ℕ) (r : Result Cause E) → (text ≡ line) × IsUtf8 line → IfOk r (IsWordsCause (words text)) → IfOk r (IsCauseOf line)
line_cause line text (Ok c) is cause = inr (is.1, subst (λ (l : List ℕ). IsWordsCause (words l) c) is.0 cause)
line_cause line text (Err e) is cause = tt
