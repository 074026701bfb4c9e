-- Plain words ask for what they say.
use Rattle.std.proofs.Common.{◌≡◌, ◌==◌, ℕ, Bool, List, [], ◌∷◌, ◌++◌, codes, true, false, refl, sym, subst, inl, inr, cond, drop, Option, Some, None, option_map, arith}
use Rattle.std.specs.Prelude.{pos, neg_ℤ, ◌≤ℤ◌, FitsSigned}
use Rattle.std.specs.Int.{w64}
use Rattle.std.specs.Str.{bytes_eq}
use Rattle.std.specs.Str.Parse.{IsNumeral, digits_value, without_leading_plus}
use Rattle.std.proofs.lemmas.Bool.{ne_eqb}
use Rattle.std.proofs.lemmas.Int.{ints}
use Rattle.std.proofs.lemmas.Str.Parse.{digit_from_value}
use Rattle.clap.specs.Words.{IsSignedIn, Row, Text, first_of, one_of}
use Rattle.clap.specs.Lexer.{long_of, short_of, strip_byte}
use Rattle.clap.specs.ValueTests.{accepts}
use Rattle.clap.specs.declared.builder.value_parser.ValueParser.TheVariants as vp
use Rattle.clap.proofs.OnLiterals.{clap_on_literals}
use Rattle.clap.proofs.ValueTestLemmas.{Accepts-accepts}
use Rattle.xds_program.specs.PlainWords.{AreOptions, AreTraceOptions, AreWords, AsksAnswer, AsksCheck, AsksPlay, IsReplicaText}
use Rattle.xds_program.specs.Laws.{NamesPlainly}
use Rattle.xds_program.specs.declared.tasks.Task.{Task}
use Rattle.xds_program.specs.declared.tasks.Task.TheVariants.{Answer, Play, Check}
use Rattle.xds_program.specs.Words.{Asks, AsksIn, Finds, IsNumber, IsNumberText, is_given}
use Rattle.xds_program.specs.CommandLine.{faults, named_in}
use Rattle.xds_program.proofs.CommandLine.{name_read, number_given}
use Rattle.xds_program.proofs.OneTask.{ask_one}
use Rattle.xds_program.proofs.OnlyRight.{only_answer_words}
use Rattle.xds_program.proofs.Values.{command_is, no_some, number_or_none}

-- ---- the text of a replica's number

-- the text begins with no hyphen, and the option takes it
record IsTaken (t : Text) : Type 0 where
  no_hyphen : strip_byte 45 t ≡ None
  no_dashes : bytes_eq t (codes "--") ≡ false
  no_long : long_of t ≡ None
  no_short : short_of t ≡ None
  fits : accepts false (vp.Signed (pos 1) (pos 65535)) t ≡ true

-- a number does not begin with a hyphen
first_byte : (d : ℕ) (ds : Text) → IsNumeral 10 (without_leading_plus (d ∷ ds)) → (d == 45) ≡ false
first_byte d ds h = ne_eqb d 45 (λ e.
    let at : IsNumeral 10 (without_leading_plus (45 ∷ ds)) = subst (λ x. IsNumeral 10 (without_leading_plus (x ∷ ds))) e h in
    absurd (omega (arith, digit_from_value 45 at.1.0)))

-- what a range from 1 to 65,535 asks of a text, by whether it begins with a hyphen
abbrev InRange : Bool → Text → Type 0
InRange minus t =
    let ds = cond minus (drop 1 t) (without_leading_plus t) in
    let z = cond minus (neg_ℤ (pos (digits_value 10 ds))) (pos (digits_value 10 ds)) in
    IsNumeral 10 ds × FitsSigned w64 z × (pos 1 ≤ℤ z) × (z ≤ℤ pos 65535)

-- the number of a replica is in that range
in_range : (t : Text) (n : ℕ) → IsReplicaText t n → InRange false t
in_range t n h =
    let value = h.value in
    let least = h.least in
    let most = h.most in
    (h.digits, record { sfits = omega arith }, omega (arith, ints), omega (arith, ints))

-- the option takes the number of a replica
is_taken : (t : Text) (n : ℕ) → IsReplicaText t n → IsTaken t
is_taken [] n h = absurd (omega (arith, h.digits.0))
is_taken (d ∷ ds) n h =
    let hyphen = first_byte d ds h.digits in
    let passed : IsSignedIn (pos 1) (pos 65535) (d ∷ ds) = subst (λ b. InRange b (d ∷ ds)) (sym hyphen) (in_range (d ∷ ds) n h) in
    record {
      no_hyphen = rw hyphen refl;
      no_dashes = rw hyphen refl;
      no_long = rw hyphen refl;
      no_short = rw hyphen refl;
      fits = Accepts-accepts false (vp.Signed (pos 1) (pos 65535)) (d ∷ ds) passed;
    }

-- `1` is the text of 1
one : IsReplicaText (codes "1") 1
one = record { digits = (omega arith, (omega arith, tt)); value = refl; least = omega arith; most = omega arith }

-- ---- the forms of the words

-- the words are taken without a fault, name the command, and give its option this value
abbrev Gives : Text → Text → Option Text → List Text → Type 0
Gives command option value words = (number_given option words ≡ Some value) × (faults words ≡ []) × (name_read words ≡ Some command)

-- so they do with the options, and where `--` follows them
abbrev OptionsGive : Text → Text → Option Text → Text → List Text → Type 0
OptionsGive command option value p options = Gives command option value (p ∷ command ∷ options) × Gives command option value (p ∷ command ∷ options ++ codes "--" ∷ [])

-- no option of `answer`: the default number; and of `play`: none
no_replica : (p : Text) → OptionsGive (codes "answer") (codes "replica") (Some (codes "1")) p []
unfolding clap_on_literals
no_replica p = ((refl, refl, refl), (refl, refl, refl))

no_trace : (p : Text) → OptionsGive (codes "play") (codes "trace") None p []
unfolding clap_on_literals
no_trace p = ((refl, refl, refl), (refl, refl, refl))

-- `--replica N`, and `--trace N`
replica_apart : (p t : Text) → IsTaken t → OptionsGive (codes "answer") (codes "replica") (Some t) p (codes "--replica" ∷ t ∷ [])
unfolding clap_on_literals
replica_apart p t h = (
  (rw (h.no_dashes, h.no_long, h.no_short, h.no_hyphen) refl, rw (h.no_dashes, h.no_long, h.no_short, h.fits) refl, refl),
  (rw (h.no_dashes, h.no_long, h.no_short, h.no_hyphen) refl, rw (h.no_dashes, h.no_long, h.no_short, h.fits) refl, refl),
)

trace_apart : (p t : Text) → IsTaken t → OptionsGive (codes "play") (codes "trace") (Some t) p (codes "--trace" ∷ t ∷ [])
unfolding clap_on_literals
trace_apart p t h = (
  (rw (h.no_dashes, h.no_long, h.no_short, h.no_hyphen) refl, rw (h.no_dashes, h.no_long, h.no_short, h.fits) refl, refl),
  (rw (h.no_dashes, h.no_long, h.no_short, h.no_hyphen) refl, rw (h.no_dashes, h.no_long, h.no_short, h.fits) refl, refl),
)

-- `--replica=N`, and `--trace=N`
replica_joined : (p t : Text) → IsTaken t → OptionsGive (codes "answer") (codes "replica") (Some t) p ((codes "--replica=" ++ t) ∷ [])
unfolding clap_on_literals
replica_joined p t h = ((rw h.no_hyphen refl, rw h.fits refl, refl), (rw h.no_hyphen refl, rw h.fits refl, refl))

trace_joined : (p t : Text) → IsTaken t → OptionsGive (codes "play") (codes "trace") (Some t) p ((codes "--trace=" ++ t) ∷ [])
unfolding clap_on_literals
trace_joined p t h = ((rw h.no_hyphen refl, rw h.fits refl, refl), (rw h.no_hyphen refl, rw h.fits refl, refl))

-- `check`, which has no option
check_alone : (p : Text) → ((faults (p ∷ codes "check" ∷ []) ≡ []) × (name_read (p ∷ codes "check" ∷ []) ≡ Some (codes "check")))
    × ((faults (p ∷ codes "check" ∷ codes "--" ∷ []) ≡ []) × (name_read (p ∷ codes "check" ∷ codes "--" ∷ []) ≡ Some (codes "check")))
unfolding clap_on_literals
check_alone p = ((refl, refl), (refl, refl))

-- ---- what they ask for

-- a text that writes the number of a replica writes that number
number_text : (t : Text) (n : ℕ) → IsReplicaText t n → IsNumberText t n
number_text t n h = record { digits = h.digits; value = h.value; most = h.most }

module _ (command option : Text) (value : Option Text) (options words : List Text) (are : AreWords command options words) where
  -- the words give what their options give
  words_give : OptionsGive command option value are.program options → Gives command option value words
  words_give given = elim are.words_are [
    | inl e ↦ subst (Gives command option value) (sym e) given.0
    | inr e ↦ subst (Gives command option value) (sym e) given.1
  ]

-- a number that is given is found
given_number : (found : Option (Text × List Row)) (command option t : Text) (n : ℕ) → option_map (λ p. p.0) found ≡ Some command
    → option_map (λ p. one_of option p.1) found ≡ Some (Some t) → IsReplicaText t n → (p : Text × List Row) × (found ≡ Some p) × (p.0 ≡ command) × IsNumber p.1 option n
given_number None command option t n name value is = absurd (cc)
given_number (Some p) command option t n name value is =
    let named : p.0 ≡ command = cc in
    let found : one_of option p.1 ≡ Some t = cc in
    (p, refl, named, (t, found, number_text t n is))

-- each form of the options of `answer` gives the number that it names
replica_given : (p : Text) (options : List Text) (n : ℕ) → AreOptions options n → (t : Text) × IsReplicaText t n × OptionsGive (codes "answer") (codes "replica") (Some t) p options
replica_given p options n (inl h) = (
  codes "1",
  subst (IsReplicaText (codes "1")) (sym h.1) one,
  subst (OptionsGive (codes "answer") (codes "replica") (Some (codes "1")) p) (sym h.0) (no_replica p),
)
replica_given p options n (inr (t, is, inl e)) =
    (t, is, subst (OptionsGive (codes "answer") (codes "replica") (Some t) p) (sym e) (replica_apart p t (is_taken t n is)))
replica_given p options n (inr (t, is, inr e)) =
    (t, is, subst (OptionsGive (codes "answer") (codes "replica") (Some t) p) (sym e) (replica_joined p t (is_taken t n is)))

answer_right : (words : List Text) (n : ℕ) → AsksAnswer words n → Asks words (Answer n)
answer_right words n h =
    let given = replica_given h.2.program h.0 n h.1 in
    let gives = words_give (codes "answer") (codes "replica") (Some given.0) h.0 words h.2 given.2 in
    let found = given_number (named_in words) (codes "answer") (codes "replica") given.0 n gives.2 gives.0 given.1 in
    (gives.1, subst (λ (x : Option (Text × List Row)). AsksIn x (Answer n)) (sym found.1) (found.2, found.3))

-- so does each form of the options of `play`
trace_given : (p : Text) (options : List Text) (n : ℕ) → AreTraceOptions options (Some n) → (t : Text) × IsReplicaText t n × OptionsGive (codes "play") (codes "trace") (Some t) p options
trace_given p options n (t, is, inl e) =
    (t, is, subst (OptionsGive (codes "play") (codes "trace") (Some t) p) (sym e) (trace_apart p t (is_taken t n is)))
trace_given p options n (t, is, inr e) =
    (t, is, subst (OptionsGive (codes "play") (codes "trace") (Some t) p) (sym e) (trace_joined p t (is_taken t n is)))

-- no picture is given
abbrev picture_given : List Text → Option (Option Text)
picture_given words = option_map (λ p. first_of (codes "picture") p.1) (named_in words)

-- no option of `play` is a picture
abbrev Undrawn : List Text → Type 0
Undrawn words = picture_given words ≡ Some None

abbrev AreUndrawn : Text → Text → List Text → Type 0
AreUndrawn p command options = Undrawn (p ∷ command ∷ options) × Undrawn (p ∷ command ∷ options ++ codes "--" ∷ [])

undrawn_none : (p : Text) → AreUndrawn p (codes "play") []
unfolding clap_on_literals
undrawn_none p = (refl, refl)

undrawn_apart : (p t : Text) → IsTaken t → AreUndrawn p (codes "play") (codes "--trace" ∷ t ∷ [])
unfolding clap_on_literals
undrawn_apart p t h = (rw (h.no_dashes, h.no_long, h.no_short) refl, rw (h.no_dashes, h.no_long, h.no_short) refl)

undrawn_joined : (p t : Text) → AreUndrawn p (codes "play") ((codes "--trace=" ++ t) ∷ [])
unfolding clap_on_literals
undrawn_joined p t = (refl, refl)

undrawn_check : (p : Text) → AreUndrawn p (codes "check") []
unfolding clap_on_literals
undrawn_check p = (refl, refl)

-- the flags of `check` aren't given
abbrev flag_given : Text → List Text → Option Bool
flag_given option words = option_map (λ p. is_given option p.1) (named_in words)

abbrev Unflagged : Text → List Text → Type 0
Unflagged option words = flag_given option words ≡ Some false

unflagged_check : (p : Text) → (Unflagged (codes "so-far") (p ∷ codes "check" ∷ []) × Unflagged (codes "so-far") (p ∷ codes "check" ∷ codes "--" ∷ []))
    × (Unflagged (codes "explain") (p ∷ codes "check" ∷ []) × Unflagged (codes "explain") (p ∷ codes "check" ∷ codes "--" ∷ []))
unfolding clap_on_literals
unflagged_check p = ((refl, refl), (refl, refl))

module _ (P : List Text → Type 0) (command : Text) (options words : List Text) (are : AreWords command options words) where
  -- what holds of both forms holds of the words
  both_forms : P (are.program ∷ command ∷ options) × P (are.program ∷ command ∷ options ++ codes "--" ∷ []) → P words
  both_forms given = elim are.words_are [
    | inl e ↦ subst P (sym e) given.0
    | inr e ↦ subst P (sym e) given.1
  ]

undrawn : (p : Text) (options : List Text) (trace : Option ℕ) → AreTraceOptions options trace → AreUndrawn p (codes "play") options
undrawn p options None e = subst (AreUndrawn p (codes "play")) (sym e) (undrawn_none p)
undrawn p options (Some n) (t, is, inl e) = subst (AreUndrawn p (codes "play")) (sym e) (undrawn_apart p t (is_taken t n is))
undrawn p options (Some n) (t, is, inr e) = subst (AreUndrawn p (codes "play")) (sym e) (undrawn_joined p t)

-- where no number is given, none is found
no_number : (found : Option (Text × List Row)) → option_map (λ p. p.0) found ≡ Some (codes "play") → option_map (λ p. one_of (codes "trace") p.1) found ≡ Some None
    → option_map (λ p. first_of (codes "picture") p.1) found ≡ Some None → AsksIn found (Play (record { trace = None; picture = None }))
no_number None name value drawn = absurd (cc)
no_number (Some p) name value drawn =
    let named : p.0 ≡ codes "play" = cc in
    let none : one_of (codes "trace") p.1 ≡ None = cc in
    let plain : first_of (codes "picture") p.1 ≡ None = cc in
    (named, record { trace = λ n h. no_some (one_of (codes "trace") p.1) h.0 none h.1; picture = plain })

-- and a number that is given
a_number : (found : Option (Text × List Row)) (n : ℕ) → (p : Text × List Row) × (found ≡ Some p) × (p.0 ≡ codes "play") × IsNumber p.1 (codes "trace") n
    → option_map (λ p. first_of (codes "picture") p.1) found ≡ Some None → AsksIn found (Play (record { trace = Some n; picture = None }))
a_number None n it drawn = absurd (cc)
a_number (Some q) n (p, is, name, number) drawn =
    let same : q ≡ p = cc in
    let plain : first_of (codes "picture") q.1 ≡ None = cc in
    subst (λ (x : Text × List Row). first_of (codes "picture") x.1 ≡ None → AsksIn (Some x) (Play (record { trace = Some n; picture = None }))) (sym same)
    (λ none. (name, record { trace = number; picture = none })) plain

pub play_right : (words : List Text) (trace : Option ℕ) → AsksPlay words trace → Asks words (Play (record { trace = trace; picture = None }))
play_right words None h =
    let given = subst (OptionsGive (codes "play") (codes "trace") None h.2.program) (sym h.1) (no_trace h.2.program) in
    let gives = words_give (codes "play") (codes "trace") None h.0 words h.2 given in
    let drawn = both_forms Undrawn (codes "play") h.0 words h.2 (undrawn h.2.program h.0 None h.1) in
    (gives.1, no_number (named_in words) gives.2 gives.0 drawn)
play_right words (Some n) h =
    let given = trace_given h.2.program h.0 n h.1 in
    let gives = words_give (codes "play") (codes "trace") (Some given.0) h.0 words h.2 given.2 in
    let found = given_number (named_in words) (codes "play") (codes "trace") given.0 n gives.2 gives.0 given.1 in
    let drawn = both_forms Undrawn (codes "play") h.0 words h.2 (undrawn h.2.program h.0 (Some n) h.1) in
    (gives.1, a_number (named_in words) n found drawn)

check_named : (found : Option (Text × List Row)) → option_map (λ p. p.0) found ≡ Some (codes "check") → option_map (λ p. first_of (codes "picture") p.1) found ≡ Some None
    → option_map (λ p. is_given (codes "so-far") p.1) found ≡ Some false → option_map (λ p. is_given (codes "explain") p.1) found ≡ Some false
    → AsksIn found (Check (record { so_far = false; explain = false; picture = None }))
check_named None name drawn short told = absurd (cc)
check_named (Some p) name drawn short told =
    let named : p.0 ≡ codes "check" = cc in
    let plain : first_of (codes "picture") p.1 ≡ None = cc in
    let whole : is_given (codes "so-far") p.1 ≡ false = cc in
    let bare : is_given (codes "explain") p.1 ≡ false = cc in
    (named, record { so_far = whole; explain = bare; picture = plain })

pub check_right : (words : List Text) → AsksCheck words → Asks words (Check (record { so_far = false; explain = false; picture = None }))
check_right words h =
    let gives = both_forms (λ (ws : List Text). (faults ws ≡ []) × (name_read ws ≡ Some (codes "check"))) (codes "check") [] words h (check_alone h.program) in
    let drawn = both_forms Undrawn (codes "check") [] words h (undrawn_check h.program) in
    let flags = unflagged_check h.program in
    let whole = both_forms (Unflagged (codes "so-far")) (codes "check") [] words h flags.0 in
    let bare = both_forms (Unflagged (codes "explain")) (codes "check") [] words h flags.1 in
    (gives.0, check_named (named_in words) gives.1 drawn whole bare)

-- ---- and only they

same_replica : (n m : ℕ) → Answer n ≡ Answer m → n ≡ m
same_replica n m e = cc

pub answer_plain : (words : List Text) (n : ℕ) → (Asks words (Answer n) → AsksAnswer words n) × (AsksAnswer words n → Asks words (Answer n))
answer_plain words n = (
  (λ asked.
      let plain = only_answer_words words asked.0 (command_is (named_in words) (Answer n) asked.1) in
      let same = same_replica n plain.0 (ask_one words (Answer n) (Answer plain.0) asked (answer_right words plain.0 plain.1)) in
      subst (AsksAnswer words) (sym same) plain.1),
  answer_right words n,
)

-- a number is found, or none
found_number : (rows : List Row) (option : Text) → (o : Option ℕ) × Finds (IsNumber rows option) o
found_number rows option = go (one_of option rows) refl
  where
    go : (o : Option Text) → one_of option rows ≡ o → (o : Option ℕ) × Finds (IsNumber rows option) o
    go None e = (None, λ n h. no_some (one_of option rows) h.0 e h.1)
    go (Some t) e = number_or_none rows option t e

-- words without a fault ask for a task
play_asked : (words : List Text) (found : Option (Text × List Row)) → option_map (λ p. p.0) found ≡ Some (codes "play") → (task : Task) × AsksIn found task
play_asked words None name = absurd (cc)
play_asked words (Some p) name =
    let named : p.0 ≡ codes "play" = cc in
    let trace = found_number p.1 (codes "trace") in
    (Play (record { trace = trace.0; picture = first_of (codes "picture") p.1 }), (named, record { trace = trace.1; picture = refl }))

check_asked : (words : List Text) (found : Option (Text × List Row)) → option_map (λ p. p.0) found ≡ Some (codes "check") → (task : Task) × AsksIn found task
check_asked words None name = absurd (cc)
check_asked words (Some p) name =
    let named : p.0 ≡ codes "check" = cc in
    (Check (record { so_far = is_given (codes "so-far") p.1; explain = is_given (codes "explain") p.1; picture = first_of (codes "picture") p.1 }), (named, record { so_far = refl; explain = refl; picture = refl }))

faultless : (words : List Text) → NamesPlainly words → faults words ≡ [] → (task : Task) × Asks words task
faultless words (inl answer) none =
    let plain = only_answer_words words none answer in
    (Answer plain.0, answer_right words plain.0 plain.1)
faultless words (inr (inl play)) none =
    let asked = play_asked words (named_in words) play in
    (asked.0, (none, asked.1))
faultless words (inr (inr check)) none =
    let asked = check_asked words (named_in words) check in
    (asked.0, (none, asked.1))

pub faultless_ask : (words : List Text) → NamesPlainly words → ((faults words ≡ []) → (task : Task) × Asks words task) × ((task : Task) × Asks words task → faults words ≡ [])
faultless_ask words names = (faultless words names, λ asked. asked.1.0)
