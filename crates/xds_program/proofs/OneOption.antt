-- Which words of a command whose one option has a number as its value are without a fault.
use Rattle.std.proofs.Common.{◌≡◌, ◌⊎◌, ◌||◌, ◌&&◌, ◌==◌, ◌∙◌, ℕ, zero, suc, List, [], ◌∷◌, ◌++◌, codes, length, Bool, true, false, cond, fold}
use Rattle.std.proofs.Common.{refl, sym, ap, subst, inl, inr, arith, Option, Some, None, append-nil, append_assoc, true≢false}
use Rattle.std.specs.Prelude.{if◌then◌else◌, pos, slice_get}
use Rattle.std.specs.Option.{option_map_or}
use Rattle.std.specs.Str.{bytes_eq, chars}
use Rattle.std.specs.Str.Parse.{digits_value, starts_with_minus, without_leading_plus}
use Rattle.std.proofs.lemmas.Int.{ints}
use Rattle.std.proofs.lemmas.Slice.Eq.{bytes_eq-Decides}
use Rattle.clap.specs.Words.{Kinds, Row, Rule, Shape, Text}
use Rattle.clap.specs.Lexer.{long_of, short_of}
use Rattle.clap.specs.Kinds.{or_else}
use Rattle.clap.specs.Values.{IsSignedIn}
use Rattle.clap.specs.ValueTests.{is_signed_in}
use Rattle.clap.specs.Simple.{filled, help_rule}
use Rattle.clap.specs.Walk.{Held, Outcome, Step, Waiting, Walk, after_flag, after_step, arg_by_short, bundle_met, bundle_step, has_row, idle, long_met, next}
use Rattle.clap.specs.Walk.{long_or_other, option, plain, plain_word, settled_rows, short_or_plain, trailing, used, walked}
use Rattle.clap.specs.Faults.{bundle_fault, bundle_step_fault, flag_word_fault, flags_fault, long_fault, react_fault}
use Rattle.clap.specs.Faults.{settle_fault, short_fault, step_fault, turn_fault, use_fault, walk_fault}
use Rattle.clap.specs.declared.builder.value_parser.ValueParser.TheVariants as vp
use Rattle.clap.specs.declared.error.kind.ErrorKind.{ErrorKind}
use Rattle.clap.specs.declared.error.kind.ErrorKind.TheVariants as kind
use Rattle.clap.proofs.ValueTestLemmas.{accepts-Accepts}
use Rattle.xds_program.specs.PlainWords.{IsReplicaOption, IsReplicaText}
use Rattle.xds_program.specs.CommandLine.{number_option}
use Rattle.xds_program.proofs.LongWords.{joined, long_of-joined}

-- ---- chains of checks

-- a chain of two checks finds nothing only where each of them does
pub or_else-none : (a b : Kinds) → or_else a b ≡ [] → (a ≡ []) × (b ≡ [])
or_else-none [] b none = (refl, none)
or_else-none (k ∷ ks) b none = absurd (cc)

-- a kind of error is no empty list
pub some_kind : (k : ErrorKind) (ks : Kinds) → k ∷ ks ≡ [] → ⊥
some_kind k ks e = cc

-- a chain whose second check finds something is not empty
pub second_kind : (a : Kinds) (k : ErrorKind) (ks : Kinds) → or_else a (k ∷ ks) ≡ [] → ⊥
second_kind a k ks e = some_kind k ks (or_else-none a (k ∷ ks) e).1

-- ---- the command

-- a command, the name of its option, and the values that the option has where it isn't given
pub record Numbered : Type 0 where
  pub shape : Shape
  pub id : Text
  pub defaults : List Text

-- the option
abbrev pub option_of : Numbered → Rule
option_of o = record (filled (number_option o.id)) { defaults = o.defaults }

abbrev pub rules_of : Numbered → List Rule
rules_of o = option_of o ∷ filled help_rule ∷ []

-- what a parse reads of the command
abbrev pub read_of : Numbered → Shape
read_of o = record o.shape { rules = rules_of o; is_leaf = true; args_override_self = false }

-- what is held between two words
abbrev pub holding : List Row → Option (Text × List Text) → Held
holding rows pending = record { rows = rows; pending = pending; skip = 0 }

-- a walk over the words, by what waits for the next word and whether `--` has come
abbrev pub standing : Held → Waiting → Bool → Walk
standing h waiting is_trailing = record { held = h; waiting = waiting; position = 1; is_trailing = is_trailing; stopped = None }

-- the option holds no number yet, and the next word is its value
abbrev awaiting : Numbered → List Row → Walk
awaiting o rows = standing (holding rows (Some (o.id, []))) (option o.id) false

-- what the use of the option that is pending finds wrong, and the rows after that use
abbrev settle_kinds : Numbered → Held → Kinds
settle_kinds o h = settle_fault (rules_of o) false h

abbrev settled_with : Numbered → List Row → Option (Text × List Text) → List Row
settled_with o rows pending = settled_rows (rules_of o) pending rows

-- the words that are left have no fault
abbrev pub Fine : Numbered → Walk → List Text → Type 0
Fine o w words = (walk_fault (read_of o) [] w words ≡ []) × (settle_kinds o (fold (walked (rules_of o) []) w words).held ≡ [])

-- a name is itself
itself : (id : Text) → bytes_eq id id ≡ true
itself id = (bytes_eq-Decides id id).1 refl

-- what the option's use finds wrong, where it is the one that is pending
settle_is : (o : Numbered) (rows : List Row) (values : List Text) → settle_kinds o (holding rows (Some (o.id, values))) ≡ use_fault false (option_of o) values rows
settle_is o rows values = rw (itself o.id) refl

-- without a value it is a fault
unsettled : (o : Numbered) (rows : List Row) → settle_kinds o (holding rows (Some (o.id, []))) ≡ [] → ⊥
unsettled o rows none = some_kind _ _ (sym (settle_is o rows []) ∙ none)

-- the word that it waits for is its value
value_taken : (o : Numbered) (rows : List Row) (word : Text)
    → plain_word (rules_of o) (option o.id) word (holding rows (Some (o.id, []))) ≡ (holding rows (Some (o.id, word ∷ [])), next idle)
value_taken o rows word = rw (itself o.id, itself o.id) refl

-- it is held once it was used
used_held : (o : Numbered) (v : Text) → has_row o.id (used (option_of o) (v ∷ []) []) ≡ true
used_held o v = rw (itself o.id) refl

settled_held : (o : Numbered) (v : Text) → has_row o.id (settled_with o [] (Some (o.id, v ∷ []))) ≡ true
settled_held o v = rw (itself o.id, itself o.id) refl

-- the first word has no fault, and neither have those after it
fine_turn : (o : Numbered) (w : Walk) (word : Text) (rest : List Text) → Fine o w (word ∷ rest)
    → (turn_fault (read_of o) [] w word ≡ []) × Fine o (walked (rules_of o) [] w word) rest
unfolding walk_fault
fine_turn o w word rest fine =
    let parts = or_else-none _ _ fine.0 in
    (parts.0, (parts.1, fine.1))

-- after `--` no word comes, and what is pending is right
trailing_end : (o : Numbered) (h : Held) (waiting : Waiting) (words : List Text) → Fine o (standing h waiting true) words → (words ≡ []) × (settle_kinds o h ≡ [])
trailing_end o h waiting [] fine = (refl, fine.1)
trailing_end o h waiting (word ∷ rest) fine =
    absurd (some_kind _ _ (fine_turn o _ word rest fine).0)

-- ---- a bundle of flags

-- each first flag of a bundle is a fault
abbrev pub FlagsFail : List Rule → Held → Type 0
FlagsFail rules h = (x : ℕ) (rest : Text) (next : Held → Kinds) → short_fault rules false (arg_by_short rules x) rest h next ≡ [] → ⊥

-- where each flag is a fault, a bundle with none has no flag
flags_nothing : (rules : List Rule) (h : Held) → FlagsFail rules h → (k : ℕ) (flags : Text) → flags_fault rules false k flags 0 h ≡ [] → bundle_met rules k flags 0 plain h ≡ (h, plain)
unfolding flags_fault bundle_met
flags_nothing rules h fails zero flags e = refl
flags_nothing rules h fails (suc k) flags e = go (slice_get (chars flags) 0) e
  where
    go : (o : Option ℕ) → bundle_step_fault rules false o flags 0 h (flags_fault rules false k) ≡ [] → bundle_step rules o flags 0 plain h (bundle_met rules k) ≡ (h, plain)
    go None f = refl
    go (Some x) f = absurd (fails x _ _ f)

-- so a short word with no fault is a plain word
pub short_plain : (rules : List Rule) (rows : List Row) (pending : Option (Text × List Text)) → FlagsFail rules (holding rows pending) → (waiting : Waiting) (word : Text) (short : Option Text)
    → option_map_or (λ flags. bundle_fault rules false flags (holding rows pending)) short [] ≡ []
    → short_or_plain rules waiting word short (holding rows pending) ≡ plain_word rules waiting word (holding rows pending)
short_plain rules rows pending fails waiting word None e = refl
short_plain rules rows pending fails waiting word (Some flags) e =
    ap (λ (p : Held × Outcome). after_flag rules waiting word p.0 p.1) (flags_nothing rules (holding rows pending) fails (length flags) flags e)

-- the command has one flag of one letter, which asks for help
flags_fail : (o : Numbered) (rows : List Row) (pending : Option (Text × List Text)) → FlagsFail (rules_of o) (holding rows pending)
flags_fail o rows pending x rest after e = go (104 == x) e
  where
    go : (t : Bool) → short_fault (rules_of o) false (cond (t || false) (Some (filled help_rule)) None) rest (holding rows pending) after ≡ [] → ⊥
    go true f = second_kind _ _ _ (or_else-none _ _ f).0
    go false f = some_kind _ _ f

-- ---- one word

-- the step of a word, by the tests on it
abbrev pub met_by : Shape → Waiting → Held → Text → Bool → Option (Text × Option Text) → Held × Step
met_by s waiting h word dashes long = if dashes then (h, trailing 1) else long_or_other s.rules waiting word long h

-- the fault of a word, by the tests on it
abbrev pub kinds_by : Shape → Waiting → Held → Text → Bool → Option (Text × Option Text) → Kinds
kinds_by s waiting h word dashes long =
    or_else (if dashes then [] else flag_word_fault s.rules false long word h)
    (step_fault s 1 (met_by s waiting h word dashes long).0 (met_by s waiting h word dashes long).1)

-- the walk after a word, by the tests on it
abbrev walk_by : Numbered → Waiting → Held → Text → Bool → Option (Text × Option Text) → Walk
walk_by o waiting h word dashes long =
    after_step (rules_of o) word (standing h waiting false) (met_by (read_of o) waiting h word dashes long).0 (met_by (read_of o) waiting h word dashes long).1

-- a word between options that has no fault: `--`, the option with its value, or the option whose value comes
data IdleTurn (o : Numbered) (rows : List Row) (pending : Option (Text × List Text)) (word : Text) (rest : List Text) : Type 0 where
  closes : word ≡ codes "--" → Fine o (standing (holding rows pending) idle true) rest → IdleTurn o rows pending word rest
  gives : (v : Text) → word ≡ 45 ∷ 45 ∷ o.id ++ 61 ∷ v → react_fault (rules_of o) false (option_of o) (v ∷ []) (holding rows pending) ≡ []
      → Fine o (standing (holding (used (option_of o) (v ∷ []) (settled_with o rows pending)) None) idle false) rest → IdleTurn o rows pending word rest
  starts : word ≡ 45 ∷ 45 ∷ o.id → settle_kinds o (holding rows pending) ≡ [] → Fine o (awaiting o (settled_with o rows pending)) rest → IdleTurn o rows pending word rest

-- the argument that a long name names, by the tests on the name
abbrev found_by : Numbered → Bool → Bool → Option Rule
found_by o is_option is_help = cond (is_option || false) (Some (option_of o)) (cond (is_help || false) (Some (filled help_rule)) None)

-- what a long word asks, and what it does, by the argument that it names
abbrev pub long_step_by : Shape → Waiting → Text → Held → Option Rule → Option Text → Held × Step
long_step_by s waiting word h found v = after_flag s.rules waiting word (long_met s.rules found v h).0 (long_met s.rules found v h).1

abbrev pub long_kinds_by : Shape → Waiting → Text → Held → Option Rule → Option Text → Kinds
long_kinds_by s waiting word h found v =
    or_else (long_fault s.rules false found v h) (step_fault s 1 (long_step_by s waiting word h found v).0 (long_step_by s waiting word h found v).1)

abbrev long_walk_by : Numbered → Waiting → Text → Held → Option Rule → Option Text → Walk
long_walk_by o waiting word h found v =
    after_step (rules_of o) word (standing h waiting false) (long_step_by (read_of o) waiting word h found v).0 (long_step_by (read_of o) waiting word h found v).1

module _ (o : Numbered) (rows : List Row) (pending : Option (Text × List Text)) (word : Text) (rest : List Text) where
  -- a long word between options that has no fault is the option
  idle_long : (name : Text) (v : Option Text) (is_option is_help : Bool) → bytes_eq o.id name ≡ is_option → word ≡ 45 ∷ 45 ∷ joined name v
      → long_kinds_by (read_of o) idle word (holding rows pending) (found_by o is_option is_help) v ≡ []
      → Fine o (long_walk_by o idle word (holding rows pending) (found_by o is_option is_help) v) rest → IdleTurn o rows pending word rest
  idle_long name None true is_help named is none fine =
      let name_is : o.id ≡ name = (bytes_eq-Decides o.id name).0 named in
      starts (is ∙ ap (λ t. 45 ∷ 45 ∷ t) (sym name_is)) (or_else-none _ _ none).0 fine
  idle_long name (Some v) true is_help named is none fine =
      let name_is : o.id ≡ name = (bytes_eq-Decides o.id name).0 named in
      gives v (is ∙ ap (λ (t : Text). 45 ∷ 45 ∷ t ++ 61 ∷ v) (sym name_is)) (or_else-none _ _ none).0 fine
  idle_long name None false true named is none fine = absurd (second_kind _ _ _ (or_else-none _ _ none).0)
  idle_long name (Some v) false true named is none fine = absurd (some_kind _ _ none)
  idle_long name v false false named is none fine = absurd (some_kind _ _ none)

  -- a word between options, by the tests on it
  idle_by : (dashes : Bool) (long : Option (Text × Option Text)) → bytes_eq word (codes "--") ≡ dashes → long_of word ≡ long
      → kinds_by (read_of o) idle (holding rows pending) word dashes long ≡ [] → Fine o (walk_by o idle (holding rows pending) word dashes long) rest → IdleTurn o rows pending word rest
  idle_by true long is of_word none fine = closes ((bytes_eq-Decides word (codes "--")).0 is) fine
  idle_by false (Some p) is of_word none fine =
      idle_long p.0 p.1 (bytes_eq o.id p.0) (bytes_eq (codes "help") p.0) refl (long_of-joined word p.0 p.1 of_word) none fine
  idle_by false None is of_word none fine =
      let parts = or_else-none _ _ none in
      let as_plain = short_plain (rules_of o) rows pending (flags_fail o rows pending) idle word (short_of word) parts.0 in
      absurd (some_kind _ _ (ap (λ (met : Held × Step). step_fault (read_of o) 1 met.0 met.1) (sym as_plain) ∙ parts.1))

  -- a word between options that has no fault, and the words after it
  idle_turn : Fine o (standing (holding rows pending) idle false) (word ∷ rest) → IdleTurn o rows pending word rest
  unfolding walked
  idle_turn fine =
      let parts = fine_turn o (standing (holding rows pending) idle false) word rest fine in
      idle_by (bytes_eq word (codes "--")) (long_of word) refl refl parts.0 parts.1

module _ (o : Numbered) (rows : List Row) (word : Text) (rest : List Text) where
  -- a long word in place of the option's value is a fault
  awaiting_long : (v : Option Text) (is_option is_help : Bool)
      → long_kinds_by (read_of o) (option o.id) word (holding rows (Some (o.id, []))) (found_by o is_option is_help) v ≡ [] → ⊥
  awaiting_long None true is_help none = unsettled o rows (or_else-none _ _ none).0
  awaiting_long (Some v) true is_help none = unsettled o rows (or_else-none _ _ (or_else-none _ _ none).0).0
  awaiting_long None false true none = unsettled o rows (or_else-none _ _ (or_else-none _ _ none).0).0
  awaiting_long (Some v) false true none = some_kind _ _ none
  awaiting_long v false false none = some_kind _ _ none

  -- a word after the option, by the tests on it
  awaiting_by : (dashes : Bool) (long : Option (Text × Option Text)) → kinds_by (read_of o) (option o.id) (holding rows (Some (o.id, []))) word dashes long ≡ []
      → Fine o (walk_by o (option o.id) (holding rows (Some (o.id, []))) word dashes long) rest → Fine o (standing (holding rows (Some (o.id, word ∷ []))) idle false) rest
  awaiting_by true long none fine = absurd (unsettled o rows (trailing_end o (holding rows (Some (o.id, []))) (option o.id) rest fine).1)
  awaiting_by false (Some p) none fine = absurd (awaiting_long p.1 (bytes_eq o.id p.0) (bytes_eq (codes "help") p.0) none)
  awaiting_by false None none fine =
      let parts = or_else-none _ _ none in
      let as_plain = short_plain (rules_of o) rows (Some (o.id, [])) (flags_fail o rows (Some (o.id, []))) (option o.id) word (short_of word) parts.0 in
      subst (λ (met : Held × Step). Fine o (after_step (rules_of o) word (awaiting o rows) met.0 met.1) rest) (as_plain ∙ value_taken o rows word) fine

  -- a word after the option that has no fault is its value
  awaiting_turn : Fine o (awaiting o rows) (word ∷ rest) → Fine o (standing (holding rows (Some (o.id, word ∷ []))) idle false) rest
  unfolding walked
  awaiting_turn fine =
      let parts = fine_turn o (awaiting o rows) word rest fine in
      awaiting_by (bytes_eq word (codes "--")) (long_of word) parts.0 parts.1

-- the option alone lacks its value
awaiting_then : (o : Numbered) (rows : List Row) (words : List Text) → Fine o (awaiting o rows) words
    → (word : Text) × (rest : List Text) × (words ≡ word ∷ rest) × Fine o (standing (holding rows (Some (o.id, word ∷ []))) idle false) rest
awaiting_then o rows [] fine = absurd (unsettled o rows fine.1)
awaiting_then o rows (word ∷ rest) fine = (word, rest, refl, awaiting_turn o rows word rest fine)

-- whatever comes between options, what is pending is right
idle_settles : (o : Numbered) (rows : List Row) (pending : Option (Text × List Text)) (words : List Text) → Fine o (standing (holding rows pending) idle false) words
    → settle_kinds o (holding rows pending) ≡ []
idle_settles o rows pending [] fine = fine.1
idle_settles o rows pending (word ∷ rest) fine = go (idle_turn o rows pending word rest fine)
  where
    go : IdleTurn o rows pending word rest → settle_kinds o (holding rows pending) ≡ []
    go (closes is fine) = (trailing_end o (holding rows pending) idle rest fine).1
    go (gives v is none fine) = (or_else-none _ _ none).0
    go (starts is none fine) = none

-- the kinds of a use of the option, by whether it was used before and whether the value is right
abbrev use_kinds : Bool → Bool → Kinds
use_kinds before right = or_else (if before && true then kind.ArgumentConflict ∷ [] else []) (or_else (if right then [] else kind.ValueValidation ∷ []) [])

-- a use without a fault is the first, of a right value
first_use : (before right : Bool) → use_kinds before right ≡ [] → (before ≡ false) × (right ≡ true)
first_use true right none = absurd (some_kind _ _ none)
first_use false true none = (refl, refl)
first_use false false none = absurd (some_kind _ _ none)

-- a value without a fault is in the range
used_right : (o : Numbered) (rows : List Row) (v : Text) → use_fault false (option_of o) (v ∷ []) rows ≡ [] → is_signed_in (pos 1) (pos 65535) v ≡ true
used_right o rows v none = (first_use (has_row o.id rows) (is_signed_in (pos 1) (pos 65535) v) none).1

-- and so is one that was pending
pending_used : (o : Numbered) (rows : List Row) (v : Text) (words : List Text) → Fine o (standing (holding rows (Some (o.id, v ∷ []))) idle false) words
    → use_fault false (option_of o) (v ∷ []) rows ≡ []
pending_used o rows v words fine = sym (settle_is o rows (v ∷ [])) ∙ idle_settles o rows (Some (o.id, v ∷ [])) words fine

-- a second use of the option is a fault
used_again : (o : Numbered) (rows : List Row) (v : Text) → has_row o.id rows ≡ true → use_fault false (option_of o) (v ∷ []) rows ≡ [] → ⊥
used_again o rows v before none =
    let first = (first_use (has_row o.id rows) (is_signed_in (pos 1) (pos 65535) v) none).0 in
    true≢false (sym before ∙ first)

-- after the option with its value comes `--`, or nothing
last_words : (o : Numbered) (rows : List Row) (pending : Option (Text × List Text)) → has_row o.id (settled_with o rows pending) ≡ true → (words : List Text)
    → Fine o (standing (holding rows pending) idle false) words → (words ≡ []) ⊎ (words ≡ codes "--" ∷ [])
last_words o rows pending before [] fine = inl refl
last_words o rows pending before (word ∷ rest) fine = go (idle_turn o rows pending word rest fine)
  where
    go : IdleTurn o rows pending word rest → (word ∷ rest ≡ []) ⊎ (word ∷ rest ≡ codes "--" ∷ [])
    go (closes is fine) =
        let ends : rest ≡ [] = (trailing_end o (holding rows pending) idle rest fine).0 in
        inr (λ i. is i ∷ ends i)
    go (gives v is none fine) = absurd (used_again o (settled_with o rows pending) v before (or_else-none _ _ none).1)
    go (starts is none fine) =
        let more = awaiting_then o (settled_with o rows pending) rest fine in
        absurd (used_again o (settled_with o rows pending) more.0 before (pending_used o (settled_with o rows pending) more.0 more.1 more.3))

-- ---- the value

-- a text in the range is the number of a replica
replica_text : (text : Text) → is_signed_in (pos 1) (pos 65535) text ≡ true → (n : ℕ) × IsReplicaText text n
replica_text text e = go (starts_with_minus text) refl (accepts-Accepts false (vp.Signed (pos 1) (pos 65535)) text e)
  where
    go : (t : Bool) → starts_with_minus text ≡ t → IsSignedIn (pos 1) (pos 65535) text → (n : ℕ) × IsReplicaText text n
    go true minus passed =
        let low = rw minus at passed.2 in
        absurd (omega (arith, ints))
    go false minus passed =
        let low = rw minus at passed.2 in
        let high = rw minus at passed.3 in
        let numeral = rw minus at passed.0 in
        (digits_value 10 (without_leading_plus text), record { digits = numeral; value = refl; least = omega (arith, ints); most = omega (arith, ints) })

-- ---- the words

-- the words are options, and perhaps `--`
abbrev pub EndsOptions : List Text → List Text → Type 0
EndsOptions options words = (words ≡ options) ⊎ (words ≡ options ++ codes "--" ∷ [])

-- options with nothing or `--` after them
ended : (first rest : List Text) → (rest ≡ []) ⊎ (rest ≡ codes "--" ∷ []) → EndsOptions first (first ++ rest)
ended first rest (inl none) = inl (ap (λ r. first ++ r) none ∙ append-nil first)
ended first rest (inr dashes) = inr (ap (λ r. first ++ r) dashes)

-- no option, or the one with a number
abbrev pub AreGiven : Numbered → List Text → Type 0
AreGiven o options = (options ≡ []) ⊎ ((n : ℕ) × IsReplicaOption o.id options n)

-- only these words are without a fault
pub option_words : (o : Numbered) (words : List Text) → Fine o (standing (holding [] None) idle false) words → (options : List Text) × AreGiven o options × EndsOptions options words
option_words o [] fine = ([], inl refl, inl refl)
option_words o (word ∷ rest) fine = go (idle_turn o [] None word rest fine)
  where
    go : IdleTurn o [] None word rest → (options : List Text) × AreGiven o options × EndsOptions options (word ∷ rest)
    go (closes is fine) =
        let ends : rest ≡ [] = (trailing_end o (holding [] None) idle rest fine).0 in
        ([], inl refl, inr (λ i. is i ∷ ends i))
    go (gives v is none fine) =
        let number = replica_text v (used_right o [] v (or_else-none [] (use_fault false (option_of o) (v ∷ []) []) none).1) in
        let last = last_words o (used (option_of o) (v ∷ []) []) None (used_held o v) rest fine in
        let joined_is = is ∙ ap (λ t. 45 ∷ 45 ∷ t) (sym (append_assoc o.id (61 ∷ []) v)) in
        (word ∷ [], inr (number.0, (v, number.1, inr (ap (λ w. w ∷ []) joined_is))), ended (word ∷ []) rest last)
    go (starts is none fine) =
        let more = awaiting_then o [] rest fine in
        let v = more.0 in
        let number = replica_text v (used_right o [] v (pending_used o [] v more.1 more.3)) in
        let end = ended (word ∷ v ∷ []) more.1 (last_words o [] (Some (o.id, v ∷ [])) (settled_held o v) more.1 more.3) in
        (word ∷ v ∷ [], inr (number.0, (v, number.1, inl (ap (λ w. w ∷ v ∷ []) is))), subst (λ (r : List Text). EndsOptions (word ∷ v ∷ []) (word ∷ r)) (sym more.2) end)
