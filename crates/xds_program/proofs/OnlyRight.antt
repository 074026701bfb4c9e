-- Only plain words are taken as words of `answer`.
use Rattle.std.proofs.Common.{◌≡◌, ◌⊎◌, ◌||◌, ◌==◌, ◌∙◌, ℕ, List, [], ◌∷◌, ◌++◌, codes, Bool, true, false, cond, fold}
use Rattle.std.proofs.Common.{refl, sym, ap, subst, inl, inr, ⊎_elim, Option, Some, None, option_map, append-nil, append_assoc}
use Rattle.std.specs.Prelude.{find, if◌then◌else◌}
use Rattle.std.specs.List.{list_all, list_any}
use Rattle.std.specs.Str.{bytes_eq}
use Rattle.std.proofs.lemmas.Slice.Eq.{bytes_eq-Decides}
use Rattle.clap.specs.Words.{Row, Rule, Shape, Text, built}
use Rattle.clap.specs.Lexer.{long_of, short_of}
use Rattle.clap.specs.Kinds.{or_else}
use Rattle.clap.specs.Simple.{filled, help_rule, names_of, new_shape, version_rule}
use Rattle.clap.specs.Walk.{Held, Names, Step, Walk, after_step, answers_to, idle, is_empty}
use Rattle.clap.specs.Walk.{subcommand_met, subcommand_or_other, walked}
use Rattle.clap.specs.Faults.{entered_fault, other_fault}
use Rattle.clap.specs.Faults.{short_fault, step_fault, turn_fault, walk_fault}
use Rattle.clap.specs.declared.error.kind.ErrorKind.TheVariants as kind
use Rattle.clap.proofs.OnLiterals.{clap_on_literals}
use Rattle.clap.specs.Simple.{entered, label_of, rows_at}
use Rattle.clap.proofs.SimpleLemmas.{is_nil}
use Rattle.clap.proofs.WalkLemmas.{both}
use Rattle.xds_program.specs.PlainWords.{AreWords, AsksAnswer}
use Rattle.xds_program.specs.CommandLine.{command_line, faults}
use Rattle.xds_program.proofs.CommandLine.{name_read}
use Rattle.xds_program.proofs.OneOption.{AreGiven, EndsOptions, Fine, FlagsFail, Numbered, holding, kinds_by, long_kinds_by, option_words, or_else-none, second_kind, short_plain, some_kind, standing}

-- ---- the commands

-- the first of some commands, and one with no name where there is none
abbrev first_shape : List Shape → Shape
first_shape [] = new_shape []
first_shape (s ∷ ss) = s

-- `answer`, as a parse reads it
abbrev answer_read : Numbered
answer_read = record { shape = first_shape (built command_line).subs; id = codes "replica"; defaults = codes "1" ∷ [] }

-- ---- the program, whose options ask for help and for its version

-- what a parse reads of the program, and the names of its subcommands
abbrev top_shape : Shape
top_shape = (built command_line).top

abbrev top_names : Names
top_names = names_of (built command_line)

-- a word that nothing takes is a fault
stray_some : (leaf : Bool) → (if leaf then kind.UnknownArgument ∷ [] else kind.UnknownArgument ∷ kind.InvalidSubcommand ∷ []) ≡ [] → ⊥
stray_some true none = some_kind _ _ none
stray_some false none = some_kind _ _ none

-- what a parse reads of it
abbrev help_and_version : Shape → Shape
help_and_version s = record s { rules = filled help_rule ∷ filled version_rule ∷ []; is_leaf = false; args_override_self = false }

-- its two flags of one letter ask for help, or for its version
both_flags_fail : (rows : List Row) (pending : Option (Text × List Text)) → FlagsFail (filled help_rule ∷ filled version_rule ∷ []) (holding rows pending)
both_flags_fail rows pending x rest next e = go (104 == x) (86 == x) e
  where
    go : (t v : Bool) → short_fault (filled help_rule ∷ filled version_rule ∷ []) false
        (cond (t || false) (Some (filled help_rule)) (cond (v || false) (Some (filled version_rule)) None)) rest (holding rows pending) next ≡ [] → ⊥
    go true v f = second_kind _ _ _ (or_else-none _ _ f).0
    go false true f = second_kind _ _ _ (or_else-none _ _ f).0
    go false false f = some_kind _ _ f

module _ (s : Shape) (word : Text) where
  -- a long word is a fault
  both_long : (v : Option Text) (is_help is_version : Bool)
      → long_kinds_by (help_and_version s) idle word (holding [] None)
      (cond (is_help || false) (Some (filled help_rule)) (cond (is_version || false) (Some (filled version_rule)) None)) v ≡ [] → ⊥
  both_long None true is_version none = some_kind _ _ none
  both_long (Some v) true is_version none = some_kind _ _ none
  both_long None false true none = some_kind _ _ none
  both_long (Some v) false true none = some_kind _ _ none
  both_long v false false none = some_kind _ _ none

  -- and so is any other that names no subcommand, but for `--`
  both_other : (dashes : Bool) (long : Option (Text × Option Text)) → kinds_by (help_and_version s) idle (holding [] None) word dashes long ≡ [] → dashes ≡ true
  both_other true long none = refl
  both_other false (Some p) none = absurd (both_long p.1 (bytes_eq (codes "help") p.0) (bytes_eq (codes "version") p.0) none)
  both_other false None none =
      let parts = or_else-none _ _ none in
      let as_plain = short_plain (filled help_rule ∷ filled version_rule ∷ []) [] None (both_flags_fail [] None) idle word (short_of word) parts.0 in
      absurd (stray_some false (ap (λ (met : Held × Step). step_fault (help_and_version s) 1 met.0 met.1) (sym as_plain) ∙ parts.1))

-- ---- the first word

-- the walk before the first word
abbrev start : Walk
start = standing (holding [] None) idle false

-- what is found passes the test
found_passes : {X : Type 0} (p : X → Bool) (xs : List X) (x : X) → find p xs ≡ Some x → p x ≡ true
found_passes p [] x e = absurd (cc)
found_passes {X} p (y ∷ ys) x e = go (p y) refl e (λ f. found_passes p ys x f)
  where
    go : (t : Bool) → p y ≡ t → cond t (Some y) (find p ys) ≡ Some x → (find p ys ≡ Some x → p x ≡ true) → p x ≡ true
    go true is f later =
        let same : y ≡ x = cc in
        subst (λ (z : X). p z ≡ true) same is
    go false is f later = later f

-- and any that all pass
found_holds : {X : Type 0} (p q : X → Bool) (xs : List X) (x : X) → list_all q xs ≡ true → find p xs ≡ Some x → q x ≡ true
found_holds p q [] x all e = absurd (cc)
found_holds {X} p q (y ∷ ys) x all e = go (p y) e (λ f. found_holds p q ys x (both _ _ all).1 f)
  where
    go : (t : Bool) → cond t (Some y) (find p ys) ≡ Some x → (find p ys ≡ Some x → q x ≡ true) → q x ≡ true
    go true f later =
        let same : y ≡ x = cc in
        subst (λ (z : X). q z ≡ true) same (both _ _ all).0
    go false f later = later f

or_nothing : (b : Bool) → (b || false) ≡ true → b ≡ true
or_nothing true e = refl
or_nothing false e = e

-- a command without other names answers to its name alone
own_name : (word : Text) (names : Text × List Text) → is_empty names.1 ≡ true → answers_to word names ≡ true → names.0 ≡ word
own_name word names alone is =
    let only = subst (λ (l : List Text). (bytes_eq names.0 word || list_any (λ alias. bytes_eq alias word) l) ≡ true) (is_nil names.1 alone) is in
    (bytes_eq-Decides names.0 word).0 (or_nothing _ only)

-- the subcommand that a word names has the word as its name
met_is : (word name : Text) → subcommand_met top_names idle word ≡ Some name → name ≡ word
met_is word name e = go (find (answers_to word) top_names) refl e
  where
    go : (o : Option (Text × List Text)) → find (answers_to word) top_names ≡ o → option_map (λ s. s.0) o ≡ Some name → name ≡ word
    go None f met = absurd (cc)
    go (Some s) f met =
        let named : s.0 ≡ name = cc in
        sym named ∙ own_name word s (found_holds (answers_to word) (λ s. is_empty s.1) top_names s refl f) (found_passes (answers_to word) top_names s f)

-- the name of the command that is entered
entered_name : (name entry : Text) (rest : List Text) → option_map (λ (q : Text × List Row). q.0) (entered (built command_line) (Some (name, rest))) ≡ Some entry → name ≡ entry
entered_name name entry rest e = go (find (λ (s : Shape). answers_to name (label_of s)) (built command_line).subs) refl e
  where
    go : (o : Option Shape) → find (λ (s : Shape). answers_to name (label_of s)) (built command_line).subs ≡ o
        → option_map (λ (q : Text × List Row). q.0) (option_map (λ s. rows_at s rest) o) ≡ Some entry → name ≡ entry
    go None f named = absurd (cc)
    go (Some s) f named =
        let alone = found_holds (λ (s : Shape). answers_to name (label_of s)) (λ (s : Shape). is_empty s.aliases) (built command_line).subs s refl f in
        let is : s.name ≡ entry = cc in
        sym (own_name name (label_of s) alone (found_passes (λ (s : Shape). answers_to name (label_of s)) (built command_line).subs s f)) ∙ is

-- the first word without a fault names a command, or is `--`
top_turn : (word : Text) → turn_fault top_shape top_names start word ≡ [] → ((name : Text) × (subcommand_met top_names idle word ≡ Some name)) ⊎ (word ≡ codes "--")
top_turn word none = go (subcommand_met top_names idle word) refl none
  where
    go : (o : Option Text) → subcommand_met top_names idle word ≡ o
        → or_else (other_fault top_shape o word (holding [] None))
        (step_fault top_shape 1 (subcommand_or_other top_shape.rules o idle 1 word (holding [] None)).0
        (subcommand_or_other top_shape.rules o idle 1 word (holding [] None)).1) ≡ []
        → ((name : Text) × (subcommand_met top_names idle word ≡ Some name)) ⊎ (word ≡ codes "--")
    go (Some name) is e = inl (name, is)
    go None is e = inr ((bytes_eq-Decides word (codes "--")).0 (both_other top_shape word (bytes_eq word (codes "--")) (long_of word) e))

-- with no word but the program's name a subcommand is missing
no_word : faults [] ≡ [] → ⊥
unfolding clap_on_literals
no_word e = some_kind _ _ e

-- and so with its name alone
name_alone : (p : Text) → faults (p ∷ []) ≡ [] → ⊥
unfolding clap_on_literals
name_alone p e = some_kind _ _ e

-- after `--` no subcommand can come
dashes_first : (p : Text) (rest : List Text) → faults (p ∷ codes "--" ∷ rest) ≡ [] → ⊥
unfolding clap_on_literals
dashes_first p [] e = some_kind _ _ e
dashes_first p (x ∷ rest) e = some_kind _ _ e

-- a walk that stopped at a subcommand keeps the words after it
stopped_walk : (c : List Rule) (names : Names) (w : Walk) (name : Text) (before rest : List Text)
    → (fold (walked c names) (record w { stopped = Some (name, before) }) rest).stopped ≡ Some (name, before ++ rest)
unfolding walked
stopped_walk c names w name before [] = ap (λ words. Some (name, words)) (sym (append-nil before))
stopped_walk c names w name before (word ∷ rest) =
    stopped_walk c names w name (before ++ word ∷ []) rest ∙ ap (λ words. Some (name, words)) (append_assoc before (word ∷ []) rest)

-- the first word has no fault
first_word : (p word : Text) (rest : List Text) → faults (p ∷ word ∷ rest) ≡ [] → turn_fault top_shape top_names (standing (holding [] None) idle false) word ≡ []
unfolding walk_fault
first_word p word rest e = (or_else-none _ _ (or_else-none _ _ e).0).0

-- after `answer`, its own words have no fault
after_answer : (p : Text) (rest : List Text) → faults (p ∷ codes "answer" ∷ rest) ≡ [] → Fine answer_read (standing (holding [] None) idle false) rest
unfolding walked
after_answer p rest e =
    let below = (or_else-none _ _ (or_else-none _ _ e).1).0 in
    let stop = stopped_walk top_shape.rules top_names (standing (holding [] None) idle false) (codes "answer") [] rest in
    let level : entered_fault (built command_line) (Some (codes "answer", rest)) ≡ [] = ap (entered_fault (built command_line)) (sym stop) ∙ below in
    let parts = or_else-none _ _ level in
    (parts.0, (or_else-none _ _ parts.1).0)

-- where the walk stopped, by what the first word names
abbrev stop_by : Text → List Text → Option Text → Option (Text × List Text)
stop_by word rest o =
    (fold (walked top_shape.rules top_names)
    (after_step top_shape.rules word start (subcommand_or_other top_shape.rules o idle 1 word (holding [] None)).0
    (subcommand_or_other top_shape.rules o idle 1 word (holding [] None)).1) rest).stopped

-- the command that the words name is the one that the first word names
first_name : (p word : Text) (rest : List Text) (name : Text) → subcommand_met top_names idle word ≡ Some name
    → name_read (p ∷ word ∷ rest) ≡ option_map (λ (q : Text × List Row). q.0) (entered (built command_line) (Some (name, rest)))
unfolding walked
first_name p word rest name is =
    ap (λ (o : Option Text). option_map (λ (q : Text × List Row). q.0) (entered (built command_line) (stop_by word rest o))) is
    ∙ ap (λ (stop : Option (Text × List Text)). option_map (λ (q : Text × List Row). q.0) (entered (built command_line) stop)) (stopped_walk top_shape.rules top_names start name [] rest)

-- so the first word is its name
first_is : (p word : Text) (rest : List Text) (name : Text) → faults (p ∷ word ∷ rest) ≡ [] → name_read (p ∷ word ∷ rest) ≡ Some name → word ≡ name
first_is p word rest name e named = go (top_turn word (first_word p word rest e))
  where
    go : ((met : Text) × (subcommand_met top_names idle word ≡ Some met)) ⊎ (word ≡ codes "--") → word ≡ name
    go (inl met) = sym (met_is word met.0 met.1) ∙ entered_name met.0 name rest (sym (first_name p word rest met.0 met.1) ∙ named)
    go (inr dashes) = absurd (dashes_first p rest (subst (λ w. faults (p ∷ w ∷ rest) ≡ []) dashes e))

-- the words of a command are its name, its options, and perhaps `--`
words_of : (command p word : Text) (options rest : List Text) → word ≡ command → EndsOptions options rest → AreWords command options (p ∷ word ∷ rest)
words_of command p word options rest is ends =
    record { program = p; words_are = ⊎_elim (λ same. inl (λ i. p ∷ is i ∷ same i)) (λ same. inr (λ i. p ∷ is i ∷ same i)) ends }

-- the words that ask for an answer
asks_answer : (p word : Text) (rest : List Text) → word ≡ codes "answer" → faults (p ∷ word ∷ rest) ≡ [] → (n : ℕ) × AsksAnswer (p ∷ word ∷ rest) n
asks_answer p word rest is e = go (option_words answer_read rest (after_answer p rest (subst (λ w. faults (p ∷ w ∷ rest) ≡ []) is e)))
  where
    go : (options : List Text) × AreGiven answer_read options × EndsOptions options rest → (n : ℕ) × AsksAnswer (p ∷ word ∷ rest) n
    go (options, inl none, ends) = (1, (options, inl (none, refl), words_of (codes "answer") p word options rest is ends))
    go (options, inr given, ends) = (given.0, (options, inr given.1, words_of (codes "answer") p word options rest is ends))

-- only plain words are taken as words of `answer`
pub only_answer_words : (words : List Text) → faults words ≡ [] → name_read words ≡ Some (codes "answer") → (n : ℕ) × AsksAnswer words n
only_answer_words [] e named = absurd (no_word e)
only_answer_words (p ∷ []) e named = absurd (name_alone p e)
only_answer_words (p ∷ word ∷ rest) e named = asks_answer p word rest (first_is p word rest (codes "answer") e named) e
