-- What some words of a command line ask for, in plain words, the program's name first. This project's own, by the customs of
-- `clap`.
--     IsReplicaText     the number of a replica, from 1 to 65,535, in decimal digits; a plus may stand before them
--     IsReplicaOption   `--NAME N`, in two words or, with an `=`, in one
--     AreOptions        the options of `answer`; with none of them, replica 1 answers
--     AreTraceOptions   `--trace N`, or nothing, and then no trace is wanted
--     AreWords          the words are the program's name, a command, these options, and perhaps `--`
--     AsksAnswer        the words ask replica `replica` to answer
--     AsksPlay          the words ask for a script to be played, and for no picture
--     AsksCheck         the words ask for a trace to be checked, with no option
use Rattle.std.specs.Prelude.{◌≡◌, ◌⊎◌, ◌≤◌, ℕ, List, [], ◌∷◌, ◌++◌, codes, Option, Some, None}
use Rattle.std.specs.Str.Parse.{IsNumeral, digits_value, without_leading_plus}
use Rattle.clap.specs.Words.{Text}

-- the number of a replica, from 1 to 65,535, in decimal digits; a plus may stand before them
pub record IsReplicaText (text : Text) (replica : ℕ) : Type 0 where
  pub digits : IsNumeral 10 (without_leading_plus text)
  pub value : digits_value 10 (without_leading_plus text) ≡ replica
  pub least : 1 ≤ replica
  pub most : replica ≤ 65535

-- `--NAME N`, in two words or, with an `=`, in one
abbrev pub IsReplicaOption : Text → List Text → ℕ → Type 0
IsReplicaOption name given replica = (text : Text) × IsReplicaText text replica × ((given ≡ (codes "--" ++ name) ∷ text ∷ []) ⊎ (given ≡ (codes "--" ++ name ++ codes "=" ++ text) ∷ []))

-- the options of `answer`; with none of them, replica 1 answers
abbrev pub AreOptions : List Text → ℕ → Type 0
AreOptions given replica = ((given ≡ []) × (replica ≡ 1)) ⊎ IsReplicaOption (codes "replica") given replica

-- `--trace N`, or nothing, and then no trace is wanted
abbrev pub AreTraceOptions : List Text → Option ℕ → Type 0
AreTraceOptions given None = given ≡ []
AreTraceOptions given (Some replica) = IsReplicaOption (codes "trace") given replica

-- The words are the program's name, a command, these options, and perhaps `--`, which ends the options.
pub record AreWords (command : Text) (options words : List Text) : Type 0 where
  pub program : Text
  pub words_are : (words ≡ program ∷ command ∷ options) ⊎ (words ≡ program ∷ command ∷ options ++ codes "--" ∷ [])

-- the words ask replica `replica` to answer
abbrev pub AsksAnswer : List Text → ℕ → Type 0
AsksAnswer words replica = (options : List Text) × AreOptions options replica × AreWords (codes "answer") options words

-- the words ask for a script to be played, and for no picture
abbrev pub AsksPlay : List Text → Option ℕ → Type 0
AsksPlay words trace = (options : List Text) × AreTraceOptions options trace × AreWords (codes "play") options words

-- the words ask for a trace to be checked, with no option
abbrev pub AsksCheck : List Text → Type 0
AsksCheck words = AreWords (codes "check") [] words
