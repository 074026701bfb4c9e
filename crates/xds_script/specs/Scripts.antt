-- What a script says, line by line, or which of its lines says nothing that is known. This project's own.
--     is_skipped          empty lines are skipped, and those that begin with `#`, whatever follows it
--     text_says           what a line says that isn't skipped, which has to be UTF-8; none where that is no command
--     line_says           what a line says, if anything; none where it is bad
--     is_bad              whether a line is bad
--     first_bad           the number of the first line that is bad, counted from 1
--     said_in             what a line says, where it isn't bad
--     IsScript            the script says this, and no line of it is bad
--     IsRefusedAt         why a script is refused: its first bad line, or at some line there was no memory
use Rattle.std.specs.Prelude.{◌≡◌, ◌⊎◌, ℕ, List, [], ◌∷◌, Bool, true, ◌==◌, if◌then◌else◌, Option, Some, None, is_none, option_map}
use Rattle.std.specs.Option.{option_to_list, unwrap_or}
use Rattle.std.specs.List.{flat_map, position_from}
use Rattle.std.specs.Str.{is_utf8}
use Rattle.xds_resource.specs.declared.refusal.Refusal.{Refusal}
use Rattle.xds_resource.specs.declared.refusal.Refusal.TheVariants.{OutOfMemory, BadScript}
use Rattle.xds_script.specs.Lines.{lines}
use Rattle.xds_script.specs.Words.{words}
use Rattle.xds_script.specs.Commands.{Said, says_words}

-- empty lines are skipped, and those that begin with `#`, whatever follows it
abbrev pub is_skipped : List ℕ → Bool
is_skipped [] = true
is_skipped (b ∷ bs) = b == 35

-- what a line says that isn't skipped, which has to be UTF-8; none where that is no command
abbrev pub text_says : List ℕ → Option Said
text_says line = if is_utf8 line then says_words (words line) else None

-- what a line says, if anything; none where it is bad
abbrev pub line_says : List ℕ → Option (Option Said)
line_says line = if is_skipped line then Some None else option_map Some (text_says line)

abbrev pub is_bad : List ℕ → Bool
is_bad line = is_none (line_says line)

-- the number of the first line that is bad, counted from 1
abbrev pub first_bad : List (List ℕ) → Option ℕ
first_bad ls = position_from is_bad 1 ls

-- what a line says, where it isn't bad
abbrev pub said_in : List ℕ → List Said
said_in line = option_to_list (unwrap_or (line_says line) None)

-- the script says this, and no line of it is bad
pub record IsScript (script : List ℕ) (said : List Said) : Type 0 where
  pub good : first_bad (lines script) ≡ None
  pub says : said ≡ flat_map said_in (lines script)

-- why a script is refused: its first bad line, or at some line there was no memory
abbrev pub IsRefusedAt : List ℕ → ℕ → Refusal → Type 0
IsRefusedAt script line refusal = (refusal ≡ OutOfMemory) ⊎ ((refusal ≡ BadScript) × (first_bad (lines script) ≡ Some line))
