-- The words of a line: one space stands between each two of them. This project's own.
--     Text             bytes
--     space            a space
--     words            the words; a space at the start or the end has an empty word beside it
--     words_in         the words of a text, if there is one
--     split_first      the first word, and the words behind it
--     is_empty         whether no word is there
--     only             the word, where it stands alone
--     two              the two words, where no others stand there
--     text_of          the text whose words these are
--     number_in        the number that a word spells in decimal without leading zeros
--     replica_number   the number of a replica
--     whole_number     the number of a client or of a batch
use Rattle.std.specs.Prelude.{ℕ, List, [], ◌∷◌, Bool, true, false, ◌&&◌, if◌then◌else◌, bytes_eq, nat_le, Option, Some, None, decimal}
use Rattle.std.specs.List.{join_with_byte}
use Rattle.std.specs.Str.Parse.{digits_value}
use Rattle.xds_script.specs.Lines.{pieces}

abbrev pub Text : Type 0
Text = List ℕ

-- a space
abbrev pub space : ℕ
space = 32

-- the words; a space at the start or the end has an empty word beside it, and so have two spaces in a row
abbrev pub words : Text → List Text
words line = pieces space line

-- the words of a text, if there is one
abbrev pub words_in : Option Text → List Text
words_in None = []
words_in (Some line) = words line

-- the first word, and the words behind it
abbrev pub split_first : List Text → Option (Text × List Text)
split_first [] = None
split_first (w ∷ ws) = Some (w, ws)

-- whether no word is there
abbrev pub is_empty : List Text → Bool
is_empty [] = true
is_empty (w ∷ ws) = false

-- the word, where it stands alone
abbrev pub only : List Text → Option Text
only [] = None
only (w ∷ []) = Some w
only (w ∷ x ∷ ws) = None

-- the two words, where no others stand there
abbrev pub two : List Text → Option (Text × Text)
two [] = None
two (w ∷ []) = None
two (w ∷ x ∷ []) = Some (w, x)
two (w ∷ x ∷ y ∷ ws) = None

-- the text whose words these are
abbrev pub text_of : List Text → Option Text
text_of [] = None
text_of (w ∷ ws) = Some (join_with_byte space (w ∷ ws))

-- the number that a word spells in decimal without leading zeros, if it isn't below the least nor above the most
abbrev pub number_in : ℕ → ℕ → Text → Option ℕ
number_in least most w =
    if bytes_eq w (decimal (digits_value 10 w)) && (nat_le least (digits_value 10 w) && nat_le (digits_value 10 w) most) then Some (digits_value 10 w) else None

-- the number of a replica
abbrev pub replica_number : Text → Option ℕ
replica_number w = number_in 1 65535 w

-- the number of a client or of a batch
abbrev pub whole_number : Text → Option ℕ
whole_number w = number_in 1 4294967295 w
