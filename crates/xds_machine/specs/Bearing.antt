-- The token that is the first line of a file. This project's own.
--     most_token    as many bytes of the file of a token as are looked at
--     line_in       the first line of a text, where it is whole in the bytes that are looked at
--     token_of      a line without the white space around it, unless nothing is left
--     token_in      the token that is the first line of a text, if it has one
--     HasNoToken    bytes have no token
use Rattle.std.specs.Prelude.{◌≡◌, ◌⊎◌, ℕ, List, length, nat_lt, ◌==◌, if◌then◌else◌, Option, Some, None, IsUtf8}
use Rattle.std.specs.List.{position_or_len, before_first}
use Rattle.std.specs.Option.{option_and_then}
use Rattle.std.specs.Str.{trim}

-- as many bytes of the file of a token as are looked at
abbrev pub most_token : ℕ
most_token = 4096

-- the first line of a text, where it is whole in the bytes that are looked at: a line feed ends it, or they are fewer than may be looked at
abbrev pub line_in : List ℕ → Option (List ℕ)
line_in text =
    if position_or_len (λ b. b == 10) text == length text then (if nat_lt (length text) most_token then Some text else None)
    else Some (before_first (λ b. b == 10) text)

-- a line without the white space around it, unless nothing is left
abbrev pub token_of : List ℕ → Option (List ℕ)
token_of line = if length (trim line) == 0 then None else Some (trim line)

-- the token that is the first line of a text, if it has one
abbrev pub token_in : List ℕ → Option (List ℕ)
token_in text = option_and_then token_of (line_in text)

-- bytes have no token: they are no text, or one whose first line is none
abbrev pub HasNoToken : List ℕ → Type 0
HasNoToken bytes = (IsUtf8 bytes → ⊥) ⊎ (token_in bytes ≡ None)
