-- A text that is told as one line. This project's own.
--     plain_byte   a byte as it is told: a question mark for one below 32
--     plain_line   the line of a text
use Rattle.std.specs.Prelude.{ℕ, List, [], ◌∷◌, ◌++◌, map, nat_lt, if◌then◌else◌}

-- a byte as it is told: a question mark for one below 32, a line feed among them
abbrev pub plain_byte : ℕ → ℕ
plain_byte b = if nat_lt b 32 then 63 else b

-- the line of a text
abbrev pub plain_line : List ℕ → List ℕ
plain_line text = map plain_byte text ++ 10 ∷ []
