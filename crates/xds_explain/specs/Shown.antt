-- How a text of others is told, in words and in a picture. XML 1.0 has the characters that a picture may have, and its entities; the
-- rest is this project's own.
--     is_hidden    whether a character isn't shown
--     shown_char   what stands for a character: a question mark for one that isn't shown
--     beginning    so many characters of a text at most, as they are shown
--     is_longer    whether a text has more characters than so many
--     excerpt      the beginning, and three dots where there is more
--     entity       the entity that stands for a character by which XML begins or ends something, if it is one
--     xml_char     what stands for a character in XML
--     escaped      a text, as XML
use Rattle.std.specs.Prelude.{ℕ, List, [], ◌++◌, ◌==◌, Bool, ◌&&◌, ◌||◌, if◌then◌else◌, length, take, flat_map, codes, encode_utf8, Option, Some, None, nat_lt, nat_le}
use Rattle.std.specs.Option.{unwrap_or}
use Rattle.std.specs.Str.{chars}

-- Whether a character isn't shown: one of control, one that turns the direction of a text or ends its line, and the two that XML
-- doesn't know.
abbrev pub is_hidden : ℕ → Bool
is_hidden c =
    nat_lt c 32 || (nat_le 127 c && nat_le c 159) || (nat_le 8232 c && nat_le c 8238) || (nat_le 8294 c && nat_le c 8297) || c == 65534 || c == 65535

-- what stands for a character: a question mark for one that isn't shown
abbrev pub shown_char : ℕ → ℕ
shown_char c = if is_hidden c then 63 else c

-- so many characters of a text at most, as they are shown
abbrev pub beginning : ℕ → List ℕ → List ℕ
beginning most text = flat_map (λ c. encode_utf8 (shown_char c)) (take most (chars text))

-- whether a text has more characters than so many
abbrev pub is_longer : ℕ → List ℕ → Bool
is_longer most text = nat_lt most (length (chars text))

-- the beginning, and three dots where there is more
abbrev pub excerpt : ℕ → List ℕ → List ℕ
excerpt most text = if is_longer most text then beginning most text ++ codes "..." else beginning most text

-- the entity that stands for a character by which XML begins or ends something, if it is one: `<`, `>`, `&` and both quotes
abbrev pub entity : ℕ → Option (List ℕ)
entity c =
    if c == 60 then Some (codes "&lt;") else if c == 62 then Some (codes "&gt;") else if c == 38 then Some (codes "&amp;")
    else if c == 34 then Some (codes "&quot;") else if c == 39 then Some (codes "&#39;") else None

-- what stands for a character in XML
abbrev pub xml_char : ℕ → List ℕ
xml_char c = unwrap_or (entity c) (encode_utf8 (shown_char c))

-- a text, as XML
abbrev pub escaped : List ℕ → List ℕ
escaped text = flat_map xml_char (chars text)
