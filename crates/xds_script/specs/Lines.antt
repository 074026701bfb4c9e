-- The lines of a program's input: each is ended by a line feed, which the last may lack. This project's own.
--     feed                a line feed
--     pieces              what stands between bytes of one kind, and before the first and after the last of them
--     without_last_feed   the bytes without the last of them, where that is a line feed
--     lines               the lines; no bytes at all are one empty line, and so is a lone line feed
use Rattle.std.specs.Prelude.{ℕ, ◌-◌, length, take, slice_index, List, ◌==◌, if◌then◌else◌}
use Rattle.std.specs.List.{slice_split}

-- a line feed
abbrev pub feed : ℕ
feed = 10

-- what stands between bytes of one kind, and before the first and after the last of them
abbrev pub pieces : ℕ → List ℕ → List (List ℕ)
pieces mark bytes = slice_split (λ b. b == mark) bytes

-- the bytes without the last of them, where that is a line feed
abbrev pub without_last_feed : List ℕ → List ℕ
without_last_feed bytes = if slice_index bytes (length bytes - 1) == feed then take (length bytes - 1) bytes else bytes

-- the lines; no bytes at all are one empty line, and so is a lone line feed
abbrev pub lines : List ℕ → List (List ℕ)
lines bytes = pieces feed (without_last_feed bytes)
