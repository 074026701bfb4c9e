-- Changes that are answered together. This project's own.
--     without_return   a line without a carriage return at its end
--     made_line        the line of what became of a line of changes
--     changes_status   the status that they are answered with
use Rattle.std.specs.Prelude.{ℕ, List, ◌++◌, ◌==◌, ◌&&◌, ◌-◌, if◌then◌else◌, codes, decimal, get_or, length, nat_lt, take}
use Rattle.xds_notes.specs.Notes.{refused_line, stamp_line}
use Rattle.xds_changes.specs.declared.made.Made.{Made}
use Rattle.xds_changes.specs.declared.made.Made.TheVariants.{Written, Would, Refused, Left}

-- a line without a carriage return at its end
abbrev pub without_return : List ℕ → List ℕ
without_return line = if nat_lt 0 (length line) && get_or line (length line - 1) 0 == 13 then take (length line - 1) line else line

-- the line of what became of a line of changes
abbrev pub made_line : ℕ → Made → List ℕ
made_line line (Written stamp) = stamp_line line stamp.counter stamp.writer
made_line line Would = codes "line " ++ (decimal line ++ codes ": would be made\n")
made_line line (Refused fault) = refused_line line fault
made_line line Left = codes "line " ++ (decimal line ++ codes ": not made\n")

-- The status that changes are answered with, of which so many were made, or would be, and so many weren't: 200 where each was, 207 where
-- some were, and 422 where none was.
abbrev pub changes_status : ℕ → ℕ → ℕ
changes_status made refused = if refused == 0 then 200 else if made == 0 then 422 else 207
