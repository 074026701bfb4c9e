-- The best write of a name among the lines of a trace, and the line that has it. Lines go by their numbers, from 1, and the line that
-- came first stands first here. This project's own.
--     write_under   the write of the type and the name that a line is, if it is one
--     is_surpassed  whether a write is greater than the one that is kept, or the first
--     better        the greater of the write that is kept and that of a line; of two that are equal the one that is kept
--     best_from     the best write of some lines and of what was kept before them
--     best_line     the best write of a name, and the first line that has it
use Rattle.std.specs.Prelude.{ℕ, ◌+◌, List, [], ◌∷◌, Bool, true, if◌then◌else◌, Option, Some, None}
use Rattle.std.specs.Ordering.{is_lt}
use Rattle.std.specs.Option.{option_map, option_and_then}
use Rattle.xds_resource.specs.declared.types.TypeName.{TypeName}
use Rattle.xds_resource.specs.Best.{if_named}
use Rattle.xds_resource.specs.Writes.{StampedWrite, write_cmp}
use Rattle.xds_check.specs.declared.line.Line.{Line}
use Rattle.xds_check.specs.declared.line.Line.TheVariants as lines
use Rattle.xds_check.specs.Writes.{write_of}

-- the write of the type and the name that a line is, if it is one
abbrev pub write_under : TypeName → List ℕ → Line → Option StampedWrite
write_under t name (lines.Write w) = option_and_then (if_named name) (write_of t w)
write_under t name (lines.Open s) = None
write_under t name (lines.Close s) = None
write_under t name (lines.Request s m) = None
write_under t name (lines.Response s a) = None
write_under t name (lines.Idle s u) = None

-- rule: greatest-write
-- whether a write is greater than the one that is kept, or the first
abbrev pub is_surpassed : Option StampedWrite → StampedWrite → Bool
is_surpassed None w = true
is_surpassed (Some k) w = is_lt (write_cmp k w)

-- rule: greatest-write
-- the greater of the write that is kept and that of a line; of two that are equal the one that is kept
abbrev pub better : Option (ℕ × StampedWrite) → ℕ → Option StampedWrite → Option (ℕ × StampedWrite)
better kept number None = kept
better kept number (Some w) = if is_surpassed (option_map (λ k. k.1) kept) w then Some (number, w) else kept

-- rule: greatest-write
-- the best write of some lines, the first of which has this number, and of what was kept before them
abbrev pub best_from : TypeName → List ℕ → ℕ → List Line → Option (ℕ × StampedWrite) → Option (ℕ × StampedWrite)
best_from t name number [] kept = kept
best_from t name number (l ∷ ls) kept = best_from t name (number + 1) ls (better kept number (write_under t name l))

-- the best write of a name, and the first line that has it
abbrev pub best_line : TypeName → List ℕ → List Line → Option (ℕ × StampedWrite)
best_line t name trace = best_from t name 1 trace None
