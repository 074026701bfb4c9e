-- Which lines of a trace a picture has. This project's own.
--     is_write_of       whether a line is a write of a type
--     is_shown          whether a line is drawn: all are, or those of a stream with the writes of a type
--     shown_from        the places of the drawn ones among some lines, the first of which has this place
--     shown_places      the places of the lines that are drawn, from 0
use Rattle.std.specs.Prelude.{ℕ, ◌+◌, List, [], ◌∷◌, Bool, false, true, ◌||◌, if◌then◌else◌, Option, Some, None}
use Rattle.xds_resource.specs.declared.types.TypeName.{TypeName}
use Rattle.xds_resource.specs.Any.{write_type}
use Rattle.xds_resource.specs.Types.{is_same_type}
use Rattle.xds_check.specs.declared.line.Line.{Line}
use Rattle.xds_check.specs.declared.line.Line.TheVariants as lines
use Rattle.xds_explain.specs.Looks.{is_on}

-- whether a line is a write of a type
abbrev pub is_write_of : TypeName → Line → Bool
is_write_of t (lines.Write w) = is_same_type (write_type w) t
is_write_of t (lines.Open s) = false
is_write_of t (lines.Close s) = false
is_write_of t (lines.Request s m) = false
is_write_of t (lines.Response s a) = false
is_write_of t (lines.Idle s u) = false

-- whether a line is drawn: all are, or those of a stream with the writes of a type
abbrev pub is_shown : Option (ℕ × TypeName) → Line → Bool
is_shown None l = true
is_shown (Some p) l = is_on p.0 l || is_write_of p.1 l

-- the places of the drawn ones among some lines, the first of which has this place
abbrev pub shown_from : Option (ℕ × TypeName) → ℕ → List Line → List ℕ
shown_from scope place [] = []
shown_from scope place (l ∷ ls) = if is_shown scope l then place ∷ shown_from scope (place + 1) ls else shown_from scope (place + 1) ls

-- the places of the lines that are drawn, from 0
abbrev pub shown_places : Option (ℕ × TypeName) → List Line → List ℕ
shown_places scope trace = shown_from scope 0 trace
