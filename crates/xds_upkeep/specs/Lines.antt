-- What is told of writes that aren't stored, and of references that lead nowhere. This project's own.
--     unstored_line   the line of a line of changes that was made a write of this stamp, and isn't stored
--     dangling_line   the line of a reference from one resource to another that isn't held
--     refusal_behind  a refusal behind what it is of
--     long_behind     the same of one for the length of a response, which is told behind it
--     refused_as      whichever of the two it is
--     refused_text    a refusal behind what it is of, with what is known of it
use Rattle.std.specs.Prelude.{ℕ, List, ◌++◌, Option, Some, None, codes, decimal}
use Rattle.xds_resource.specs.declared.refusal.Refusal.{Refusal}
use Rattle.xds_resource.specs.Refusals.{number_of, name_of}
use Rattle.xds_stats.specs.Sizes.{long_text}
use Rattle.xds_notes.specs.declared.fault.Fault.{Fault}
use Rattle.xds_notes.specs.declared.fault.LongResponse.{LongResponse}

-- the line of a line of changes that was made a write of this stamp, and isn't stored
abbrev pub unstored_line : ℕ → ℕ → ℕ → List ℕ
unstored_line line counter writer = codes "line " ++ (decimal line ++ (codes ": " ++ (decimal counter ++ (codes "-" ++ (decimal writer ++ codes ", not stored\n")))))

-- the line of a reference from one resource to another that isn't held
abbrev pub dangling_line : List ℕ → List ℕ → List ℕ
dangling_line from to = from ++ (codes " refers to " ++ (to ++ codes ", which isn't held"))

-- a refusal behind what it is of
abbrev pub refusal_behind : List ℕ → Refusal → List ℕ
refusal_behind of refusal = of ++ (codes ": " ++ (decimal (number_of refusal) ++ (codes " " ++ name_of refusal)))

-- the same of one for the length of a response, which is told behind it
abbrev pub long_behind : List ℕ → Refusal → LongResponse → List ℕ
long_behind of refusal long = refusal_behind of refusal ++ (codes ": " ++ long_text long.kind long.bytes)

-- whichever of the two it is
abbrev pub refused_as : List ℕ → Refusal → Option LongResponse → List ℕ
refused_as of refusal None = refusal_behind of refusal
refused_as of refusal (Some long) = long_behind of refusal long

-- a refusal behind what it is of, with what is known of it
abbrev pub refused_text : List ℕ → Fault → List ℕ
refused_text of fault = refused_as of fault.refusal fault.long
