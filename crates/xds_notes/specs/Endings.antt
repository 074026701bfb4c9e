-- How a server ends, and what is told of that. This project's own.
--     refusal_line   the line of a refusal
--     fault_line     the line of a refused line of the input
--     TellsText      a text is told, or that there was no memory for it
--     TellsLine      a line is told, or that there was no memory for it
--     TellsEnd       what is told of how a server ended
--     status_of      the status of a server that ended so, or couldn't begin
--     noted          an event as it is told: as a line, or as JSON
--     first_end      what the end was told to be first stays
--     counted_end    the end once a stream more has ended, of those that are still to end
--     most_notes     as many notes as wait to be told, at most
--     has_place      there is a place for a note more
--     counts_missed  how many notes aren't told once one more isn't
--     Adds           a note is added to those that wait, or there was no memory for it and it counts as missed
--     TakesNote      the same where there is a place for it; else it counts as missed
--     Announces      the same as long as something may be told; else nothing changes
--     tells_missed   how many notes aren't told is told now
--     MissedOrEnd    what comes next where no note waits
--     IsNext         what comes next: what waits, in order; then how many notes aren't told; then the end
use Rattle.std.specs.Prelude.{◌≡◌, ◌⊎◌, ℕ, List, ◌∷◌, [], ◌++◌, ◌-◌, ◌==◌, Bool, true, false, if◌then◌else◌, nat_lt, length, Option, Some, None, Result, Ok, Err, String, codes, decimal}
use Rattle.std.specs.Option.{option_map}
use Rattle.std.specs.declared.alloc.Global.{Global}
use Rattle.xds_resource.specs.declared.refusal.Refusal.{Refusal}
use Rattle.xds_resource.specs.declared.refusal.Refusal.TheVariants.{OutOfMemory}
use Rattle.xds_resource.specs.Refusals.{number_of, name_of}
use Rattle.xds_frames.specs.Devices.{Device, Stays, Tells}
use Rattle.xds_notes.specs.declared.ending.End.{End}
use Rattle.xds_notes.specs.declared.ending.End.TheVariants.{Streams, Stopped, Line, Refused}
use Rattle.xds_notes.specs.declared.ending.Next.{Next}
use Rattle.xds_notes.specs.declared.note.Note.{Note}
use Rattle.xds_notes.specs.declared.note.Note.TheVariants.{Event, Json, Missed}
use Rattle.xds_notes.specs.declared.ending.Telling.{Telling}
use Rattle.xds_stats.specs.declared.log_event.LogEvent.{LogEvent}
use Rattle.xds_stats.specs.Boards.{more}

-- the line of a refusal
abbrev pub refusal_line : Refusal → List ℕ
refusal_line refusal = decimal (number_of refusal) ++ codes " " ++ name_of refusal ++ codes "\n"

-- the line of a refused line of the input
abbrev pub fault_line : ℕ → Refusal → List ℕ
fault_line line refusal = codes "line " ++ decimal line ++ codes ": " ++ refusal_line refusal

-- a text is told, or that there was no memory for it
abbrev pub TellsText : {A : Type 0} → (A → List ℕ) → Result A Refusal → Device → Type 0
TellsText bytes (Ok text) errors = Tells errors (bytes text)
TellsText bytes (Err refusal) errors = Tells errors (refusal_line OutOfMemory)

-- a line is told, or that there was no memory for it
abbrev pub TellsLine : List ℕ → Device → Type 0
TellsLine line errors = Tells errors line ⊎ Tells errors (refusal_line OutOfMemory)

-- what is told of how a server ended, or why it couldn't begin: nothing, where it ended as it was asked to
abbrev pub TellsEnd : Result End Refusal → Device → Type 0
TellsEnd (Ok Streams) errors = Stays errors
TellsEnd (Ok Stopped) errors = Stays errors
TellsEnd (Ok (Line line refusal)) errors = TellsLine (fault_line line refusal) errors
TellsEnd (Ok (Refused refusal)) errors = TellsLine (refusal_line refusal) errors
TellsEnd (Err refusal) errors = TellsLine (refusal_line refusal) errors

-- the status of a server that ended so, or couldn't begin
abbrev pub status_of : Result End Refusal → ℕ
status_of (Ok Streams) = 0
status_of (Ok Stopped) = 0
status_of (Ok (Line line refusal)) = 1
status_of (Ok (Refused refusal)) = 1
status_of (Err refusal) = 1

-- an event as it is told: as a line, or as JSON
abbrev pub noted : Telling → String Global → LogEvent → Note
noted telling time event = if telling.json then Json time event else Event time event

-- what the end was told to be first stays
abbrev pub first_end : Option End → End → Option End
first_end None end = Some end
first_end (Some told) end = Some told

-- the end once a stream more has ended, of those that are still to end
abbrev pub counted_end : Option ℕ → Option End → Option End
counted_end None end = end
counted_end (Some left) end = if left - 1 == 0 then first_end end Streams else end

-- as many notes as wait to be told, at most
abbrev pub most_notes : ℕ
most_notes = 1024

-- there is a place for a note more: none where as many wait as may wait, and none once the server ends
abbrev pub has_place : Option End → List Note → Bool
has_place (Some end) notes = false
has_place None notes = nat_lt (length notes) most_notes

-- how many notes aren't told once one more isn't: they are counted as long as something may be told
abbrev pub counts_missed : Bool → ℕ → ℕ
counts_missed is_closed missed = if is_closed then missed else more missed

-- A note is added to those that wait, or there was no memory for it and it counts as missed.
abbrev pub Adds : Bool → Note → List Note → List Note → ℕ → ℕ → Type 0
Adds is_closed note before after missed now =
    ((after ≡ before ++ note ∷ []) × (now ≡ missed)) ⊎ ((after ≡ before) × (now ≡ counts_missed is_closed missed))

-- The same where there is a place for it; else it counts as missed.
abbrev pub TakesNote : Bool → Bool → Note → List Note → List Note → ℕ → ℕ → Type 0
TakesNote true is_closed note before after missed now = Adds is_closed note before after missed now
TakesNote false is_closed note before after missed now = (after ≡ before) × (now ≡ counts_missed is_closed missed)

-- The same as long as something may be told; else nothing changes.
abbrev pub Announces : Bool → Note → List Note → List Note → ℕ → ℕ → Type 0
Announces true note before after missed now = (after ≡ before) × (now ≡ missed)
Announces false note before after missed now = Adds false note before after missed now

-- how many notes aren't told is told now: at once while the server serves, and then once nothing more is to be told
abbrev pub tells_missed : Option End → Bool → ℕ → Bool
tells_missed None is_closed missed = nat_lt 0 missed
tells_missed (Some end) is_closed missed = if is_closed then nat_lt 0 missed else false

-- what comes next where no note waits
abbrev pub MissedOrEnd : Bool → Option End → ℕ → ℕ → Option Next → Type 0
MissedOrEnd true end missed now next = (next ≡ Some (Next.Note (Missed missed))) × (now ≡ 0)
MissedOrEnd false end missed now next = (next ≡ option_map Next.End end) × (now ≡ missed)

-- What comes next: what waits, in order; then how many notes aren't told; then the end.
abbrev pub IsNext : Option End → Bool → List Note → List Note → ℕ → ℕ → Option Next → Type 0
IsNext end is_closed [] after missed now next = (after ≡ []) × MissedOrEnd (tells_missed end is_closed missed) end missed now next
IsNext end is_closed (note ∷ notes) after missed now next = (next ≡ Some (Next.Note note)) × (after ≡ notes) × (now ≡ missed)
