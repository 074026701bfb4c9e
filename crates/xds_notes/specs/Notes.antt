-- What a server tells on its error output while it serves. This project's own.
--     caused_line    the line of a line of the input that is refused, with what is wrong of it
--     long_line      the line of one by which a response would be too long
--     uncaused_line  the line of one whose line is well, by which a response may be too long
--     refused_by     the line of either
--     refused_line   the line of a line of the input that is refused, with what is known of it
--     store_line     the line of what is so of the store
--     said_line      a line of this text
--     recording_line  the line of a recording that ended by a refusal
--     note_line      the line of a note
--     stamp_line     the line of a line that was made a write, which has this stamp
--     Refusals       lines that were refused, by their numbers
--     most_recent    as many of them as are kept
--     still_kept     those that stay where one more is refused
--     IsKeptBehind   one more was refused: it stands behind the last ones, or there was no memory for it
--     recent_before  the lines of them, the last one first, and this text behind them
--     recent_text    the lines of them, the last one first
use Rattle.std.specs.Prelude.{◌≡◌, ◌⊎◌, ℕ, List, [], ◌∷◌, ◌++◌, length, drop, nat_le, if◌then◌else◌, Option, Some, None, codes, decimal, string_bytes}
use Rattle.xds_resource.specs.declared.refusal.Refusal.{Refusal}
use Rattle.xds_resource.specs.Refusals.{number_of, name_of}
use Rattle.xds_causes.specs.declared.cause.Cause.{Cause}
use Rattle.xds_notes.specs.declared.fault.Fault.{Fault}
use Rattle.xds_notes.specs.declared.fault.LongResponse.{LongResponse}
use Rattle.xds_notes.specs.declared.note.Note.{Note}
use Rattle.xds_notes.specs.declared.note.Note.TheVariants.{Refused, Event, Json, Missed, RecordingEnded, Store, Said}
use Rattle.xds_causes.specs.Causes.{cause_text}
use Rattle.xds_stats.specs.Logging.{event_line, json_line}
use Rattle.xds_stats.specs.Sizes.{long_text}
use Rattle.xds_notes.specs.Endings.{fault_line}

-- the line of a line of the input that is refused, with what is wrong of it
abbrev pub caused_line : ℕ → Refusal → Cause → List ℕ
caused_line line refusal cause =
    codes "line " ++ (decimal line ++ (codes ": " ++ (decimal (number_of refusal) ++ (codes " " ++ (name_of refusal ++ (codes ": " ++ (cause_text cause ++ codes "\n")))))))

-- the line of one by which a response would be too long
abbrev pub long_line : ℕ → Refusal → LongResponse → List ℕ
long_line line refusal long =
    codes "line " ++ (decimal line ++ (codes ": " ++ (decimal (number_of refusal) ++ (codes " " ++ (name_of refusal ++ (codes ": " ++ (long_text long.kind long.bytes ++ codes "\n")))))))

-- the line of one whose line is well, by which a response may be too long
abbrev pub uncaused_line : ℕ → Refusal → Option LongResponse → List ℕ
uncaused_line line refusal None = fault_line line refusal
uncaused_line line refusal (Some long) = long_line line refusal long

abbrev pub refused_by : ℕ → Refusal → Option Cause → Option LongResponse → List ℕ
refused_by line refusal None long = uncaused_line line refusal long
refused_by line refusal (Some cause) long = caused_line line refusal cause

-- the same, or without that, where it isn't known
abbrev pub refused_line : ℕ → Fault → List ℕ
refused_line line fault = refused_by line fault.refusal fault.cause fault.long

-- the line of what is so of the store
abbrev pub store_line : List ℕ → List ℕ
store_line text = codes "the store " ++ (text ++ codes "\n")

-- a line of this text
abbrev pub said_line : List ℕ → List ℕ
said_line text = text ++ codes "\n"

-- the line of a recording that ended by a refusal
abbrev pub recording_line : ℕ → Refusal → List ℕ
recording_line replica refusal =
    codes "recording of replica " ++ (decimal replica ++ (codes " ended: " ++ (decimal (number_of refusal) ++ (codes " " ++ (name_of refusal ++ codes "\n")))))

-- the line of a note
abbrev pub note_line : Note → List ℕ
note_line (Refused line fault) = refused_line line fault
note_line (Event time event) = event_line (string_bytes time) event
note_line (Json time event) = json_line (string_bytes time) event
note_line (Missed count) = decimal count ++ codes " lines are left out\n"
note_line (RecordingEnded replica refusal) = recording_line replica refusal
note_line (Store text) = store_line (string_bytes text)
note_line (Said text) = said_line (string_bytes text)

-- the line of a line that was made a write, which has this stamp
abbrev pub stamp_line : ℕ → ℕ → ℕ → List ℕ
stamp_line line counter writer =
    codes "line " ++ (decimal line ++ (codes ": " ++ (decimal counter ++ (codes "-" ++ (decimal writer ++ codes "\n")))))

-- lines that were refused, by their numbers
abbrev pub Refusals : Type 0
Refusals = List (ℕ × Fault)

-- as many of them as are kept
abbrev pub most_recent : ℕ
most_recent = 8

-- those that stay where one more is refused
abbrev pub still_kept : Refusals → Refusals
still_kept lines = if nat_le most_recent (length lines) then drop 1 lines else lines

-- one more was refused: it stands behind the last ones, or there was no memory for it
abbrev pub IsKeptBehind : Refusals → Refusals → ℕ → Fault → Type 0
IsKeptBehind before after line fault = (after ≡ still_kept before ++ (line, fault) ∷ []) ⊎ (after ≡ still_kept before)

-- the lines of them, the last one first, and this text behind them
abbrev pub recent_before : Refusals → List ℕ → List ℕ
recent_before [] text = text
recent_before (r ∷ rs) text = recent_before rs (refused_line r.0 r.1 ++ text)

-- the lines of them, the last one first
abbrev pub recent_text : Refusals → List ℕ
recent_text lines = recent_before lines []
