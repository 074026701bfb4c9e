-- The records of segments and of the history that they join, and what a call answers that makes the trace of them. This project's own.
--     pieces_records   the records of segments, one segment after another
--     all_records      and those of the history behind them
--     Joins            the segments, in this order
--     AddsTo           what a call answers that adds the lines of some records, as `view` sees it
--     AddsAll          the same of records that can all be told: else it found no memory
--     IsUntold         why no trace is made
--     TellsJoined      what a call answers that makes the trace of segments and of a history
use Rattle.std.specs.Prelude.{◌≡◌, ◌≢◌, ◌⊎◌, List, ◌++◌, length, Result, Ok, Err, All}
use Rattle.std.specs.List.{flat_map}
use Rattle.xds_resource.specs.declared.refusal.Refusal.{Refusal}
use Rattle.xds_resource.specs.declared.refusal.Refusal.TheVariants.{OutOfMemory, BadTrace, Gap}
use Rattle.xds_core.specs.Legal.{Record}
use Rattle.xds_node.specs.Entries.{Counted}
use Rattle.xds_node.specs.Pieces.{Piece, pieces_entries, Story}
use Rattle.xds_check.specs.declared.line.Line.{Line}
use Rattle.xds_trace.specs.Making.{trace_of}
use Rattle.xds_trace.specs.Telling.{IsSoundRecord, BeginsUntold}

-- the records of segments, one segment after another
abbrev pub pieces_records : List Piece → List Record
pieces_records ps = flat_map (λ p. p.records) ps

-- and those of the history behind them
abbrev pub all_records : List Piece → Story → List Record
all_records ps s = pieces_records ps ++ s.records

-- the segments, in this order, begin with record 1 and join without a gap up to the first record that the history has
abbrev pub Joins : List Piece → Story → Type 0
Joins ps s = Counted 1 (pieces_entries ps) × (length (pieces_entries ps) ≡ length s.before)

-- What a call answers that adds the lines of some records, as `view` sees it: they stand at the end then, and what was taken could be
-- read. It refuses by BadTrace where the records can't all be told, and else found no memory.
abbrev pub AddsTo : {X : Type 0} → List Line → (X → List Line) → List Record → Result X Refusal → Type 0
AddsTo old view rs (Ok x) = (view x ≡ old ++ trace_of rs) × All IsSoundRecord rs
AddsTo old view rs (Err e) = e ≢ OutOfMemory → (e ≡ BadTrace) × BeginsUntold rs

-- The same of records that can all be told: else it found no memory.
abbrev pub AddsAll : {X : Type 0} → List Line → (X → List Line) → List Record → Result X Refusal → Type 0
AddsAll old view rs (Ok x) = (view x ≡ old ++ trace_of rs) × All IsSoundRecord rs
AddsAll old view rs (Err e) = e ≡ OutOfMemory

-- Why no trace is made: by Gap just where the segments don't join the history, and where they do because there was no memory.
abbrev pub IsUntold : List Piece → Story → Refusal → Type 0
IsUntold ps s e = ((e ≡ Gap) × (Joins ps s → ⊥)) ⊎ (Joins ps s × (e ≡ OutOfMemory))

-- what a call answers that makes the trace of segments and of a history: the trace of their records, in order, where they join
abbrev pub TellsJoined : List Piece → Story → Result (List Line) Refusal → Type 0
TellsJoined ps s (Ok trace) = Joins ps s × (trace ≡ trace_of (all_records ps s))
TellsJoined ps s (Err e) = IsUntold ps s e
