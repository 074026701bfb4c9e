-- What records are written as: the text of their trace. This project's own.
--     records_text   the text of the trace of some records
--     pieces_text    the texts of segments, one after another
--     draft_kind     the kind of a response's frame, between two spaces
--     WroteSome      a beginning of a text was written
--     WritesText     what a call answers that writes a text
--     WritesTold     the same of the text of records that may not all be told
--     TextsJoin      the texts of segments and of the history that they join are the text of the whole trace
use Rattle.std.specs.Prelude.{◌≡◌, ◌⊎◌, ℕ, List, ◌++◌, take, Result, Ok, Err, codes}
use Rattle.std.specs.List.{flat_map}
use Rattle.xds_resource.specs.declared.refusal.Refusal.{Refusal}
use Rattle.xds_resource.specs.declared.refusal.Refusal.TheVariants.{OutOfMemory, BadTrace, Device as DeviceRefusal}
use Rattle.xds_message.specs.declared.draft.Draft.{Draft}
use Rattle.xds_message.specs.declared.draft.Draft.TheVariants as drafts
use Rattle.xds_frames.specs.Devices.{Device, HasFailed, Wrote}
use Rattle.xds_core.specs.Legal.{Record}
use Rattle.xds_node.specs.Pieces.{Piece, Story}
use Rattle.xds_check.specs.Texts.{trace_text}
use Rattle.xds_trace.specs.Making.{trace_of}
use Rattle.xds_trace.specs.Telling.{BeginsUntold}
use Rattle.xds_trace.specs.Joined.{all_records}

-- the text of the trace of some records
abbrev pub records_text : List Record → List ℕ
records_text rs = trace_text (trace_of rs)

-- the texts of segments, one after another
abbrev pub pieces_text : List Piece → List ℕ
pieces_text ps = flat_map (λ p. records_text p.records) ps

-- the kind of a response's frame, between two spaces
abbrev pub draft_kind : Draft → List ℕ
draft_kind (drafts.Sotw d) = codes " 2 "
draft_kind (drafts.Delta d) = codes " 4 "

-- a beginning of a text was written
abbrev pub WroteSome : Device → List ℕ → Type 0
WroteSome d text = (n : ℕ) × Wrote d (take n text)

-- What a call answers that writes a text: all of it, or a beginning, where there was no memory, or a call of the writer failed.
abbrev pub WritesText : {X : Type 0} → Device → List ℕ → Result X Refusal → Type 0
WritesText d text (Ok x) = Wrote d text
WritesText d text (Err e) = WroteSome d text × ((e ≡ OutOfMemory) ⊎ ((e ≡ DeviceRefusal) × HasFailed d))

-- The same of the text of records that may not all be told: else it refuses by BadTrace, too.
abbrev pub WritesTold : {X : Type 0} → Device → List Record → Result X Refusal → Type 0
WritesTold d rs (Ok x) = Wrote d (records_text rs)
WritesTold d rs (Err e) =
    WroteSome d (records_text rs) × ((e ≡ OutOfMemory) ⊎ (((e ≡ DeviceRefusal) × HasFailed d) ⊎ ((e ≡ BadTrace) × BeginsUntold rs)))

-- The texts of segments, one after another, and of what a history has behind them are the text of the trace of all of it.
abbrev pub TextsJoin : Type 0
TextsJoin = (ps : List Piece) (s : Story) → trace_text (trace_of (all_records ps s)) ≡ pieces_text ps ++ records_text s.records
