-- What the seats of worker threads are told, and what they ask for in vain. This project's own.
--     IsGranted       the event was answered, and not refused
--     in_vain         a try that left no record, and why
--     IsTriedBefore   what an event is tried before the try that leaves its record
--     IsTriedInVain   the tries of an event that leaves no record: one, where there was no memory
--     IsTried         an event is tried once, and once more exactly where the journal was full
--     IsAnswered      one event of a seat
--     IsClosing       the close of a stream is asked for: this is told of it, and these tries left no record
use Rattle.std.specs.Prelude.{◌≡◌, ◌⊎◌, ℕ, List, [], ◌∷◌, IsOk, Result, Ok, Err}
use Rattle.xds_resource.specs.declared.refusal.Refusal.{Refusal}
use Rattle.xds_resource.specs.declared.refusal.Refusal.TheVariants.{OutOfMemory, JournalFull}
use Rattle.xds_core.specs.Events.{Event, Reply, Close}
use Rattle.xds_core.specs.Legal.{Record}
use Rattle.xds_node.specs.Told.{IsTold, LeavesNoRecord}

-- the event was answered, and not refused
abbrev pub IsGranted : ℕ × Record → Type 0
IsGranted entry = IsOk entry.1.answer

-- ---- tries

-- a try that left no record, and why
abbrev pub in_vain : Event → Refusal → Record
in_vain event e = record { event = event; answer = Err e }

-- What an event is tried before the try that leaves its record: nothing, or once, where the journal was full.
abbrev pub IsTriedBefore : Event → List Record → Type 0
IsTriedBefore event tries = (tries ≡ []) ⊎ (tries ≡ in_vain event JournalFull ∷ [])

-- The tries of an event that leaves no record: one, where there was no memory; or two, the first of which found the journal full.
abbrev pub IsTriedInVain : Event → Refusal → List Record → Type 0
IsTriedInVain event e tries =
    ((e ≡ OutOfMemory) × (tries ≡ in_vain event e ∷ [])) ⊎ (LeavesNoRecord e × (tries ≡ in_vain event JournalFull ∷ in_vain event e ∷ []))

-- rule: cuts
-- An event is tried once, and once more exactly where the journal was full: these tries of it left no record, and it is recorded then,
-- or it isn't, for this refusal.
abbrev pub IsTried : {T : Type 0} → Event → Result T Refusal → List Record → Type 0
IsTried event (Ok x) tries = IsTriedBefore event tries
IsTried event (Err e) tries = IsTriedInVain event e tries

-- ---- events

-- One event of a seat: the seat was told it with this answer, or it left no record, for this refusal.
abbrev pub IsAnswered : List (ℕ × Record) → List (ℕ × Record) → List Record → Event → Result Reply Refusal → Type 0
IsAnswered old new tries event (Ok reply) = IsTold old new event (Ok reply) × IsTriedBefore event tries
IsAnswered old new tries event (Err e) =
    (IsTold old new event (Err e) × IsTriedBefore event tries) ⊎ (LeavesNoRecord e × (new ≡ old) × IsTriedInVain event e tries)

-- The close of a stream is asked for: this is told of it, and these tries left no record. It is recorded, or it leaves no record.
abbrev pub IsClosing : ℕ → List (ℕ × Record) → List Record → Type 0
IsClosing stream closing tries =
    ((entry : ℕ × Record) × (closing ≡ entry ∷ []) × (entry.1.event ≡ Close stream) × IsTriedBefore (Close stream) tries)
    ⊎ ((e : Refusal) × LeavesNoRecord e × (closing ≡ []) × IsTriedInVain (Close stream) e tries)
