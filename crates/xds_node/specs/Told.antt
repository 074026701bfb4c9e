-- What the calls of a seat were told, and which of them left no record. This project's own.
--     Calls            all calls of a seat
--     no_calls         those of a seat that made no call
--     also_told        a call more, which was told this entry
--     also_refused     a call of this event more, which left no record for this reason
--     IsTold           it was told one entry more: this event and this answer, under a number above all before
--     IsStepAt         it was told one step of the replica of this number
--     LeavesNoRecord   why an event leaves no record: there was no memory, or no room for a record more
use Rattle.std.specs.Prelude.{◌≡◌, ◌⊎◌, ℕ, ◌+◌, List, [], ◌∷◌, ◌++◌, length, All, Contains, Result, Err}
use Rattle.xds_resource.specs.declared.refusal.Refusal.{Refusal}
use Rattle.xds_resource.specs.declared.refusal.Refusal.TheVariants.{OutOfMemory, JournalFull}
use Rattle.xds_core.specs.Events.{Event, Reply}
use Rattle.xds_core.specs.Steps.{fresh, step}
use Rattle.xds_core.specs.Legal.{Record, answer_of, replayed, IsLegal}
use Rattle.xds_node.specs.Entries.{numbered, AllBelow}

-- All calls of a seat: the records that they were told, each with its number, and those that left no record, each as its event and
-- its refusal; both in the order of the calls.
pub record Calls : Type 0 where
  pub told : List (ℕ × Record)
  pub refused : List Record

-- those of a seat that made no call
abbrev pub no_calls : Calls
no_calls = record { told = []; refused = [] }

-- rule: one-seat
-- a call more, which was told this entry
abbrev pub also_told : ℕ × Record → Calls → Calls
also_told entry c = record { told = c.told ++ entry ∷ []; refused = c.refused }

-- a call of this event more, which left no record for this reason
abbrev pub also_refused : Event → Refusal → Calls → Calls
also_refused event refusal c = record { told = c.told; refused = c.refused ++ record { event = event; answer = Err refusal } ∷ [] }

-- rule: one-seat
-- it was told one entry more: this event and this answer, under a number above all before
abbrev pub IsTold : List (ℕ × Record) → List (ℕ × Record) → Event → Result Reply Refusal → Type 0
IsTold old new event answer = (n : ℕ) × (new ≡ old ++ (n, record { event = event; answer = answer }) ∷ []) × AllBelow n old

-- rule: one-seat
-- It was told one step of the replica of this number. There are the records of all that happened at that replica before, from nothing
-- on, each answered as it answers there; all that was told before is among them; and this event has the next number, and the answer
-- of the step that follows them.
pub record IsStepAt (replica : ℕ) (old new : List (ℕ × Record)) (event : Event) (answer : Result Reply Refusal) : Type 0 where
  pub past : List Record
  pub legal : IsLegal (fresh replica) past
  pub stands : All (Contains (numbered 1 past)) old
  pub told : new ≡ old ++ (length past + 1, record { event = event; answer = answer }) ∷ []
  pub answered : answer ≡ answer_of (step (replayed (fresh replica) past) event)

-- why an event leaves no record: there was no memory, or no room for a record more
abbrev pub LeavesNoRecord : Refusal → Type 0
LeavesNoRecord e = (e ≡ OutOfMemory) ⊎ (e ≡ JournalFull)
