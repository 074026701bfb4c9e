-- Which records a trace can tell, and what a call that makes lines of them answers. This project's own.
--     IsResource                       a body that is the text of a resource of a type
--     HoldsResources                   a response whose resources are of its type
--     IsToldDeletion                   a deletion whose name may be a resource's
--     IsToldSent                       a poll's response, if there is one, that can be told
--     IsToldResponse                   a reply to a poll that can be told
--     IsToldAnswer                     a reply to an event that can be told
--     IsToldBy                         an answer to an event that can be told
--     IsTold                           a record that a trace can tell
--     IsSoundRecord                    what the replica took could be read
--     UnlessShort                      the call found no memory, or this holds
--     Tells                            the call answers what is told, as `view` sees it
--     BeginsUntold                     the first of these records, up to one, aren't all such as can be told
--     TellsAll                         what a call answers that makes the trace of some records: the trace
--     KeepsTheRules                    the records are those of a replica from its start
--     EveryRecordIsTold                every record that is made from a fresh replica can be told
-- a record of the program
pub use Rattle.xds_core.specs.Seen.{record_of}
use Rattle.std.specs.Prelude.{◌≡◌, ◌≢◌, ℕ, List, ◌++◌, map, true, Option, Some, None, Result, Ok, Err, IsOk, IfOk, All, ⊤}
use Rattle.xds_resource.specs.declared.types.TypeName.{TypeName}
use Rattle.xds_resource.specs.declared.refusal.Refusal.{Refusal}
use Rattle.xds_resource.specs.declared.refusal.Refusal.TheVariants.{OutOfMemory, BadTrace}
use Rattle.xds_resource.specs.Resources.{from_value, is_valid_name, value_of}
use Rattle.xds_message.specs.declared.draft.Draft.{Draft}
use Rattle.xds_message.specs.declared.draft.Draft.TheVariants as drafts
use Rattle.xds_core.specs.Events.{Event, Poll, Delete, Reply, Polled, Written}
use Rattle.xds_core.specs.Legal.{Record, IsLegal, replayed}
use Rattle.xds_core.specs.Steps.{fresh}
use Rattle.xds_check.specs.declared.line.Line.{Line}
use Rattle.xds_check.specs.declared.line.Line.TheVariants as lines
use Rattle.xds_check.specs.Rules.{NoneBroken}
use Rattle.xds_trace.specs.Making.{IsSound, trace_of}
use Rattle.xds_trace.specs.Claims.{IsQuiet}

-- a body that is the text of a resource of a type
abbrev pub IsResource : TypeName → List ℕ → Type 0
IsResource t body = IsOk (from_value t (value_of body))

-- a response whose resources are of its type
abbrev pub HoldsResources : Draft → Type 0
HoldsResources (drafts.Sotw d) = All (IsResource d.kind) d.bodies
HoldsResources (drafts.Delta d) = All (λ r. IsResource d.kind r.body) d.resources

abbrev pub IsToldDeletion : List ℕ → Reply → Type 0
IsToldDeletion name (Written counter writer) = is_valid_name name ≡ true
IsToldDeletion name reply = ⊤

abbrev pub IsToldSent : Option Draft → Type 0
IsToldSent None = ⊤
IsToldSent (Some d) = HoldsResources d

abbrev pub IsToldResponse : Reply → Type 0
IsToldResponse (Polled sent) = IsToldSent sent
IsToldResponse reply = ⊤

abbrev pub IsToldAnswer : Event → Reply → Type 0
IsToldAnswer (Poll n which) reply = IsToldResponse reply
IsToldAnswer (Delete t name) reply = IsToldDeletion name reply
IsToldAnswer e reply = ⊤

abbrev pub IsToldBy : Event → Result Reply Refusal → Type 0
IsToldBy e (Ok reply) = IsToldAnswer e reply
IsToldBy e (Err refusal) = ⊤

-- A record that a trace can tell: a response that was sent states resources of its type, and what was deleted has a name that a
-- resource may have. Such are all records that a replica makes.
abbrev pub IsTold : Record → Type 0
IsTold r = IsToldBy r.event r.answer

-- what the replica took could be read
abbrev pub IsSoundRecord : Record → Type 0
IsSoundRecord r = IfOk r.answer (λ reply. IsSound r.event)

-- the call found no memory, or this holds
abbrev pub UnlessShort : {X : Type 0} → Result X Refusal → Type 0 → Type 0
UnlessShort (Ok x) P = P
UnlessShort (Err e) P = e ≢ OutOfMemory → P

-- The call answers what is told, as `view` sees it. It refuses by BadTrace where what it was given can't be told, and else found
-- no memory.
abbrev pub Tells : {X Y : Type 0} → (X → Y) → Y → Type 0 → Result X Refusal → Type 0
Tells view told CanTell (Ok x) = view x ≡ told
Tells view told CanTell (Err e) = e ≢ OutOfMemory → (e ≡ BadTrace) × (CanTell → ⊥)

-- the first of these records, up to one, aren't all such as can be told, though what was taken could be read
pub record BeginsUntold (rs : List Record) : Type 0 where
  pub front : List Record
  pub rest : List Record
  pub joined : rs ≡ front ++ rest
  pub sound : All IsSoundRecord front
  pub untold : ¬ (All IsTold front)

-- What a call answers that makes the trace of some records: the trace. It refuses by BadTrace where they can't all be told, and else
-- found no memory.
abbrev pub TellsAll : {X : Type 0} → (X → List Line) → List Record → Result X Refusal → Type 0
TellsAll view rs (Ok x) = view x ≡ trace_of rs
TellsAll view rs (Err e) = e ≢ OutOfMemory → (e ≡ BadTrace) × BeginsUntold rs

-- The records are those of a replica from its start, and these streams are owed nothing of these types: with lines at its end that say
-- so the trace breaks no rule.
abbrev pub KeepsTheRules : List Record → List Line → Type 0
KeepsTheRules rs trace =
    (replica : ℕ) (quiet : List (ℕ × TypeName)) → IsLegal (fresh replica) rs → All (IsQuiet (replayed (fresh replica) rs)) quiet → NoneBroken (trace ++ map (λ p. lines.Idle p.0 p.1) quiet)

-- Every record that is made from a fresh replica can be told, where what it took could be read.
abbrev pub EveryRecordIsTold : Type 0
EveryRecordIsTold = (replica : ℕ) (rs : List Record) → IsLegal (fresh replica) rs → All IsSoundRecord rs → All IsTold rs
