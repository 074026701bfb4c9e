-- The events of a stream's messages, with their answers. This project's own.
--     asked                the stream took a request
--     gave                 a poll of all types gave a response
--     gave_none            the record of a poll that gave no response
--     refused              the record of an event that was refused
--     polled_out           polls that gave these responses, and the one after them, which gave none
--     answered             a request that was taken, and polls until one gave none
--     Refuses              the replica refuses the event, or finds no memory for it where no other refusal applies
use Rattle.std.specs.Prelude.{◌≡◌, ◌⊎◌, ℕ, List, [], ◌∷◌, ◌++◌, map, None, Some, Ok, Err}
use Rattle.xds_resource.specs.declared.refusal.Refusal.{Refusal}
use Rattle.xds_resource.specs.declared.refusal.Refusal.TheVariants.{OutOfMemory}
use Rattle.xds_message.specs.declared.draft.Draft.{Draft}
use Rattle.xds_ledger.specs.declared.outcome.Outcome.{Outcome}
use Rattle.xds_core.specs.Streams.{Message}
use Rattle.xds_core.specs.Events.{Event, Request, Poll, Answered, Polled}
use Rattle.xds_core.specs.Steps.{Core, step}
use Rattle.xds_core.specs.Legal.{Record, IsShort}

-- the stream took a request
abbrev pub asked : ℕ → Message → Outcome → Record
asked n m o = record { event = Request n m; answer = Ok (Answered o) }

-- a poll of all types gave a response
abbrev pub gave : ℕ → Draft → Record
gave n d = record { event = Poll n None; answer = Ok (Polled (Some d)) }

-- and one gave none
abbrev pub gave_none : ℕ → Record
gave_none n = record { event = Poll n None; answer = Ok (Polled None) }

abbrev pub refused : Event → Refusal → Record
refused event e = record { event = event; answer = Err e }

-- polls that gave these responses, and the one after them, which gave none
abbrev pub polled_out : ℕ → List Draft → List Record
polled_out n ds = map (gave n) ds ++ gave_none n ∷ []

-- a request that was taken, and polls until one gave none
abbrev pub answered : ℕ → Message → Outcome → List Draft → List Record
answered n m o ds = asked n m o ∷ polled_out n ds

-- the replica refuses the event, or finds no memory for it where no other refusal applies
abbrev pub Refuses : Core → Event → Refusal → Type 0
Refuses c event e = (step c event ≡ Err e) ⊎ ((e ≡ OutOfMemory) × IsShort c event)
