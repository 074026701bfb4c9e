-- Lists of records: events with their answers. This project's own.
--     Record      an event and what it was answered
--     answer_of   what a step answers
--     left_by     what is left after a step that began here: a refused event changes nothing
--     after       what a replica is after an event
--     replayed    what a replica is after these records, from a base
--     IsLegal     each answer is the reply of the step after the records before it
--     IsShort     what holds where an event finds no memory: no other refusal applies
use Rattle.std.specs.Prelude.{◌≡◌, List, [], ◌∷◌, Result, Ok, Err, IsOk, IsSomeAnd, ⊤}
use Rattle.std.specs.FinMap as finmap
use Rattle.xds_resource.specs.declared.refusal.Refusal.{Refusal}
use Rattle.xds_events.specs.Streams.{looked_at, IsToRespond}
use Rattle.xds_events.specs.Events.{Event, Poll, Owes, Close, Reply}
use Rattle.xds_events.specs.Steps.{Core, Step, step}

-- an event and what it was answered
pub record Record : Type 0 where
  pub event : Event
  pub answer : Result Reply Refusal

-- what a step answers
abbrev pub answer_of : Step → Result Reply Refusal
answer_of (Ok p) = Ok p.0
answer_of (Err e) = Err e

-- rule: refused-event
-- what is left after a step that began here: a refused event changes nothing
abbrev pub left_by : Core → Step → Core
left_by c (Ok p) = p.1
left_by c (Err e) = c

-- what a replica is after an event
abbrev pub after : Core → Event → Core
after c e = left_by c (step c e)

-- what a replica is after these records, from a base
abbrev pub replayed : Core → List Record → Core
replayed c [] = c
replayed c (r ∷ rs) = replayed (after c r.event) rs

-- Each answer is the reply of the step after the records before it.
abbrev pub IsLegal : Core → List Record → Type 0
IsLegal c [] = ⊤
IsLegal c (r ∷ rs) = (answer_of (step c r.event) ≡ r.answer) × IsLegal (after c r.event) rs

-- What holds where an event finds no memory: no other refusal applies. A poll needs memory only where a response is due and
-- the stream has a number left for it; a look and a close need none.
abbrev pub IsShort : Core → Event → Type 0
IsShort c (Poll n which) = IsSomeAnd (finmap.get c.streams n) (λ s. IsToRespond c.store s (looked_at which))
IsShort c (Owes n which) = ⊥
IsShort c (Close n) = ⊥
IsShort c e = IsOk (step c e)
