-- Replies that are given twice, to one who keeps an event and a copy of what it was answered. This project's own.
--     is_light        whether a reply has neither a response nor a batch, so that a second one takes no memory
--     poll_in         the stream and the type of a poll, if an event is one
--     IsShortBeside   what holds where an event that stays with the caller finds no memory
use Rattle.std.specs.Prelude.{ℕ, Bool, true, false, Option, Some, None, ⊤}
use Rattle.xds_resource.specs.declared.types.TypeName.{TypeName}
use Rattle.xds_events.specs.Events.{Event, Poll, Put, Merge, Reply, Polled, Entries, Rested, Changed}
use Rattle.xds_events.specs.Steps.{Core}
use Rattle.xds_events.specs.Legal.{IsShort}

-- whether a reply has neither a response nor a batch, so that a second one takes no memory
abbrev pub is_light : Reply → Bool
is_light (Polled (Some draft)) = false
is_light (Entries batch) = false
is_light (Rested (Some draft)) = false
is_light (Changed batch marks) = false
is_light reply = true

-- the stream and the type of a poll, if an event is one
abbrev pub poll_in : Event → Option (ℕ × Option TypeName)
poll_in (Poll n which) = Some (n, which)
poll_in e = None

-- What holds where an event that stays with the caller finds no memory. A put and a merge are copied before anything is
-- looked at, so with them another refusal may apply.
abbrev pub IsShortBeside : Core → Event → Type 0
IsShortBeside c (Put t r groups) = ⊤
IsShortBeside c (Merge b) = ⊤
IsShortBeside c e = IsShort c e
