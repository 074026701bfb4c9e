-- How a run of a stream ends: behind the last message that is answered whole. This project's own.
--     IsNothing     `last` are the events that were made of a message that isn't answered whole
--     PollEnds      a poll is refused, or finds no memory, or gives a response that isn't sent
--     PollsEnd      polls gave these responses, which were sent, and with the next one it ends
--     MessageEnds   a request is refused, or finds no memory
--     EndsWithin    less than a frame is left, or what is none
--     IsUnread      the frame spells no request, or there was no memory to read it
--     EndsAtFrame   the next frame is refused, or the request that it spells comes to an end
--     Ends          how a run ends where these bytes are left of those that were read, from this replica
use Rattle.std.specs.Prelude.{◌≡◌, ◌<◌, ◌⊎◌, ℕ, List, [], ◌∷◌, ◌++◌, length, map, All, Result, Ok, Err}
use Rattle.std.specs.Io.KnownBytes.{IsAtEnd}
use Rattle.xds_resource.specs.declared.refusal.Refusal.{Refusal}
use Rattle.xds_resource.specs.declared.refusal.Refusal.TheVariants.{OutOfMemory, Truncated, Device as DeviceRefusal}
use Rattle.xds_message.specs.declared.draft.Draft.{Draft}
use Rattle.xds_ledger.specs.declared.outcome.Outcome.{Outcome}
use Rattle.xds_frames.specs.Frames.{Framed, IsFrame, IsFault, IsPartial, frame_bytes}
use Rattle.xds_frames.specs.Devices.{Device, HasFailed}
use Rattle.xds_core.specs.Streams.{Message}
use Rattle.xds_core.specs.Events.{Request, Poll}
use Rattle.xds_core.specs.Steps.{Core}
use Rattle.xds_core.specs.Legal.{Record, IsShort, replayed}
use Rattle.std.specs.Prelude.{None}
use Rattle.xds_node.specs.Requests.{IsAsking, IsRefused, Spells}
use Rattle.xds_node.specs.Records.{asked, gave, refused}
use Rattle.xds_node.specs.Sending.{Fits, IsUnsent, NoneFailed, sent}

-- `last` are the events that were made of a message that isn't answered whole, and `part` is what was written of its responses.
-- Here there are none.
abbrev pub IsNothing : List Record → List ℕ → Device → Type 0
IsNothing last part output = (last ≡ []) × (part ≡ []) × NoneFailed output

-- A poll is refused, or finds no memory, or gives a response that isn't sent; c is the replica before it.
abbrev pub PollEnds : ℕ → Core → List Record → List ℕ → Refusal → Device → Type 0
PollEnds n c last part e output =
    ((last ≡ refused (Poll n None) e ∷ []) × (part ≡ []) × NoneFailed output)
    ⊎ (((e ≡ OutOfMemory) × IsShort c (Poll n None) × IsNothing last part output)
    ⊎ ((d : Draft) × (last ≡ gave n d ∷ []) × IsUnsent d part e output))

-- Polls gave these responses, which were sent, and with the next one it ends.
abbrev pub PollsEnd : ℕ → Core → List Record → List ℕ → Refusal → Device → Type 0
PollsEnd n c last part e output =
    (ds : List Draft) × (later : List Record) × (piece : List ℕ) × All Fits ds × (last ≡ map (gave n) ds ++ later) × (part ≡ sent ds ++ piece)
    × PollEnds n (replayed c (map (gave n) ds)) later piece e output

-- A request is refused, or finds no memory, or is taken and the polls for its responses come to an end; c is the replica before it.
abbrev pub MessageEnds : ℕ → Core → Message → List Record → List ℕ → Refusal → Device → Type 0
MessageEnds n c m last part e output =
    ((last ≡ refused (Request n m) e ∷ []) × (part ≡ []) × NoneFailed output)
    ⊎ (((e ≡ OutOfMemory) × IsShort c (Request n m) × IsNothing last part output)
    ⊎ ((o : Outcome) × (later : List Record) × (last ≡ asked n m o ∷ later) × PollsEnd n (replayed c (asked n m o ∷ [])) later part e output))

-- Less than a frame is left, or what is none: a fault, or the input ends there, or a read failed, or a piece that came behind it found no room.
abbrev pub EndsWithin : List ℕ → Refusal → Device → Type 0
EndsWithin rest e input =
    (IsFault rest e × NoneFailed input)
    ⊎ (((e ≡ Truncated) × IsPartial rest × (0 < length rest) × IsAtEnd input.after × NoneFailed input)
    ⊎ (((e ≡ DeviceRefusal) × IsPartial rest × HasFailed input)
    ⊎ ((e ≡ OutOfMemory) × ((front piece : List ℕ) × IsPartial front × (rest ≡ front ++ piece)) × NoneFailed input)))

-- The frame spells no request, or there was no memory to read it.
abbrev pub IsUnread : Framed → Refusal → Type 0
IsUnread f e = IsRefused f e ⊎ ((e ≡ OutOfMemory) × IsAsking f.kind)

-- The next frame is refused, or the request that it spells comes to an end.
abbrev pub EndsAtFrame : ℕ → Core → List ℕ → List Record → List ℕ → Refusal → Device → Device → Type 0
EndsAtFrame n c rest last part e input output =
    (f : Framed) × (more : List ℕ) × IsFrame f × (rest ≡ frame_bytes f ++ more) × NoneFailed input
    × ((IsUnread f e × IsNothing last part output) ⊎ ((m : Message) × Spells f m × MessageEnds n c m last part e output))

-- How a run ends where these bytes are left of those that were read, from this replica: well at the end of the input, with nothing
-- left, and else with the first refusal.
abbrev pub Ends : {T : Type 0} → ℕ → Core → List ℕ → List Record → List ℕ → Result T Refusal → Device → Device → Type 0
Ends n c rest last part (Ok x) input output = (rest ≡ []) × IsAtEnd input.after × NoneFailed input × IsNothing last part output
Ends n c rest last part (Err e) input output = (EndsWithin rest e input × IsNothing last part output) ⊎ EndsAtFrame n c rest last part e input output
