-- The turns by which a stream is served: each answers a message or reads a piece. This project's own.
--     IsOpen          the stream is open
--     numbers_left    how many responses the stream can still number
--     longest_piece   as many bytes as a piece has at most
--     left_to_do      what is left to be done by a reader that was called so often, and with these bytes that were read
--     number_in       the number of the stream that was opened
--     draft_in        the response that a poll gave
--     GivesRequest    the next frame's request, none where less than a frame is held, or why there is none
--     Fills           a piece is read and put behind the bytes that are held, of which there is less than a frame
--     SendsDue        polls give responses, each of which is sent, until one gives none
--     AnswersOne      a request is taken and answered
--     GoesOn          messages were answered, and it goes on with what is held then
--     Turns           what a turn comes to: it goes on, or the run ends
use Rattle.std.specs.Prelude.{◌≡◌, ◌≤◌, ◌<◌, ◌⊎◌, ◌+◌, ◌-◌, ◌*◌, ℕ, List, [], ◌++◌, length, All, Bool, true, false, Option, Some, None, Result, Ok, Err, IsSomeAnd}
use Rattle.std.specs.Io.KnownBytes.{Consumes, IsAtEnd}
use Rattle.std.specs.FinMap as finmap
use Rattle.std.specs.Option.{option_map_or}
use Rattle.xds_resource.specs.Stamps.{max_counter}
use Rattle.xds_resource.specs.declared.refusal.Refusal.{Refusal}
use Rattle.xds_resource.specs.declared.refusal.Refusal.TheVariants.{OutOfMemory, Truncated, Device as DeviceRefusal}
use Rattle.xds_message.specs.declared.draft.Draft.{Draft}
use Rattle.xds_ledger.specs.declared.outcome.Outcome.{Outcome}
use Rattle.xds_frames.specs.Frames.{Framed, IsFrame, IsFault, IsPartial, frame_bytes}
use Rattle.xds_frames.specs.Devices.{Device, HasFailed, most_calls}
use Rattle.xds_core.specs.StreamsSeen.{message_of}
use Rattle.xds_core.specs.Streams.{Message}
use Rattle.xds_events.specs.declared.request.Request.{Request}
use Rattle.xds_core.specs.Events.{Reply, Opened, Polled}
use Rattle.xds_core.specs.Steps.{Core}
use Rattle.xds_core.specs.Legal.{Record}
use Rattle.xds_node.specs.Requests.{Spells}
use Rattle.xds_node.specs.Records.{answered, polled_out}
use Rattle.xds_node.specs.Sending.{Fits, NoneFailed, sent}
use Rattle.xds_node.specs.Serving.{Served, IsServed, Does, frames_of, events_of, sent_by}
use Rattle.xds_node.specs.Ending.{IsUnread, MessageEnds, PollsEnd}
use Rattle.xds_node.specs.Running.{Serves}

-- the stream is open
abbrev pub IsOpen : ℕ → Core → Type 0
IsOpen n c = IsSomeAnd (finmap.get c.streams n) (λ s. s.count ≤ max_counter)

-- how many responses the stream can still number
abbrev pub numbers_left : ℕ → Core → ℕ
numbers_left n c = option_map_or (λ s. max_counter - s.count) (finmap.get c.streams n) 0

-- as many bytes as a piece has at most
abbrev pub longest_piece : ℕ
longest_piece = 4096

-- What is left to be done by a reader that was called so often, and with these bytes that were read: it falls with each turn.
abbrev pub left_to_do : ℕ → List ℕ → ℕ
left_to_do calls held = (most_calls - calls) * (longest_piece + 1) + length held

-- the number of the stream that was opened
abbrev pub number_in : Reply → ℕ
number_in (Opened n) = n
number_in r = 0

-- the response that a poll gave
abbrev pub draft_in : Reply → Option Draft
draft_in (Polled d) = d
draft_in r = None

-- ---- messages in

-- The next frame's request, none where less than a frame is held, or why there is none.
abbrev pub GivesRequest : List ℕ → Result (Option Request) Refusal → List ℕ → Type 0
GivesRequest held (Ok (Some q)) after = (f : Framed) × IsFrame f × (held ≡ frame_bytes f ++ after) × Spells f (message_of q)
GivesRequest held (Ok None) after = IsPartial held × (after ≡ held)
GivesRequest held (Err e) after = IsFault held e ⊎ ((f : Framed) × (more : List ℕ) × IsFrame f × (held ≡ frame_bytes f ++ more) × IsUnread f e)

-- A piece is read and put behind the bytes that are held, of which there is less than a frame; or the input ends, with nothing held; or
-- the run ends there.
abbrev pub Fills : List ℕ → Device → Result Bool Refusal → List ℕ → Type 0
Fills held input (Ok true) after = NoneFailed input × ((piece : List ℕ) × Consumes input.before input.after piece × (after ≡ held ++ piece))
Fills held input (Ok false) after = NoneFailed input × IsAtEnd input.after × Consumes input.before input.after [] × (held ≡ [])
Fills held input (Err e) after =
    ((e ≡ DeviceRefusal) × HasFailed input × Consumes input.before input.after [])
    ⊎ (((e ≡ Truncated) × (0 < length held) × IsAtEnd input.after × NoneFailed input × Consumes input.before input.after [])
    ⊎ ((e ≡ OutOfMemory) × NoneFailed input × ((piece : List ℕ) × Consumes input.before input.after piece)))

-- ---- responses out

-- polls give responses, each of which is sent, until one gives none
abbrev pub SendsDue : {T : Type 0} → ℕ → Core → Device → Result T Refusal → Core → Type 0
SendsDue n c output (Ok x) left = (ds : List Draft) × All Fits ds × Does c output (polled_out n ds) (sent ds) left × NoneFailed output
SendsDue n c output (Err e) left = (last : List Record) × (part : List ℕ) × Does c output last part left × PollsEnd n c last part e output

-- a request is taken and answered
abbrev pub AnswersOne : {T : Type 0} → ℕ → Message → Core → Device → Result T Refusal → Core → Type 0
AnswersOne n m c output (Ok x) left = (o : Outcome) × (ds : List Draft) × All Fits ds × Does c output (answered n m o ds) (sent ds) left × NoneFailed output
AnswersOne n m c output (Err e) left = (last : List Record) × (part : List ℕ) × Does c output last part left × MessageEnds n c m last part e output

-- ---- turns

-- messages were answered, and it goes on with what is held then
pub record GoesOn (n : ℕ) (c : Core) (held : List ℕ) (input output : Device) (left : Core) (after : List ℕ) : Type 0 where
  pub came : List ℕ
  pub served : List Served
  pub read : Consumes input.before input.after came
  pub joined : held ++ came ≡ frames_of served ++ after
  pub are_served : All IsServed served
  pub does : Does c output (events_of n served) (sent_by served) left
  pub none_failed : NoneFailed input × NoneFailed output

-- what a turn comes to: it goes on, or the run ends
abbrev pub Turns : ℕ → Core → List ℕ → Device → Device → Result Bool Refusal → Core → List ℕ → Type 0
Turns n c held input output (Ok true) left after = GoesOn n c held input output left after
Turns n c held input output (Ok false) left after = Serves {T = Bool} n c held input output (Ok false) left
Turns n c held input output (Err e) left after = Serves {T = Bool} n c held input output (Err e) left
