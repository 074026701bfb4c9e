-- The turns by which a client's stream is served: each answers a response or reads a piece. This project's own.
--     variant_of              the variant of a client's stream
--     client_of               the client on a stream of either variant
--     devices                 the devices of a client's stream
--     longest_piece           as many bytes as a piece has at most
--     left_to_do              what is left to be done by a reader that was called so often
--     IsMade                  what is made of an answer: its lines and its frame
--     IsUntellable            no reply, since there was no memory, or the request's text is too long for a frame
--     GivesAnswer             the next frame's answer, none where less than a frame is held, or why there is none
--     Fills                   a piece is read and put behind the bytes that are held
--     NoneFailedOf            no call of any failed
--     TakesOne                the next response is answered
--     ReadsOne                a piece is read, by one call, since less than a frame is held
--     Stops                   it ends
--     Turns                   what a turn comes to
--     NeedsCalls              each call of the reader gave some bytes
--     GoesOn                  responses were answered, and it goes on with what is held then
use Rattle.std.specs.Prelude.{◌≡◌, ◌<◌, ◌≤◌, ◌⊎◌, ◌+◌, ◌-◌, ◌*◌, ℕ, List, [], ◌++◌, length, Bool, true, false, Option, Some, None, Result, Ok, Err, string_bytes}
use Rattle.std.specs.Io.KnownBytes.{Consumes, IsAtEnd}
use Rattle.xds_resource.specs.declared.refusal.Refusal.{Refusal}
use Rattle.xds_resource.specs.declared.refusal.Refusal.TheVariants.{OutOfMemory, FrameTooLong, Truncated, Device as DeviceRefusal}
use Rattle.xds_resource.specs.declared.types.TypeName.{TypeName}
use Rattle.xds_frames.specs.Frames.{Framed, IsFrame, IsFault, IsPartial, frame_bytes}
use Rattle.xds_frames.specs.Devices.{Device, HasFailed, Wrote, most_calls}
use Rattle.xds_cache.specs.Clients.{Client}
use Rattle.xds_client.specs.declared.subscription.StreamVariant.{StreamVariant}
use Rattle.xds_client.specs.declared.subscription.StreamVariant.TheVariants as variants
use Rattle.xds_client.specs.declared.answering.StreamClient.{StreamClient}
use Rattle.xds_client.specs.declared.answering.StreamClient.TheVariants as clients
use Rattle.xds_client.specs.declared.answering.ResponseReply.{ResponseReply}
use Rattle.xds_client.specs.Subscribing.{Fits, asking}
use Rattle.xds_client.specs.Answering.{Answer, Answers, IsUnanswered}
use Rattle.xds_client.specs.Lines.{lines}
use Rattle.xds_client.specs.Exchanges.{Exchange, AreAnswered, client_after, responses, answers, printed}
use Rattle.xds_client.specs.Ending.{Devices, EndsEarly, NoneFailed}

abbrev pub variant_of : StreamClient → StreamVariant
variant_of (clients.Sotw c) = variants.Sotw
variant_of (clients.Delta c) = variants.Delta

abbrev pub client_of : StreamClient → Client
client_of (clients.Sotw c) = c
client_of (clients.Delta c) = c

-- the devices of a client's stream
abbrev pub devices : Device → Device → Device → ℕ → ℕ → Devices
devices input server output before after = record { input = input; server = server; output = output; calls_before = before; calls_after = after }

-- as many bytes as a piece has at most
abbrev pub longest_piece : ℕ
longest_piece = 4096

-- What is left to be done by a reader that was called so often, and with these bytes that were read: it falls with each turn.
abbrev pub left_to_do : ℕ → List ℕ → ℕ
left_to_do calls held = (most_calls - calls) * (longest_piece + 1) + length held

-- what is made of an answer: its lines and its frame
abbrev pub IsMade : StreamVariant → TypeName → Answer → ResponseReply → Type 0
IsMade v t a r = (string_bytes r.lines ≡ lines v t a) × (r.frame.items ≡ frame_bytes (asking v a.text))

-- no reply, since there was no memory, or the request's text is too long for a frame
abbrev pub IsUntellable : StreamVariant → List ℕ → Refusal → Type 0
IsUntellable v text e = (e ≡ OutOfMemory) ⊎ ((e ≡ FrameTooLong) × ¬ Fits v text)

-- the next frame's answer, none where less than a frame is held, or why there is none
abbrev pub GivesAnswer : StreamVariant → TypeName → Client → List ℕ → Result (Option ResponseReply) Refusal → Client → List ℕ → Type 0
GivesAnswer v t c held (Ok (Some r)) left after =
    (f : Framed) × (a : Answer) × IsFrame f × (held ≡ frame_bytes f ++ after) × Answers v c f a × (left ≡ a.left) × IsMade v t a r
GivesAnswer v t c held (Ok None) left after = IsPartial held × (after ≡ held) × (left ≡ c)
GivesAnswer v t c held (Err e) left after = IsFault held e ⊎ ((f : Framed) × (more : List ℕ) × IsFrame f × (held ≡ frame_bytes f ++ more) × IsUnanswered v c f e)

-- A piece is read and put behind the bytes that are held, of which there is less than a frame; or it ends there.
abbrev pub Fills : {T : Type 0} → List ℕ → Device → Result T Refusal → List ℕ → Type 0
Fills held input (Ok x) after = NoneFailed input × ((piece : List ℕ) × (0 < length piece) × Consumes input.before input.after piece × (after ≡ held ++ piece))
Fills held input (Err e) after =
    ((e ≡ DeviceRefusal) × HasFailed input × Consumes input.before input.after [])
    ⊎ (((e ≡ Truncated) × IsAtEnd input.after × NoneFailed input × Consumes input.before input.after [])
    ⊎ ((e ≡ OutOfMemory) × NoneFailed input × ((piece : List ℕ) × Consumes input.before input.after piece)))

-- no call of any failed
abbrev pub NoneFailedOf : Devices → Type 0
NoneFailedOf d = NoneFailed d.input × NoneFailed d.server × NoneFailed d.output

-- the next response is answered
abbrev pub TakesOne : StreamVariant → TypeName → Client → List ℕ → Client → List ℕ → Devices → Type 0
TakesOne v t c held left after d =
    (f : Framed) × (a : Answer) × IsFrame f × (held ≡ frame_bytes f ++ after) × Answers v c f a × (left ≡ a.left)
    × Consumes d.input.before d.input.after [] × Wrote d.server (frame_bytes (asking v a.text)) × Wrote d.output (lines v t a) × NoneFailedOf d
    × (d.calls_after ≡ d.calls_before)

-- a piece is read, by one call, since less than a frame is held
abbrev pub ReadsOne : Client → List ℕ → Client → List ℕ → Devices → Type 0
ReadsOne c held left after d =
    (piece : List ℕ) × Consumes d.input.before d.input.after piece × (after ≡ held ++ piece) × (left ≡ c) × Wrote d.server [] × Wrote d.output [] × NoneFailedOf d
    × IsPartial held × (0 < length piece) × (d.calls_after ≡ d.calls_before + 1)

-- it ends
abbrev pub Stops : StreamVariant → TypeName → Client → List ℕ → Refusal → Devices → Type 0
Stops v t c held e d =
    (came part shown : List ℕ) × Consumes d.input.before d.input.after came × Wrote d.server part × Wrote d.output shown
    × EndsEarly v t c (held ++ came) part shown e d

-- what a turn comes to
abbrev pub Turns : StreamVariant → TypeName → Client → List ℕ → Result Bool Refusal → Client → List ℕ → Devices → Type 0
Turns v t c held (Ok true) left after d = TakesOne v t c held left after d
Turns v t c held (Ok false) left after d = ReadsOne c held left after d
Turns v t c held (Err e) left after d = Stops v t c held e d

-- Each call of the reader gave some bytes, and was made while less than the next response's frame was held: so there weren't more calls
-- than the responses that were answered have bytes, or one more than that many and those that were held before the last call.
abbrev pub NeedsCalls : ℕ → ℕ → ℕ → List ℕ → List ℕ → Type 0
NeedsCalls before after to_go came held =
    (after ≤ before + length came)
    ⊎ ((0 < to_go) × ((front piece : List ℕ) × IsPartial front × (0 < length piece) × (held ≡ front ++ piece) × (after ≤ before + length came + length front + 1)))

-- responses were answered, and it goes on with what is held then
pub record GoesOn (v : StreamVariant) (t : TypeName) (c : Client) (count to_go : ℕ) (left : Client) (held : List ℕ) (d : Devices) : Type 0 where
  pub exchanges : List Exchange
  pub number : length exchanges + to_go ≡ count
  pub read : Consumes d.input.before d.input.after (responses exchanges ++ held)
  pub answered : AreAnswered v c exchanges
  pub leaves : left ≡ client_after c exchanges
  pub wrote : Wrote d.server (answers v exchanges)
  pub told : Wrote d.output (printed v t exchanges)
  pub none_failed : NoneFailedOf d
  pub needed : NeedsCalls d.calls_before d.calls_after to_go (responses exchanges) held
