-- How a client's stream ends before all responses were answered. This project's own.
--     NoneFailed    no call of the reader or the writer failed
--     IsPart        a beginning of the bytes
--     Devices       what comes in, what goes out to the server, what is printed
--     IsNothing     `part` is what was written to the server of an answer, and `shown` what was printed of it
--     EndsWithin    less than a frame is left, or what is none
--     IsUntold      an answer isn't printed whole, or it is, and isn't written whole
--     EndsAtFrame   the next frame isn't answered, or its answer isn't told
--     EndsEarly     how a client ends where these bytes are left of those that were read
use Rattle.std.specs.Prelude.{◌≡◌, ◌⊎◌, ℕ, List, [], ◌++◌, take}
use Rattle.std.specs.Io.KnownBytes.{IsAtEnd}
use Rattle.xds_resource.specs.declared.refusal.Refusal.{Refusal}
use Rattle.xds_resource.specs.declared.refusal.Refusal.TheVariants.{OutOfMemory, Truncated, Device as DeviceRefusal}
use Rattle.xds_resource.specs.declared.types.TypeName.{TypeName}
use Rattle.xds_frames.specs.Frames.{Framed, IsFrame, IsFault, IsPartial, frame_bytes}
use Rattle.xds_frames.specs.Devices.{Device, HasFailed}
use Rattle.xds_cache.specs.Clients.{Client}
use Rattle.xds_client.specs.declared.subscription.StreamVariant.{StreamVariant}
use Rattle.xds_client.specs.Subscribing.{asking}
use Rattle.xds_client.specs.Answering.{Answer, Answers, IsUnanswered}
use Rattle.xds_client.specs.Lines.{lines}

-- no call of the reader or the writer failed
abbrev pub NoneFailed : Device → Type 0
NoneFailed d = d.failed_after ≡ d.failed_before

-- a beginning of the bytes
abbrev pub IsPart : List ℕ → List ℕ → Type 0
IsPart part bytes = (k : ℕ) × (part ≡ take k bytes)

-- What comes in, what goes out to the server, what is printed, and how many calls of the reader were made before and after.
pub record Devices : Type 0 where
  pub input : Device
  pub server : Device
  pub output : Device
  pub calls_before : ℕ
  pub calls_after : ℕ

-- `part` is what was written to the server of an answer, and `shown` what was printed of it. Here nothing was.
abbrev pub IsNothing : List ℕ → List ℕ → Devices → Type 0
IsNothing part shown d = (part ≡ []) × (shown ≡ []) × NoneFailed d.server × NoneFailed d.output

-- Less than a frame is left, or what is none: a fault, or the input ends there, or a read failed, or a piece that came behind it found
-- no room. The input that ends before the last response is cut off, also where it ends between frames.
abbrev pub EndsWithin : List ℕ → Refusal → Device → Type 0
EndsWithin rest e input =
    (IsFault rest e × NoneFailed input)
    ⊎ (((e ≡ Truncated) × IsPartial rest × IsAtEnd input.after × NoneFailed input)
    ⊎ (((e ≡ DeviceRefusal) × IsPartial rest × HasFailed input)
    ⊎ ((e ≡ OutOfMemory) × ((front piece : List ℕ) × IsPartial front × (rest ≡ front ++ piece)) × NoneFailed input)))

-- An answer isn't printed whole, or it is, and isn't written whole.
abbrev pub IsUntold : StreamVariant → TypeName → Answer → List ℕ → List ℕ → Refusal → Devices → Type 0
IsUntold v t a part shown e d =
    (e ≡ DeviceRefusal)
    × (((part ≡ []) × NoneFailed d.server × IsPart shown (lines v t a) × HasFailed d.output)
    ⊎ (IsPart part (frame_bytes (asking v a.text)) × HasFailed d.server × (shown ≡ lines v t a) × NoneFailed d.output))

-- The next frame isn't answered, or its answer isn't told.
abbrev pub EndsAtFrame : StreamVariant → TypeName → Client → List ℕ → List ℕ → List ℕ → Refusal → Devices → Type 0
EndsAtFrame v t c rest part shown e d =
    (f : Framed) × (more : List ℕ) × IsFrame f × (rest ≡ frame_bytes f ++ more) × NoneFailed d.input
    × ((IsUnanswered v c f e × IsNothing part shown d) ⊎ ((a : Answer) × Answers v c f a × IsUntold v t a part shown e d))

-- How a client ends where these bytes are left of those that were read.
abbrev pub EndsEarly : StreamVariant → TypeName → Client → List ℕ → List ℕ → List ℕ → Refusal → Devices → Type 0
EndsEarly v t c rest part shown e d = (EndsWithin rest e d.input × IsNothing part shown d) ⊎ EndsAtFrame v t c rest part shown e d
