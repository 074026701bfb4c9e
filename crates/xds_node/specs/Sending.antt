-- How responses are sent: each as a frame. This project's own.
--     kind_of      the frame's kind and the text of a response
--     frame_of     the frame of a response
--     Fits         the text isn't longer than a frame's may be
--     sent         the frames of responses, one after another
--     NoneFailed   no call of the reader or the writer failed
--     IsHeadOf     what stands before a frame's text
--     IsUnframed   why a text has no frame
--     IsUnsent     why a response isn't sent, and the part of its frame that was written
--     Sends        what sending a response comes to
use Rattle.std.specs.Prelude.{◌≡◌, ◌⊎◌, ℕ, List, [], ◌++◌, take, Result, Ok, Err}
use Rattle.std.specs.List.{flat_map}
use Rattle.xds_resource.specs.declared.refusal.Refusal.{Refusal}
use Rattle.xds_resource.specs.declared.refusal.Refusal.TheVariants.{FrameTooLong, OutOfMemory, Device as DeviceRefusal}
use Rattle.xds_message.specs.declared.draft.Draft.{Draft}
use Rattle.xds_message.specs.declared.draft.Draft.TheVariants as drafts
use Rattle.xds_message.specs.DraftTexts.{text_of}
use Rattle.xds_frames.specs.declared.frame.FrameKind.{FrameKind}
use Rattle.xds_frames.specs.declared.frame.FrameKind.TheVariants.{DiscoveryResponse, DeltaDiscoveryResponse}
use Rattle.xds_frames.specs.Frames.{Framed, IsFrame, frame_bytes}
use Rattle.xds_frames.specs.Devices.{Device, HasFailed, Wrote}

abbrev pub kind_of : Draft → FrameKind
kind_of (drafts.Sotw d) = DiscoveryResponse
kind_of (drafts.Delta d) = DeltaDiscoveryResponse

-- the frame of a response
abbrev pub frame_of : Draft → Framed
frame_of d = record { kind = kind_of d; text = text_of d }

-- the text isn't longer than a frame's may be
abbrev pub Fits : Draft → Type 0
Fits d = IsFrame (frame_of d)

-- the frames of responses, one after another
abbrev pub sent : List Draft → List ℕ
sent ds = flat_map (λ d. frame_bytes (frame_of d)) ds

-- no call of the reader or the writer failed
abbrev pub NoneFailed : Device → Type 0
NoneFailed d = d.failed_after ≡ d.failed_before

-- Why a response isn't sent, and the part of its frame that was written: it is too long for a frame, there was no memory to write
-- it, or the writer failed, of which a call may have taken the beginning.
abbrev pub IsUnsent : Draft → List ℕ → Refusal → Device → Type 0
IsUnsent d part e output =
    ((e ≡ FrameTooLong) × ¬ Fits d × (part ≡ []) × NoneFailed output)
    ⊎ (((e ≡ OutOfMemory) × (part ≡ []) × NoneFailed output)
    ⊎ ((e ≡ DeviceRefusal) × Fits d × HasFailed output × ((k : ℕ) × (part ≡ take k (frame_bytes (frame_of d))))))

-- what stands before a frame's text
abbrev pub IsHeadOf : Framed → List ℕ → Type 0
IsHeadOf f head = IsFrame f × (head ++ f.text ≡ frame_bytes f)

-- why a text has no frame: it would be too long, or there was no memory
abbrev pub IsUnframed : Framed → Refusal → Type 0
IsUnframed f e = ((e ≡ FrameTooLong) × ¬ IsFrame f) ⊎ (e ≡ OutOfMemory)

-- what sending a response comes to
abbrev pub Sends : {T : Type 0} → Draft → Result T Refusal → Device → Type 0
Sends d (Ok x) output = Fits d × Wrote output (frame_bytes (frame_of d)) × NoneFailed output
Sends d (Err e) output = (part : List ℕ) × Wrote output part × IsUnsent d part e output
