-- What a decoder does to the bytes that it was fed and hasn't given yet. This project's own.
--     framed            a frame by its bytes
--     IsSound           no frame that begins with these bytes is at fault so far
--     IsFed             a piece is added behind what is left, or nothing is, behind a fault
--     GivesNext         what is left begins with the frame that is given, with less than one where none is
--     Finishes          nothing is left, or there is a fault, or else something is left
use Rattle.std.specs.Prelude.{◌≡◌, ◌<◌, ◌⊎◌, ℕ, List, [], ◌++◌, length, Option, Some, None, Result, Ok, Err}
use Rattle.xds_resource.specs.declared.refusal.Refusal.{Refusal}
use Rattle.xds_resource.specs.declared.refusal.Refusal.TheVariants.{Truncated}
use Rattle.xds_frames.specs.Frames.{Framed, frame_bytes, IsFrame, IsFault, IsPartial}
use Rattle.xds_frames.specs.declared.frame.Frame.{Frame}

-- a frame by its bytes
abbrev pub framed : Frame → Framed
framed f = record { kind = f.kind; text = f.text.now }

abbrev pub IsSound : List ℕ → Type 0
IsSound left = (e : Refusal) → ¬ (IsFault left e)

-- rule: whole-frames
-- a piece is added behind what is left, or nothing is, behind a fault
abbrev pub IsFed : List ℕ → List ℕ → List ℕ → Type 0
IsFed left piece after = (IsSound left × (after ≡ left ++ piece)) ⊎ ((e : Refusal) × IsFault left e × (after ≡ left))

-- rule: whole-frames
-- what is left begins with the frame that is given, with less than one where none is, or with the fault that is told
abbrev pub GivesNext : List ℕ → Result (Option Frame) Refusal → List ℕ → Type 0
GivesNext left (Ok (Some f)) after = IsFrame (framed f) × (left ≡ frame_bytes (framed f) ++ after)
GivesNext left (Ok None) after = IsPartial left × (after ≡ left)
GivesNext left (Err e) after = IsFault left e × (after ≡ left)

-- rule: whole-frames
-- nothing is left, or there is a fault, or else something is left
abbrev pub Finishes : {T : Type 0} → List ℕ → Result T Refusal → Type 0
Finishes left (Ok _) = left ≡ []
Finishes left (Err e) = IsFault left e ⊎ ((e ≡ Truncated) × IsSound left × (0 < length left))
