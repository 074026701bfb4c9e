-- A fault stands for good, and a frame that was written is found again.
use Rattle.std.proofs.Common.{◌≡◌, ℕ, List, ◌++◌, ap, sym, refl, inl, inr, Option, Some, None, Result, Ok, Err}
use Rattle.xds_resource.specs.declared.refusal.Refusal.{Refusal}
use Rattle.xds_frames.specs.declared.frame.Frame.{Frame}
use Rattle.xds_frames.specs.Frames.{Framed, frame_bytes, IsFrame, IsFault}
use Rattle.xds_frames.specs.Decoding.{IsFed, GivesNext, Finishes, framed}
use Rattle.xds_frames.proofs.Apart.{fault_or_frame, partial_or_frame, faults_apart, frames_apart}
use Rattle.xds_frames.proofs.Readings.{not_both}

-- rule: whole-frames
pub fed_stands : (left piece after : List ℕ) (e : Refusal) → IsFault left e → IsFed left piece after → after ≡ left
fed_stands left piece after e fault (inl (sound, is)) = absurd (sound e fault)
fed_stands left piece after e fault (inr (d, other, is)) = is

-- rule: whole-frames
pub finished_stands : {T : Type 0} (left : List ℕ) (e : Refusal) (r : Result T Refusal) → IsFault left e → Finishes left r → r ≡ Err e
finished_stands left e (Ok x) fault none = absurd (not_both left e none (inl fault))
finished_stands left e (Err d) fault (inl other) = ap Err (faults_apart left d e other fault)
finished_stands left e (Err d) fault (inr (is, sound, some)) = absurd (sound e fault)

-- rule: whole-frames
-- whatever follows it
pub found : (f : Framed) (rest after : List ℕ) (r : Result (Option Frame) Refusal) → IsFrame f → GivesNext (frame_bytes f ++ rest) r after
    → (g : Frame) × (r ≡ Ok (Some g)) × (framed g ≡ f) × (after ≡ rest)
found f rest after (Ok (Some g)) is_f (is_g, at) = let same = frames_apart f (framed g) rest after is_f is_g at in (g, refl, sym same.0, sym same.1)
found f rest after (Ok None) is_f (part, is) = absurd (partial_or_frame f (frame_bytes f ++ rest) rest is_f refl part)
found f rest after (Err e) is_f (fault, is) = absurd (fault_or_frame f (frame_bytes f ++ rest) rest e is_f refl fault)
