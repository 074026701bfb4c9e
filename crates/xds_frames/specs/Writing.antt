-- What is written of a frame, or why it is refused. This project's own.
--     length_conditions             why a text is too long for a frame
--     head_written                  the bytes before a text of this length, or `FrameTooLong`
--     frame_written                 the bytes of a frame with this text, or `FrameTooLong`
--     frame_added                   the same behind other bytes
use Rattle.std.specs.Prelude.{ℕ, ◌+◌, List, [], ◌∷◌, ◌++◌, length, Bool, Result, nat_lt}
use Rattle.xds_resource.specs.declared.refusal.Refusal.{Refusal}
use Rattle.xds_resource.specs.declared.refusal.Refusal.TheVariants.{FrameTooLong}
use Rattle.xds_resource.specs.Refusals.{unless_refused}
use Rattle.xds_frames.specs.declared.frame.FrameKind.{FrameKind}
use Rattle.xds_frames.specs.Frames.{frame_bytes, after_length, number_of, longest}

-- a text is too long where its length and the kind's byte are more than a length may count
abbrev pub length_conditions : ℕ → List (Bool × Refusal)
length_conditions size = (nat_lt longest (size + 1), FrameTooLong) ∷ []

-- what stands before a text of this length
abbrev pub head_written : FrameKind → ℕ → Result (List ℕ) Refusal
head_written kind size = unless_refused (length_conditions size) (after_length (size + 1) (number_of kind ∷ []))

abbrev pub frame_written : FrameKind → List ℕ → Result (List ℕ) Refusal
frame_written kind text = unless_refused (length_conditions (length text)) (frame_bytes (record { kind = kind; text = text }))

-- the same behind other bytes
abbrev pub frame_added : List ℕ → FrameKind → List ℕ → Result (List ℕ) Refusal
frame_added front kind text = unless_refused (length_conditions (length text)) (front ++ frame_bytes (record { kind = kind; text = text }))
