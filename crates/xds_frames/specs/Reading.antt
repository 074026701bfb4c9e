-- All bytes of a stream, read as frames, in whatever pieces they came. This project's own.
--     Splits        these frames stand first, one after another, and then the rest
--     Ends          how the bytes behind the last whole frame end: with it, within a frame, or at a fault
--     IsRead        all frames of the bytes, up to their end or the first fault, and what they are refused by
--     HasDecoded    a decoder that was fed these bytes in all, and gave these frames, has these left
--     HasGivenAll   no more frames come of what is left
--     refused_by    what a call is refused by
use Rattle.std.specs.Prelude.{◌≡◌, ◌<◌, ◌⊎◌, ℕ, List, [], ◌++◌, length, Option, Some, None, Result, Ok, Err, All}
use Rattle.std.specs.List.{flat_map}
use Rattle.xds_resource.specs.declared.refusal.Refusal.{Refusal}
use Rattle.xds_resource.specs.declared.refusal.Refusal.TheVariants.{Truncated}
use Rattle.xds_frames.specs.Frames.{Framed, frame_bytes, IsFrame, IsFault, IsPartial}

-- rule: whole-frames
-- these frames stand first, one after another, and then the rest
pub record Splits (bytes : List ℕ) (frames : List Framed) (rest : List ℕ) : Type 0 where
  pub are_frames : All IsFrame frames
  pub joined : bytes ≡ flat_map frame_bytes frames ++ rest

-- rule: whole-frames
-- how the bytes behind the last whole frame end: with it, within a frame, or at a fault
abbrev pub Ends : List ℕ → Option Refusal → Type 0
Ends rest None = rest ≡ []
Ends rest (Some e) = IsFault rest e ⊎ ((e ≡ Truncated) × IsPartial rest × (0 < length rest))

-- rule: whole-frames
-- all frames of the bytes, up to their end or the first fault, and what they are refused by
pub record IsRead (bytes : List ℕ) (frames : List Framed) (refusal : Option Refusal) : Type 0 where
  pub rest : List ℕ
  pub splits : Splits bytes frames rest
  pub ends : Ends rest refusal

-- rule: whole-frames
-- A decoder that was fed these bytes in all, and gave these frames, has these left. What came behind a fault was passed over.
pub record HasDecoded (fed : List ℕ) (given : List Framed) (left : List ℕ) : Type 0 where
  pub passed : List ℕ
  pub splits : Splits fed given (left ++ passed)
  pub behind : (passed ≡ []) ⊎ ((e : Refusal) × IsFault left e)

-- rule: whole-frames
-- no more frames come of what is left
abbrev pub HasGivenAll : List ℕ → Type 0
HasGivenAll left = IsPartial left ⊎ ((e : Refusal) × IsFault left e)

-- what a call is refused by
abbrev pub refused_by : {T : Type 0} → Result T Refusal → Option Refusal
refused_by (Ok x) = None
refused_by (Err e) = Some e
