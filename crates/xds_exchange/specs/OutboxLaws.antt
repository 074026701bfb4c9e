-- What holds of the parts of any writes. This project's own.
--     AreTheWrites   the parts, joined in order, are the writes
--     AreWithin      each part of writes that are held is within the bounds
--     FitFrames      each part of writes that are held fits a frame: the text of its batch is short enough
use Rattle.std.specs.Prelude.{◌≡◌, List, true, All}
use Rattle.std.specs.List.{flat_map}
use Rattle.xds_resource.specs.TypedWrites.{TypedWrite}
use Rattle.xds_message.specs.Batches.{IsSound, by_type}
use Rattle.xds_frames.specs.Frames.{IsFrame}
use Rattle.xds_exchange.specs.Parts.{is_part, parts_of, batch_frame}

-- The parts, joined in order, are the writes.
abbrev pub AreTheWrites : List TypedWrite → Type 0
AreTheWrites ws = flat_map (λ part. part) (parts_of ws) ≡ ws

-- Each part of writes that are held is within the bounds.
abbrev pub AreWithin : List TypedWrite → Type 0
AreWithin ws = All IsSound ws → All (λ part. is_part part ≡ true) (parts_of ws)

-- Each part of writes that are held fits a frame: the text of its batch is short enough.
abbrev pub FitFrames : List TypedWrite → Type 0
FitFrames ws = All IsSound ws → All (λ part. IsFrame (batch_frame (by_type part))) (parts_of ws)
