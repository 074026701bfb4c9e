-- How a batch is sent from one replica to another: in parcels, each of which has the frame of a part. This project's own.
--     packed       the parcels of some parts: of each its frame's bytes, and whether it is the last one
--     parcels_of   the parcels of some writes
--     changed_in   a batch that is told and the marks that it comes up to
--     parcels_in   the parcels of what an answer tells
--     marks_in     the marks that an answer comes up to
--     IsFrameOf    the bytes are a frame that spells this batch
use Rattle.std.specs.Prelude.{◌≡◌, ◌==◌, ℕ, List, [], ◌∷◌, ◌++◌, Bool, length, Result, Ok, Err}
use Rattle.serde_json.specs.Data.{Data}
use Rattle.xds_resource.specs.PerType.{PerType, each}
use Rattle.xds_resource.specs.TypedWrites.{TypedWrite}
use Rattle.xds_resource.specs.Writes.{StampedWrite}
use Rattle.xds_frames.specs.declared.frame.FrameKind.TheVariants as kinds
use Rattle.xds_frames.specs.Frames.{IsFrame, frame_bytes}
use Rattle.xds_message.specs.Spelling.{IsJson}
use Rattle.xds_message.specs.Batches.{by_type, in_order, SpellsBatch}
pub use Rattle.xds_exchange.specs.Parts.{batch_frame}
use Rattle.xds_exchange.specs.Parts.{parts_of}
use Rattle.xds_core.specs.Events.{Reply, Changed}

-- the parcels of some parts: of each its frame's bytes, and whether it is the last one
abbrev pub packed : List (List TypedWrite) → List (List ℕ × Bool)
packed [] = []
packed (p ∷ ps) = (frame_bytes (batch_frame (by_type p)), length ps == 0) ∷ packed ps

-- the parcels of some writes
abbrev pub parcels_of : List TypedWrite → List (List ℕ × Bool)
parcels_of ws = packed (parts_of ws)

-- rule: marks
-- a batch that is told and the marks that it comes up to
abbrev pub changed_in : Reply → PerType (List StampedWrite) × PerType ℕ
changed_in (Changed b marks) = (b, marks)
changed_in r = (each [], each 0)

-- the parcels of what an answer tells
abbrev pub parcels_in : {E : Type 0} → Result Reply E → List (List ℕ × Bool)
parcels_in (Ok r) = parcels_of (in_order (changed_in r).0)
parcels_in (Err e) = []

-- rule: marks
-- the marks that an answer comes up to
abbrev pub marks_in : {E : Type 0} → Result Reply E → PerType ℕ
marks_in (Ok r) = (changed_in r).1
marks_in (Err e) = each 0

-- the bytes are a frame that spells this batch
abbrev pub IsFrameOf : List ℕ → PerType (List StampedWrite) → Type 0
IsFrameOf bytes b =
    (text : List ℕ) × (more : List ℕ) × (d : Data) × IsFrame (record { kind = kinds.Batch; text = text }) × (bytes ≡ frame_bytes (record { kind = kinds.Batch; text = text }) ++ more)
    × IsJson text d × SpellsBatch d b
