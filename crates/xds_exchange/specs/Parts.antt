-- How a batch of writes is cut into parts, each of which fits a frame. This project's own.
--     max_writes     a part has at most this many writes
--     max_bytes      and at most this many bytes of bodies and lists of groups
--     groups_bytes   the bytes of the list of groups, as it is written for a write, and none where it isn't
--     weight         what a write weighs in a part
--     is_part        whether some writes are within the bounds of a part
--     parts_behind   the parts of some writes, behind those that the first part has already
--     parts_of       the parts of some writes, of which there are none where there is no write
--     IsNextPart     the first part of some writes is given as a batch, and the writes behind it are left
--     IsFirstPart    the first n of some writes are their first part, as long as the bounds allow
--     batch_frame    the frame of a batch
-- a write of the program, with its type
pub use Rattle.xds_message.specs.Batches.{typed_write}
use Rattle.std.specs.Prelude.{◌≡◌, ◌≤◌, ◌<◌, ◌+◌, ℕ, List, [], ◌∷◌, ◌++◌, map, length, Bool, true, false, not, ◌&&◌, nat_lt, if◌then◌else◌, Option, Some, None, unwrap_or, take}
use Rattle.std.specs.List.{sum_by}
use Rattle.std.specs.Option.{option_map_or}
use Rattle.serde_json.specs.Data.{string}
use Rattle.serde_json.specs.Written.{compact_text}
use Rattle.xds_resource.specs.PerType.{PerType}
use Rattle.xds_resource.specs.TypedWrites.{TypedWrite}
use Rattle.xds_resource.specs.Writes.{StampedWrite}
use Rattle.xds_json.specs.WrittenFields.{list_data}
use Rattle.xds_frames.specs.Frames.{Framed}
use Rattle.xds_frames.specs.declared.frame.FrameKind.TheVariants.{Batch}
use Rattle.xds_message.specs.Batches.{by_type, batch_object}

-- a part has at most this many writes
abbrev pub max_writes : ℕ
max_writes = 512

-- and at most this many bytes of bodies and lists of groups
abbrev pub max_bytes : ℕ
max_bytes = 8388608

-- the bytes of the list of groups, as it is written for a write, and none where it isn't
abbrev pub groups_bytes : List (List ℕ) → ℕ
groups_bytes groups = option_map_or (λ d. length (compact_text d)) (list_data (map string groups)) 0

-- what a write weighs in a part
abbrev pub weight : TypedWrite → ℕ
weight x = length (unwrap_or x.1.body []) + groups_bytes x.1.groups

-- whether some writes are within the bounds of a part
abbrev pub is_part : List TypedWrite → Bool
is_part ws = not (nat_lt max_writes (length ws)) && not (nat_lt max_bytes (sum_by weight ws))

-- The parts of some writes, behind those that the first part has already: it takes the next one where it stays a part with it, and else the next part begins there.
abbrev pub parts_behind : List TypedWrite → List TypedWrite → List (List TypedWrite)
parts_behind part [] = part ∷ []
parts_behind part (x ∷ xs) = if is_part (part ++ x ∷ []) then parts_behind (part ++ x ∷ []) xs else part ∷ parts_behind (x ∷ []) xs

-- the parts of some writes, of which there are none where there is no write
abbrev pub parts_of : List TypedWrite → List (List TypedWrite)
parts_of [] = []
parts_of (x ∷ xs) = parts_behind (x ∷ []) xs

-- The first part of some writes is given as a batch, and the writes behind it are left; or there is no write.
abbrev pub IsNextPart : List TypedWrite → Option (PerType (List StampedWrite)) → List TypedWrite → Type 0
IsNextPart ws None left = (ws ≡ []) × (left ≡ [])
IsNextPart ws (Some b) left = (part : List TypedWrite) × (parts_of ws ≡ part ∷ parts_of left) × (part ++ left ≡ ws) × (is_part part ≡ true) × (0 < length part) × (by_type part ≡ b)

-- the first n of some writes are their first part, as long as the bounds allow
pub record IsFirstPart (ws : List TypedWrite) (n : ℕ) : Type 0 where
  pub there : n ≤ length ws
  pub within : is_part (take n ws) ≡ true
  pub full : n < length ws → is_part (take (n + 1) ws) ≡ false
  pub some : 0 < length ws → 0 < n

-- the frame of a batch
abbrev pub batch_frame : PerType (List StampedWrite) → Framed
batch_frame b = record { kind = Batch; text = compact_text (batch_object b) }
