-- How much of a stream's first frame has come. This project's own.
--     length_after   what the first four bytes say of the length, once one byte more has come
--     frame_step     one byte more: the first four say how many follow them
--     frame_after    what is known of a stream's first frame once bytes more have come
--     is_whole       the first frame has come whole
use Rattle.std.specs.Prelude.{ℕ, ◌+◌, ◌-◌, ◌*◌, ◌^◌, ◌&&◌, List, [], ◌∷◌, Bool, if◌then◌else◌, min, nat_lt, nat_le}
use Rattle.xds_streams.specs.declared.first_frame.FirstFrame.{FirstFrame}

abbrev most_count : ℕ
most_count = 2 ^ 64 - 1

-- what the first four bytes say of the length, once one byte more has come
abbrev pub length_after : FirstFrame → ℕ → ℕ
length_after frame byte = if nat_lt frame.come 4 then min (min (frame.length * 256) most_count + byte) most_count else frame.length

-- one byte more: the first four say how many follow them
abbrev pub frame_step : FirstFrame → ℕ → FirstFrame
frame_step frame byte = record { come = min (frame.come + 1) most_count; length = length_after frame byte }

-- what is known of a stream's first frame once bytes more have come
abbrev pub frame_after : FirstFrame → List ℕ → FirstFrame
frame_after frame [] = frame
frame_after frame (byte ∷ bytes) = frame_after (frame_step frame byte) bytes

-- the first frame has come whole
abbrev pub is_whole : FirstFrame → Bool
is_whole frame = nat_le 4 frame.come && nat_le frame.length (frame.come - 4)
