-- How many streams a replica has, and may have. This project's own.
--     has_room       there may be one more of so many, where no more than so many may be at a time
--     doors_after    what is counted once a connection came
--     doors_left     what is counted once one that was served has ended
use Rattle.std.specs.Prelude.{ℕ, ◌+◌, ◌-◌, ◌^◌, Bool, true, if◌then◌else◌, min, nat_lt, Option, Some, None}
use Rattle.xds_stats.specs.declared.doors.Doors.{Doors}

abbrev most_count : ℕ
most_count = 2 ^ 64 - 1

-- there may be one more of so many, where no more than so many may be at a time
abbrev pub has_room : ℕ → Option ℕ → Bool
has_room inside None = true
has_room inside (Some most) = nat_lt inside most

-- what is counted once a connection came
abbrev pub doors_after : Doors → Option ℕ → Doors
doors_after doors most =
    if has_room doors.inside most then record doors { inside = min (doors.inside + 1) most_count; opened = min (doors.opened + 1) most_count }
    else record doors { turned_away = min (doors.turned_away + 1) most_count }

-- what is counted once one that was served has ended
abbrev pub doors_left : Doors → Doors
doors_left doors = record doors { inside = doors.inside - 1 }
