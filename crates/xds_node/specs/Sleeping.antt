-- Which tasks that wait a write wakes. This project's own.
--     is_woken    whether the task of a slot is woken by what was written
--     woken       a slot whose task is woken
--     left_in     a slot once what was written woke its task, or didn't
use Rattle.std.specs.Prelude.{Bool, false, ◌||◌, None, if◌then◌else◌}
use Rattle.xds_node.specs.Concerns.{may_meet}
use Rattle.xds_node.specs.declared.node.concern.Concern.{Concern}
use Rattle.xds_node.specs.declared.node.sleepers.Slot.{Slot}

-- rule: wake-ups
-- Whether the task of a slot is woken by what was written: that may be what its stream wants, or the task waits since writers are held back.
abbrev pub is_woken : Concern → Slot → Bool
is_woken written s = s.is_held || may_meet s.wants written

-- a slot whose task is woken: it waits there no longer
abbrev pub woken : Slot → Slot
woken s = record s { waker = None; is_held = false }

-- rule: wake-ups
-- a slot once what was written woke its task, or didn't
abbrev pub left_in : Concern → Slot → Slot
left_in written s = if is_woken written s then woken s else s
