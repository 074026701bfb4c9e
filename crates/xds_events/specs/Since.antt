-- Which entries changed after some marks, of each type a count of changes. This project's own.
--     is_above        whether the latest change of a name's entry is above this number
--     changed_after   what stands under the names whose latest change is above this number, deletions included
--     changed_since   the same of each type, by its own mark
--     marks_of        how many writes added or replaced an entry, of each type
use Rattle.std.specs.Prelude.{ℕ, List, Bool, false, nat_lt}
use Rattle.std.specs.Option.{option_map_or}
use Rattle.std.specs.FinMap as finmap
use Rattle.xds_resource.specs.PerType.{PerType, at, per_type}
use Rattle.xds_resource.specs.Writes.{StampedWrite}
use Rattle.xds_catalogue.specs.Holdings.{Holdings}
use Rattle.xds_events.specs.Stores.{Store, Batch}

-- rule: marks
-- whether the latest change of a name's entry is above this number
abbrev pub is_above : Holdings → ℕ → List ℕ → Bool
is_above h mark name = option_map_or (nat_lt mark) (finmap.get h.latest name) false

-- rule: tombstones, rule: marks
-- what stands under the names whose latest change is above this number, deletions included, in ascending order of names
abbrev pub changed_after : Holdings → ℕ → List StampedWrite
changed_after h mark = finmap.values (finmap.retain_keys h.entries (is_above h mark))

-- rule: marks
-- the same of each type, by its own mark
abbrev pub changed_since : Store → PerType ℕ → Batch
changed_since s marks = per_type (λ t. changed_after (at s t) (at marks t))

-- rule: marks
-- how many writes added or replaced an entry, of each type
abbrev pub marks_of : Store → PerType ℕ
marks_of s = per_type (λ t. (at s t).changes)
