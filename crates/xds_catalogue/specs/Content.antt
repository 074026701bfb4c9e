-- Which resources of a catalogue a client sees: those that are live and that its interest covers. This project's own.
--     is_live    a write that puts a resource, and no deletion
--     is_shown   live, and covered by the interest of a client
--     content    what a client of this interest sees, in ascending order of names
--     if_live    the write, if it is live
--     live_at    what stands live under a name
use Rattle.std.specs.Prelude.{ℕ, List, Bool, ◌&&◌, Option, Some, None, is_some, if◌then◌else◌}
use Rattle.std.specs.Option.{option_and_then}
use Rattle.std.specs.List.{filter}
use Rattle.std.specs.FinMap as finmap
use Rattle.xds_resource.specs.Writes.{StampedWrite}
use Rattle.xds_interest.specs.Interests.{Selection, covers}
use Rattle.xds_catalogue.specs.Holdings.{Entries}

-- rule: tombstones
-- a write that puts a resource, and no deletion
abbrev pub is_live : StampedWrite → Bool
is_live w = is_some w.body

-- rule: star-covers
-- live, and covered by the interest of a client
abbrev pub is_shown : Selection → StampedWrite → Bool
is_shown s w = is_live w && covers s w.name w.groups

-- rule: star-covers
-- what a client of this interest sees, in ascending order of names
abbrev pub content : Entries → Selection → List StampedWrite
content m s = filter (is_shown s) (finmap.values m)

-- rule: tombstones
-- the write, if it is live
abbrev pub if_live : StampedWrite → Option StampedWrite
if_live w = if is_live w then Some w else None

-- rule: tombstones
-- what stands live under a name
abbrev pub live_at : Entries → List ℕ → Option StampedWrite
live_at m name = option_and_then if_live (finmap.get m name)
