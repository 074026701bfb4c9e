-- How far replicas have changed, by counts of changes. This project's own.
--     has_all     whether all changes that the second counts have are among those of the first
--     has_moved   whether a replica whose counts these are, if they are known, has changed after others
--     greatest    counts after which nothing changes: of each type the greatest that there is
use Rattle.std.specs.Prelude.{Bool, false, not, ◌&&◌, nat_le, Option, Some, None}
use Rattle.xds_events.specs.declared.catalogues.Marks.{Marks}
use Rattle.xds_changes.specs.MarkTexts.{most_count}

-- whether all changes that the second counts have are among those of the first
abbrev pub has_all : Marks → Marks → Bool
has_all known wanted =
    nat_le wanted.cluster known.cluster && nat_le wanted.endpoint known.endpoint && nat_le wanted.listener known.listener && nat_le wanted.route known.route && nat_le wanted.secret known.secret

-- whether a replica whose counts these are, if they are known, has changed after others
abbrev pub has_moved : Option Marks → Marks → Bool
has_moved None since = false
has_moved (Some now) since = not (has_all since now)

-- counts after which nothing changes: of each type the greatest that there is
abbrev pub greatest : Marks
greatest = record { cluster = most_count; endpoint = most_count; listener = most_count; route = most_count; secret = most_count }
