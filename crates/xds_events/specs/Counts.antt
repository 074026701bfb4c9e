-- How marks of the program are seen. This project's own.
--     counts_of   the counts, of each type
use Rattle.std.specs.Prelude.{ℕ}
use Rattle.xds_resource.specs.PerType.{PerType}
use Rattle.xds_events.specs.declared.catalogues.Marks.{Marks}

-- the counts, of each type
abbrev pub counts_of : Marks → PerType ℕ
counts_of m = record { cluster = m.cluster; endpoint = m.endpoint; listener = m.listener; route = m.route; secret = m.secret }
