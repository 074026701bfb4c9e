-- What a server is asked for. This project's own.
--     limits_of    what the streams of a replica may be
use Rattle.xds_notes.specs.declared.lookout.Limits.{Limits}
use Rattle.xds_server.specs.declared.server.Serving.{Serving}

-- what the streams of a replica may be
abbrev pub limits_of : Serving → Limits
limits_of serving = record { streams = serving.max_streams; idle_seconds = serving.idle_seconds; refuses_long = serving.refuse_long; workers = serving.workers }
