-- What a call answers that plays a script and traces a replica. This project's own.
--     Traces     the commands are played one after the other
--     IsTraced   so it is of a script that has no bad line
use Rattle.std.specs.Prelude.{◌≡◌, ℕ, List, []}
use Rattle.std.specs.Option.{option_map_or}
use Rattle.std.specs.FinMap as finmap
use Rattle.xds_world.specs.Worlds.{world}
use Rattle.xds_script.specs.Commands.{Said}
use Rattle.xds_script.specs.Scripts.{IsScript}
use Rattle.xds_play.specs.Played.{Played, PlaysAll, nothing_played, takes}
use Rattle.xds_check.specs.Texts.{trace_text}
use Rattle.xds_trace.specs.Sites.{trace_at}

-- The commands are played one after the other, and the text is the trace of this replica of the world that they lead to; nothing where
-- there is no such replica.
abbrev pub Traces : ℕ → List Said → List ℕ → Type 0
Traces replica said text = (p : Played) × PlaysAll takes said nothing_played p × (text ≡ option_map_or trace_text (trace_at (finmap.get (world takes p.happened).sites replica)) [])

-- so it is of a script that has no bad line
abbrev pub IsTraced : ℕ → List ℕ → List ℕ → Type 0
IsTraced replica script text = (said : List Said) × IsScript script said × Traces replica said text
