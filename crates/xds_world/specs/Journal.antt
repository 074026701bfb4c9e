-- What happens at each replica, from the list of happenings: of each that was possible, the event that it is at a replica. This
-- project's own.
--     oldest        what came first
--     on_stream     an event of the stream of a client that is up, at its replica
--     event_at      what a happening is at a replica, in the world before it: the replica's number, and the event there
--     event_here    the event, if it is at this replica
--     events_from   the events at a replica of a list of happenings, from a world
--     events_at     all that happened at a replica
use Rattle.std.specs.Prelude.{ℕ, List, [], ◌∷◌, ◌++◌, if◌then◌else◌, ◌==◌, Option, Some, None, option_map}
use Rattle.std.specs.Option.{option_and_then, option_map_or}
use Rattle.std.specs.FinMap as finmap
use Rattle.xds_core.specs.Events as events
use Rattle.xds_core.specs.Events.{Event}
use Rattle.xds_cache.specs.Faults.{Test}
use Rattle.xds_script.specs.Happenings.{Happening, AddReplica, AddClient, Put, Delete, Snapshot, Merge, Connect, Change, Up, Poll, Down, Lose, RestPoll}
use Rattle.xds_world.specs.Worlds.{World, Link, empty_world, placed, poll_of, poll_event, happens}

-- ---- one happening

-- what came first
abbrev pub oldest : {X : Type 0} → List X → Option X
oldest [] = None
oldest (x ∷ xs) = Some x

-- an event of the stream of a client that is up, at its replica
abbrev pub on_stream : World → ℕ → (Link → Option Event) → Option (ℕ × Event)
on_stream w c f = option_and_then (λ p. option_and_then (λ l. option_map (λ e. (l.replica, e)) (f l)) p.link) (finmap.get w.peers c)

-- What a happening is at a replica, in the world before it: the replica's number, and the event there. None where a replica comes, or
-- where something happens at a client alone.
abbrev pub event_at : World → Happening → Option (ℕ × Event)
event_at w (Put r t body groups) = Some (r, events.Put t body groups)
event_at w (Delete r t name) = Some (r, events.Delete t name)
event_at w (Snapshot r) = Some (r, events.Snapshot)
event_at w (Merge r b) = option_map (λ x. (r, events.Merge x.1)) (placed w.pool b)
event_at w (Connect c r) = Some (r, events.Open)
event_at w (Up c) = on_stream w c (λ l. option_map (events.Request l.stream) (oldest l.up))
event_at w (Poll c which) = on_stream w c (λ l. Some (events.Poll l.stream which))
event_at w (Lose c) = on_stream w c (λ l. Some (events.Close l.stream))
event_at w (RestPoll c r t answer) = option_and_then (λ p. option_map (λ q. (r, poll_event t q)) (poll_of p t)) (finmap.get w.peers c)
event_at w (AddReplica r) = None
event_at w (AddClient c kind cluster) = None
event_at w (Change c t wish) = None
event_at w (Down c) = None

-- ---- all of a list

-- the event, if it is at this replica
abbrev pub event_here : ℕ → Option (ℕ × Event) → List Event
event_here r (Some (q, e)) = if q == r then e ∷ [] else []
event_here r None = []

-- the events at a replica of a list of happenings, from a world: of those that were possible, in order
abbrev pub events_from : Test → World → ℕ → List Happening → List Event
events_from test w r [] = []
events_from test w r (h ∷ hs) = option_map_or (λ x. event_here r (event_at w h) ++ events_from test x r hs) (happens test w h) (events_from test w r hs)

-- all that happened at a replica
abbrev pub events_at : Test → List Happening → ℕ → List Event
events_at test hs r = events_from test empty_world r hs
