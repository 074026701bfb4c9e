-- What steps and lists of records have in common, whatever the events. This project's own.
--     RefusalsChangeNothing            a refused event changes nothing
--     BeginningsAreLegal               a legal list stays legal when its end is cut
--     EndsAreLegal                     and its end is legal from what is left then
--     EventsDecide                     the events alone decide the answers
--     stream_changed                   whether an event changes streams, and which: a stream that opens is the next one
--     StreamsStandApart                streams don't touch each other, and Put, Delete and Merge touch none
--     is_write                         whether an event may change what is held
--     OnlyWritesChangeTheStore         only Put, Delete and Merge change what is held
--     NumberStays                      a replica keeps its number
--     CountersNeverFall                the greatest counter that is held of a type never falls
--     OwnCountersRise                  the counter of an own put is above all that are held of its type
--     OwnDeletionsRise                 the counter of an own deletion is above all that are held of its type
use Rattle.std.specs.Prelude.{◌≡◌, ◌≢◌, ℕ, ◌+◌, ◌≤◌, List, ◌++◌, map, Bool, true, false, Option, Some, None, Ok, Err}
use Rattle.std.specs.FinMap as finmap
use Rattle.xds_resource.specs.declared.types.TypeName.{TypeName}
use Rattle.xds_resource.specs.declared.refusal.Refusal.{Refusal}
use Rattle.xds_resource.specs.PerType.{at}
use Rattle.xds_resource.specs.Resources.{NamedBody}
use Rattle.xds_catalogue.specs.Local.{greatest_counter}
use Rattle.xds_events.specs.Events.{Event, Open, Request, Poll, Owes, Close, Put, Delete, Merge, Snapshot, Rest, Since, Written}
use Rattle.xds_events.specs.Steps.{Core, step}
use Rattle.xds_events.specs.Legal.{Record, after, replayed, IsLegal}

-- rule: refused-event
-- a refused event changes nothing
abbrev pub RefusalsChangeNothing : Type 0
RefusalsChangeNothing = (c : Core) (e : Event) (refusal : Refusal) → step c e ≡ Err refusal → after c e ≡ c

-- a legal list stays legal when its end is cut
abbrev pub BeginningsAreLegal : Type 0
BeginningsAreLegal = (c : Core) (rs ss : List Record) → IsLegal c (rs ++ ss) → IsLegal c rs

-- and its end is legal from what is left then
abbrev pub EndsAreLegal : Type 0
EndsAreLegal = (c : Core) (rs ss : List Record) → IsLegal c (rs ++ ss) → IsLegal (replayed c rs) ss

-- the events alone decide the answers
abbrev pub EventsDecide : Type 0
EventsDecide = (c : Core) (rs ss : List Record) → map (λ r. r.event) rs ≡ map (λ r. r.event) ss → IsLegal c rs → IsLegal c ss → rs ≡ ss

-- whether an event changes streams, and which: a stream that opens is the next one
abbrev pub stream_changed : Core → Event → Option ℕ
stream_changed c Open = Some (c.opened + 1)
stream_changed c (Request n m) = Some n
stream_changed c (Poll n which) = Some n
stream_changed c (Owes n which) = None
stream_changed c (Close n) = Some n
stream_changed c (Put t r groups) = None
stream_changed c (Delete t name) = None
stream_changed c (Merge b) = None
stream_changed c Snapshot = None
stream_changed c (Rest t names version cluster) = None
stream_changed c (Since marks) = None

-- Streams don't touch each other, and Put, Delete and Merge touch none.
abbrev pub StreamsStandApart : Type 0
StreamsStandApart = (c : Core) (e : Event) (n : ℕ) → stream_changed c e ≢ Some n → finmap.get (after c e).streams n ≡ finmap.get c.streams n

-- whether an event may change what is held
abbrev pub is_write : Event → Bool
is_write (Put t r groups) = true
is_write (Delete t name) = true
is_write (Merge b) = true
is_write e = false

-- only Put, Delete and Merge change what is held
abbrev pub OnlyWritesChangeTheStore : Type 0
OnlyWritesChangeTheStore = (c : Core) (e : Event) → is_write e ≡ false → (after c e).store ≡ c.store

-- a replica keeps its number
abbrev pub NumberStays : Type 0
NumberStays = (c : Core) (e : Event) → (after c e).replica ≡ c.replica

-- the greatest counter that is held of a type never falls
abbrev pub CountersNeverFall : Type 0
CountersNeverFall = (c : Core) (e : Event) (t : TypeName) → greatest_counter (at c.store t).entries ≤ greatest_counter (at (after c e).store t).entries

-- the counter of an own write is above all that are held of its type
abbrev pub OwnCountersRise : Type 0
OwnCountersRise = (c after : Core) (t : TypeName) (r : NamedBody) (groups : List (List ℕ)) (counter writer : ℕ) → step c (Put t r groups) ≡ Ok (Written counter writer, after) → counter ≡ greatest_counter (at c.store t).entries + 1

-- rule: tombstones
abbrev pub OwnDeletionsRise : Type 0
OwnDeletionsRise = (c after : Core) (t : TypeName) (name : List ℕ) (counter writer : ℕ) → step c (Delete t name) ≡ Ok (Written counter writer, after) → counter ≡ greatest_counter (at c.store t).entries + 1
