-- What the parts of a world do, one by one: the answers of the functions that do it. This project's own.
--     fresh_site                       a replica at which nothing happened
--     if_answered                      an answer, and the replica that recorded it, unless the event was refused
--     answered                         what a replica answers to an event, and the replica then
--     blank                            a client that nothing is known of
--     peer_event                       what f makes of a client, in its world
--     leads                            where the stream of a client leads, and its number there
--     draft_in                         the response in a reply to a poll
--     stream_in                        the number in a reply to an opening
--     batch_in                         the batch in a reply to a snapshot
--     rested_in                        the answer in a reply to a poll without a stream
use Rattle.std.specs.Prelude.{ℕ, [], Option, Some, None, option_map, Ok, Err}
use Rattle.xds_message.specs.declared.draft.Draft.{Draft}
use Rattle.xds_message.specs.Drafts.{Drafted}
use Rattle.xds_core.specs.Stores.{Batch}
use Rattle.xds_core.specs.Events as events
use Rattle.xds_core.specs.Events.{Event, Reply}
use Rattle.xds_core.specs.Steps.{Step, step, fresh as fresh_core}
use Rattle.xds_cache.specs.Clients as clients
use Rattle.xds_script.specs.declared.event.ClientKind.TheVariants.{Sotw}
use Rattle.xds_world.specs.Worlds.{Site, Link, Peer, recorded, World, on_peer, with_peer}

-- ---- replicas

-- a replica at which nothing happened
abbrev pub fresh_site : ℕ → Site
fresh_site r = record { core = fresh_core r; journal = [] }

abbrev pub if_answered : Site → Event → Step → Option (Reply × Site)
if_answered s e (Ok p) = Some (p.0, recorded s e p)
if_answered s e (Err refusal) = None

-- what a replica answers to an event, and the replica then; none where the event is refused
abbrev pub answered : Site → Event → Option (Reply × Site)
answered s e = if_answered s e (step s.core e)

-- ---- clients

-- a client that nothing is known of
abbrev pub blank : Peer
blank = record { kind = Sotw; client = clients.fresh [] []; link = None }

-- what f makes of a client, in its world
abbrev pub peer_event : World → ℕ → (Peer → Option Peer) → Option World
peer_event w c f = on_peer w c (λ p. option_map (with_peer w c) (f p))

-- where the stream of a client leads, and its number there
abbrev pub leads : Link → ℕ × ℕ
leads l = (l.replica, l.stream)

-- ---- what the replies to some events say

abbrev pub draft_in : Reply → Option (Option Draft)
draft_in (events.Polled o) = Some o
draft_in reply = None

abbrev pub stream_in : Reply → Option ℕ
stream_in (events.Opened n) = Some n
stream_in reply = None

abbrev pub batch_in : Reply → Option Batch
batch_in (events.Entries b) = Some b
batch_in reply = None

abbrev pub rested_in : Reply → Option (Option Drafted)
rested_in (events.Rested o) = Some o
rested_in reply = None
