-- A world: replicas with their journals, clients with their streams and all that is under way on them, and the batches that were
-- taken. What happens in it is one function; what isn't possible, or is refused, changes nothing. This project's own.
--     Site                             a replica, and what happened at it, with the answers
--     Link                             a stream from a client to a replica
--     Peer                             a client, its kind and its link
--     World                            replicas, clients and batches, with all that is under way
--     empty_world                      before anything happened
--     recorded                         the replica once it answered an event
--     answered_at                      an answer and the world after it, unless the event was refused
--     at_site                          what a replica answers to an event, and the world then
--     happened_at                      the world after an event of a replica, whatever it answers
--     placed                           the element at a place in a list, from 1
--     pooled                           the world with one batch more
--     with_peer                        the world with another client under a number
--     new_peer                         a client that comes, of a kind and a cluster
--     opening_requests                 the requests at the start of a stream
--     has_streams                      whether a client of this kind has a stream: one that polls never has
--     is_to_connect                    whether a client may open a stream: it is of such a kind, and has none
--     connected_to                     the client on a new stream
--     opened                           the world once the client has this stream
--     with_request                     one more request under way
--     changed_by                       the client after a change, and the request that it sends, if any
--     wish_of                          the same by the kind of client and of wish; none where they don't fit
--     wish_taken                       the same of a client of any kind
--     changed                          the client with what it sends behind its queue
--     received_by                      the client after a response, and its answer
--     received_in                      a client after a response, with its answer; none of the other variant
--     received                         the same of a client of any kind
--     taken_down                       once the oldest response was taken, with these under way behind it
--     asked_by                         what a client of a kind asks for in a poll of a type, if it polls
--     poll_of                          the same of a client of any kind
--     poll_event                       the event that such a poll is at a replica
--     client_in                        the client that a call leaves, if it isn't refused
--     answer_taken                     the client after an answer, which has no body where nothing changed
--     rested                           the world after an answer to a poll without a stream
--     rest_polled                      the world after such a poll, with its answer
--     on_peer                          what f makes of a client that is there
--     on_link                          what f makes of a client that is up, and its link
--     up_taken                         the world once a replica took the oldest request of a client
--     under_way                        a response under way, if there is one
--     polled                           the world once a replica was polled for a client
--     down_taken                       the world once a client took the oldest response under way
--     is_free                          whether a replica may come under this number
--     happens                          the world after something happened; none where that isn't possible or is refused
--     after                            the world after a list of happenings
--     world                            the world after these, from the start
use Rattle.std.specs.Prelude.{ℕ, zero, suc, List, [], ◌∷◌, ◌++◌, map, Bool, true, false, ◌&&◌, if◌then◌else◌, Option, Some, None, is_none, is_some, option_map, Ok, Err, decimal, nat_lt, not}
use Rattle.std.specs.Ordering.{nat_cmp}
use Rattle.std.specs.Option.{option_and_then, option_map_or}
use Rattle.std.specs.FinMap as finmap
use Rattle.xds_resource.specs.declared.types.TypeName.{TypeName}
use Rattle.xds_resource.specs.Types.{types}
use Rattle.xds_resource.specs.Stamps.{max_writer}
use Rattle.xds_message.specs.declared.draft.Draft.{Draft}
use Rattle.xds_message.specs.declared.draft.Draft.TheVariants as drafts
use Rattle.xds_message.specs.Drafts.{Drafted, message_of, delta_message_of}
use Rattle.xds_core.specs.Stores.{Batch}
use Rattle.xds_core.specs.Streams as streams
use Rattle.xds_core.specs.Streams.{Message, cluster_in}
use Rattle.xds_core.specs.Events as events
use Rattle.xds_core.specs.Events.{Event, Reply}
use Rattle.xds_core.specs.Steps.{Core, Step, step, fresh as fresh_core}
use Rattle.xds_core.specs.Legal.{Record}
use Rattle.xds_message.specs.Messages.{Request}
use Rattle.xds_cache.specs.Shelves.{wants_of}
use Rattle.xds_cache.specs.Faults.{Test}
use Rattle.xds_cache.specs.Clients as clients
use Rattle.xds_cache.specs.Clients.{Client, linked, unlinked}
use Rattle.xds_cache.specs.Sends.{sotw_first, delta_first, first_requests, is_greeted}
use Rattle.xds_cache.specs.Receives.{Outcome, sotw_change, delta_change, sotw_receive, delta_receive}
use Rattle.xds_cache.specs.Rest.{rest_request, rest_changed, rest_receive}
use Rattle.xds_script.specs.declared.event.ClientKind.{ClientKind}
use Rattle.xds_script.specs.declared.event.ClientKind.TheVariants.{Sotw, Delta, Rest}
use Rattle.xds_script.specs.declared.event.AnswerFate.{AnswerFate}
use Rattle.xds_script.specs.declared.event.AnswerFate.TheVariants.{Arrives, Lost}
use Rattle.xds_script.specs.Happenings.{Wish, Names, Edits, Happening, AddReplica, AddClient, Put, Delete, Snapshot, Merge, Connect, Change, Up, Poll, Down, Lose, RestPoll}

-- a replica, and what happened at it, with the answers
pub record Site : Type 0 where
  pub core : Core
  pub journal : List Record

-- a stream from a client to a replica, with what is under way on it each way, the oldest first
pub record Link : Type 0 where
  pub replica : ℕ
  pub stream : ℕ
  pub up : List Message
  pub down : List Draft

pub record Peer : Type 0 where
  pub kind : ClientKind
  pub client : Client
  -- none while the client is down
  pub link : Option Link

pub record World : Type 0 where
  pub sites : finmap.FinMap nat_cmp Site
  pub peers : finmap.FinMap nat_cmp Peer
  -- each batch with the replica that it was taken at, the oldest first
  pub pool : List (ℕ × Batch)

abbrev pub empty_world : World
empty_world = record { sites = finmap.empty; peers = finmap.empty; pool = [] }

-- ---- replicas

-- the replica once it answered an event
abbrev pub recorded : Site → Event → Reply × Core → Site
recorded s e p = record { core = p.1; journal = s.journal ++ record { event = e; answer = Ok p.0 } ∷ [] }

abbrev pub answered_at : World → ℕ → Site → Event → Step → Option (Reply × World)
answered_at w r s e (Ok p) = Some (p.0, record w { sites = finmap.insert w.sites r (recorded s e p) })
answered_at w r s e (Err refusal) = None

-- what a replica answers to an event, and the world then; none where there is no such replica, or the event is refused
abbrev pub at_site : World → ℕ → Event → Option (Reply × World)
at_site w r e = option_and_then (λ s. answered_at w r s e (step s.core e)) (finmap.get w.sites r)

-- the world after an event of a replica, whatever it answers
abbrev pub happened_at : World → ℕ → Event → Option World
happened_at w r e = option_map (λ p. p.1) (at_site w r e)

-- ---- batches

-- the place in a list, from 1
abbrev pub placed : {X : Type 0} → List X → ℕ → Option X
placed [] n = None
placed (x ∷ xs) zero = None
placed (x ∷ xs) (suc zero) = Some x
placed (x ∷ xs) (suc (suc n)) = placed xs (suc n)

abbrev pub pooled : ℕ → Reply × World → Option World
pooled r (events.Entries b, w) = Some (record w { pool = w.pool ++ (r, b) ∷ [] })
pooled r (reply, w) = None

-- ---- clients

abbrev pub with_peer : World → ℕ → Peer → World
with_peer w c p = record w { peers = finmap.insert w.peers c p }

-- rule: groups
abbrev pub new_peer : ℕ → ClientKind → List ℕ → Peer
new_peer c kind cluster = record { kind = kind; client = clients.fresh (decimal c) cluster; link = None }

-- the requests at the start of a stream
abbrev pub opening_requests : ClientKind → Client → List Message
opening_requests Sotw c = map streams.Sotw (first_requests (sotw_first c) c false types)
opening_requests Delta c = map streams.Delta (first_requests (delta_first c) c false types)
opening_requests Rest c = []

-- whether a client of this kind has a stream: one that polls never has
abbrev pub has_streams : ClientKind → Bool
has_streams Sotw = true
has_streams Delta = true
has_streams Rest = false

-- whether a client may open a stream: it is of such a kind, and has none
abbrev pub is_to_connect : Peer → Bool
is_to_connect p = has_streams p.kind && is_none p.link

-- the client on a new stream
abbrev pub connected_to : Peer → ℕ → ℕ → Peer
connected_to p r n = record {
  kind = p.kind;
  client = linked (is_greeted p.client false types) p.client;
  link = Some (record { replica = r; stream = n; up = opening_requests p.kind p.client; down = [] });
}

abbrev pub opened : ℕ → ℕ → Peer → Reply × World → Option World
opened c r p (events.Opened n, w) = Some (with_peer w c (connected_to p r n))
opened c r p (reply, w) = None

-- one more request under way
abbrev pub with_request : Option Message → Link → Link
with_request None l = l
with_request (Some m) l = record l { up = l.up ++ m ∷ [] }

-- the client after a change, and the request that it sends, if any
abbrev pub changed_by : {X : Type 0} → (X → Message) → Outcome (Option X) → Option (Client × Option Message)
changed_by tag (Ok p) = Some (p.0, option_map tag p.1)
changed_by tag (Err refusal) = None

abbrev pub wish_of : ClientKind → Peer → Bool → TypeName → Wish → Option (Client × Option Message)
wish_of Sotw p up t (Names names) = changed_by streams.Sotw (sotw_change up t (wants_of names) p.client)
wish_of Sotw p up t (Edits subscribe unsubscribe) = None
wish_of Rest p up t (Names names) = Some (rest_changed t (wants_of names) p.client, None)
wish_of Rest p up t (Edits subscribe unsubscribe) = None
wish_of Delta p up t (Names names) = None
wish_of Delta p up t (Edits subscribe unsubscribe) = changed_by streams.Delta (delta_change up t (wants_of subscribe) (wants_of unsubscribe) p.client)

abbrev pub wish_taken : Peer → TypeName → Wish → Option (Client × Option Message)
wish_taken p t wish = wish_of p.kind p (is_some p.link) t wish

abbrev pub changed : Peer → Client × Option Message → Peer
changed p q = record { kind = p.kind; client = q.0; link = option_map (with_request q.1) p.link }

-- the client after a response, and its answer
abbrev pub received_by : {X : Type 0} → (X → Message) → Outcome X → Option (Client × Message)
received_by tag (Ok p) = Some (p.0, tag p.1)
received_by tag (Err refusal) = None

-- a response of the other variant isn't taken
abbrev pub received_in : Test → ClientKind → Client → Draft → Option (Client × Message)
received_in test Sotw c (drafts.Sotw d) = received_by streams.Sotw (sotw_receive test c (message_of d))
received_in test Sotw c (drafts.Delta d) = None
received_in test Delta c (drafts.Sotw d) = None
received_in test Delta c (drafts.Delta d) = received_by streams.Delta (delta_receive test c (delta_message_of d))
received_in test Rest c d = None

abbrev pub received : Test → Peer → Draft → Option (Client × Message)
received test p d = received_in test p.kind p.client d

-- once the oldest response was taken, with these under way behind it
abbrev pub taken_down : Peer → Link → List Draft → Client × Message → Peer
taken_down p l rest q = record { kind = p.kind; client = q.0; link = Some (record l { up = l.up ++ q.1 ∷ []; down = rest }) }

-- ---- polls without a stream

-- what a client that polls asks for in a poll of a type; none where it wants nothing of the type
abbrev pub asked_by : ClientKind → Client → TypeName → Option Request
asked_by Rest c t = rest_request c t
asked_by Sotw c t = None
asked_by Delta c t = None

abbrev pub poll_of : Peer → TypeName → Option Request
poll_of p t = asked_by p.kind p.client t

-- the event that such a poll is at a replica
abbrev pub poll_event : TypeName → Request → Event
poll_event t q = events.Rest t q.resource_names q.version_info (cluster_in q.node)

-- the client that a call leaves, if it isn't refused
abbrev pub client_in : {X : Type 0} → Outcome X → Option Client
client_in (Ok p) = Some p.0
client_in (Err refusal) = None

-- rule: not-modified
-- the client after an answer, which has no body where nothing changed; one that is lost changes nothing
abbrev pub answer_taken : Test → AnswerFate → Client → TypeName → Option Drafted → Option Client
answer_taken test Arrives c t d = client_in (rest_receive test c t (option_map message_of d))
answer_taken test Lost c t d = Some c

abbrev pub rested : Test → AnswerFate → ℕ → TypeName → Peer → Reply × World → Option World
rested test answer c t p (events.Rested d, w) = option_map (λ x. with_peer w c (record p { client = x })) (answer_taken test answer p.client t d)
rested test answer c t p (reply, w) = None

abbrev pub rest_polled : Test → World → ℕ → ℕ → TypeName → AnswerFate → Peer → Option World
rest_polled test w c r t answer p = option_and_then (λ q. option_and_then (rested test answer c t p) (at_site w r (poll_event t q))) (poll_of p t)

-- ---- what happens

-- what f makes of a client that is there
abbrev pub on_peer : World → ℕ → (Peer → Option World) → Option World
on_peer w c f = option_and_then f (finmap.get w.peers c)

-- what f makes of a client that is up, and its link
abbrev pub on_link : World → ℕ → (Peer → Link → Option World) → Option World
on_link w c f = on_peer w c (λ p. option_and_then (f p) p.link)

abbrev pub up_taken : World → ℕ → Peer → Link → List Message → Option World
up_taken w c p l [] = None
up_taken w c p l (m ∷ rest) =
    option_map (λ q. with_peer q.1 c (record p { link = Some (record l { up = rest }) })) (at_site w l.replica (events.Request l.stream m))

-- a response under way, if there is one
abbrev pub under_way : Option Draft → List Draft
under_way None = []
under_way (Some d) = d ∷ []

abbrev pub polled : ℕ → Peer → Link → Reply × World → Option World
polled c p l (events.Polled o, w) = Some (with_peer w c (record p { link = Some (record l { down = l.down ++ under_way o }) }))
polled c p l (reply, w) = None

abbrev pub down_taken : Test → World → ℕ → Peer → Link → List Draft → Option World
down_taken test w c p l [] = None
down_taken test w c p l (d ∷ rest) = option_map (λ q. with_peer w c (taken_down p l rest q)) (received test p d)

-- rule: new-numbers
-- whether a replica may come under this number: replicas have numbers from 1 to the greatest writer, each its own
abbrev pub is_free : World → ℕ → Bool
is_free w r = (nat_lt 0 r && not (nat_lt max_writer r)) && is_none (finmap.get w.sites r)

-- The world after something happened; none where that isn't possible or is refused.
abbrev pub happens : Test → World → Happening → Option World
happens test w (AddReplica r) = if is_free w r then Some (record w { sites = finmap.insert w.sites r (record { core = fresh_core r; journal = [] }) }) else None
happens test w (AddClient c kind cluster) = if is_none (finmap.get w.peers c) then Some (with_peer w c (new_peer c kind cluster)) else None
happens test w (Put r t body groups) = happened_at w r (events.Put t body groups)
happens test w (Delete r t name) = happened_at w r (events.Delete t name)
happens test w (Snapshot r) = option_and_then (pooled r) (at_site w r events.Snapshot)
happens test w (Merge r b) = option_and_then (λ x. happened_at w r (events.Merge x.1)) (placed w.pool b)
happens test w (Connect c r) = on_peer w c (λ p. if is_to_connect p then option_and_then (opened c r p) (at_site w r events.Open) else None)
happens test w (Change c t wish) = on_peer w c (λ p. option_map (λ q. with_peer w c (changed p q)) (wish_taken p t wish))
happens test w (Up c) = on_link w c (λ p l. up_taken w c p l l.up)
happens test w (Poll c which) = on_link w c (λ p l. option_and_then (polled c p l) (at_site w l.replica (events.Poll l.stream which)))
happens test w (Down c) = on_link w c (λ p l. down_taken test w c p l l.down)
happens test w (Lose c) = on_link w c (λ p l. option_map (λ q. with_peer q.1 c (record p { client = unlinked p.client; link = None })) (at_site w l.replica (events.Close l.stream)))
happens test w (RestPoll c r t answer) = on_peer w c (λ p. rest_polled test w c r t answer p)

-- the world after a list of happenings
abbrev pub after : Test → World → List Happening → World
after test w [] = w
after test w (h ∷ hs) = after test (option_map_or (λ x. x) (happens test w h) w) hs

-- the world after these, from the start
abbrev pub world : Test → List Happening → World
world test hs = after test empty_world hs
