-- A client on its stream, if it has one, and what becomes of it. This project's own.
--     with_link        what f makes of the link of a client that has one
--     peer_changed     once a change was wished
--     peer_up          once the replica took the oldest request, if there is one
--     peer_polled      once a response was sent, or none
--     link_down        once the client took the oldest response, if there is one that it takes
--     peer_down        the same of the oldest response on its stream, if it has one
--     peer_lost        once the stream is lost
--     peer_connected   on a new stream, if the client may open one
--     peer_answered    once the answer to a poll of a type came, if the client is one that polls
use Rattle.std.specs.Prelude.{ℕ, List, [], ◌∷◌, ◌++◌, if◌then◌else◌, Option, Some, None, option_map}
use Rattle.std.specs.Option.{option_and_then}
use Rattle.xds_resource.specs.declared.types.TypeName.{TypeName}
use Rattle.xds_message.specs.declared.draft.Draft.{Draft}
use Rattle.xds_message.specs.Drafts.{Drafted}
use Rattle.xds_cache.specs.Faults.{Test}
use Rattle.xds_cache.specs.Clients.{unlinked}
use Rattle.xds_script.specs.Happenings.{Wish}
use Rattle.xds_world.specs.Worlds.{Link, Peer, wish_taken, changed, received, taken_down, under_way, is_to_connect, connected_to}
use Rattle.xds_world.specs.AnyClients.{answering}
use Rattle.xds_world.specs.Links.{link_up}

-- what f makes of the link of a client that has one
abbrev pub with_link : (Peer → Link → Option Link) → Peer → Option Peer
with_link f p = option_and_then (λ l. option_map (λ k. record p { link = Some k }) (f p l)) p.link

-- once a change was wished
abbrev pub peer_changed : TypeName → Wish → Peer → Option Peer
peer_changed t wish p = option_map (changed p) (wish_taken p t wish)

-- once the replica took the oldest request, if there is one
abbrev pub peer_up : Peer → Option Peer
peer_up p = with_link (λ p l. link_up l l.up) p

-- once a response was sent, or none
abbrev pub peer_polled : Option Draft → Peer → Option Peer
peer_polled o p = with_link (λ p l. Some (record l { down = l.down ++ under_way o })) p

-- once the client took the oldest response, if there is one that it takes
abbrev pub link_down : Test → Peer → Link → List Draft → Option Peer
link_down test p l [] = None
link_down test p l (d ∷ rest) = option_map (taken_down p l rest) (received test p d)

-- the same of the oldest response on its stream, if it has one
abbrev pub peer_down : Test → Peer → Option Peer
peer_down test p = option_and_then (λ l. link_down test p l l.down) p.link

-- once the stream is lost
abbrev pub peer_lost : Peer → Option Peer
peer_lost p = option_map (λ l. record p { client = unlinked p.client; link = None }) p.link

-- on a new stream, if the client may open one
abbrev pub peer_connected : ℕ → ℕ → Peer → Option Peer
peer_connected r n p = if is_to_connect p then Some (connected_to p r n) else None

-- once the answer to a poll of a type came, if the client is one that polls
abbrev pub peer_answered : Test → TypeName → Option Drafted → Peer → Option Peer
peer_answered test t d p = option_map (λ x. record p { client = x }) (answering test p.kind t d p.client)
