-- What `change` and `receive` leave of a client and give to send. This project's own.
--     Outcome                          what a call leaves of a client, and what it gives to send
--     sotw_changed                     a client of the state of the world once it wants these texts, and its request on a stream
--     sotw_change                      the same, refused by `NoStream` where its stream is of no use
--     delta_changed                    a delta client once it subscribes and unsubscribes, and its request on a stream
--     delta_change                     the same, refused by `NoStream` where its stream is of no use
--     sotw_delivered                   the shelf of a type after a response of the state of the world, and the answer
--     delta_delivered                  the same of a delta response
--     answered                         a client after a response of a type, with its answer, by the change of the shelf
--     sotw_answered                    the same in the state of the world
--     delta_answered                   the same in delta
--     if_addressed                     an answer of the type that a response is of, or the refusal
--     receive                          a client after a response, or why it is refused
--     sotw_receive                     the same in the state of the world
--     delta_receive                    the same in delta
use Rattle.std.specs.Prelude.{ℕ, List, Bool, ◌&&◌, if◌then◌else◌, Option, Some, None, Result, Ok, Err}
use Rattle.std.specs.FinMap as finmap
use Rattle.xds_resource.specs.declared.types.TypeName.{TypeName}
use Rattle.xds_resource.specs.declared.refusal.Refusal.{Refusal}
use Rattle.xds_resource.specs.declared.refusal.Refusal.TheVariants.{NoStream}
use Rattle.xds_message.specs.Messages.{Request, Response}
use Rattle.xds_message.specs.DeltaMessages.{DeltaRequest, DeltaResponse}
use Rattle.xds_cache.specs.Shelves.{Wants, Shelf, wants_after}
use Rattle.xds_cache.specs.Faults.{Test}
use Rattle.xds_cache.specs.Deliveries.{sotw_delivery, delta_delivery, fault_in, delivered}
use Rattle.xds_cache.specs.Clients.{Client, shelf, with_shelf, node, is_sent, shelf_after, changed, addressing}
use Rattle.xds_cache.specs.Sends.{sotw_request, delta_request, delta_answer}

-- what a call leaves of a client, and what it gives to send
abbrev pub Outcome : Type 0 → Type 0
Outcome X = Result (Client × X) Refusal

-- ---- change

-- A client of the state of the world wants these texts, and on a stream sends them all. On a stream alone it may be of no use.
abbrev pub sotw_changed : Bool → TypeName → Wants → Client → Client × Option Request
sotw_changed up t w c =
    (changed up t w c, if is_sent up (shelf c t) w then Some (sotw_request t (node c.greeted c) (shelf_after up t w c) None) else None)

abbrev pub sotw_change : Bool → TypeName → Wants → Client → Outcome (Option Request)
sotw_change up t w c = if up && c.broken then Err NoStream else Ok (sotw_changed up t w c)

-- A delta client subscribes and unsubscribes texts, and on a stream sends these two lists.
abbrev pub delta_changed : Bool → TypeName → Wants → Wants → Client → Client × Option DeltaRequest
delta_changed up t subscribe unsubscribe c =
    let w = wants_after subscribe unsubscribe (shelf c t).wants in
    (changed up t w c, if is_sent up (shelf c t) w then Some (delta_request t (node c.greeted c) subscribe unsubscribe finmap.empty) else None)

abbrev pub delta_change : Bool → TypeName → Wants → Wants → Client → Outcome (Option DeltaRequest)
delta_change up t subscribe unsubscribe c = if up && c.broken then Err NoStream else Ok (delta_changed up t subscribe unsubscribe c)

-- ---- receive

-- what a response leaves of what is kept of its type, with the request that answers it
abbrev pub sotw_delivered : Test → Response → TypeName → Shelf → Shelf × Request
sotw_delivered test r t s =
    let next = delivered t test s (sotw_delivery t r) in
    (next, sotw_request t None next (fault_in t test (sotw_delivery t r)))

abbrev pub delta_delivered : Test → DeltaResponse → TypeName → Shelf → Shelf × DeltaRequest
delta_delivered test r t s = (delivered t test s (delta_delivery r), delta_answer t r.nonce (fault_in t test (delta_delivery r)))

-- a client after a response of a type, with its answer, where `deliver` makes them of what it keeps of the type
abbrev pub answered : {X : Type 0} → (TypeName → Shelf → Shelf × X) → Client → TypeName → Client × X
answered deliver c t = let next = deliver t (shelf c t) in (with_shelf c t next.0, next.1)

abbrev pub sotw_answered : Test → Client → Response → TypeName → Client × Request
sotw_answered test c r t = answered (sotw_delivered test r) c t

abbrev pub delta_answered : Test → Client → DeltaResponse → TypeName → Client × DeltaRequest
delta_answered test c r t = answered (delta_delivered test r) c t

abbrev pub if_addressed : {X : Type 0} → (TypeName → Client × X) → Result TypeName Refusal → Outcome X
if_addressed answer (Err e) = Err e
if_addressed answer (Ok t) = Ok (answer t)

-- A client that can't use its stream refuses a response, and so does one that didn't ask for its type on this stream.
abbrev pub receive : {X : Type 0} → (TypeName → Shelf → Shelf × X) → Client → List ℕ → Outcome X
receive deliver c url = if_addressed (answered deliver c) (addressing c url)

abbrev pub sotw_receive : Test → Client → Response → Outcome Request
sotw_receive test c r = receive (sotw_delivered test r) c r.type_url

abbrev pub delta_receive : Test → Client → DeltaResponse → Outcome DeltaRequest
delta_receive test c r = receive (delta_delivered test r) c r.type_url
