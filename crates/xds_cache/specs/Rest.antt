-- A client that polls: what it asks for, and what an answer leaves of it. The paths and statuses are those of Envoy's "xDS REST and
-- gRPC protocol"; that the client keeps the version of what it took, and forgets it with what it wants, is this project's own.
--     unlinked_shelf                a request without a nonce, since no stream is there
--     rest_asking                   the request of a poll for all that a client wants of a type, with the version that it keeps
--     rest_request                  the same, and none where nothing of the type is wanted
--     forgetting                    a shelf once these texts are wanted, without its version
--     rest_changed                  a client that polls, once it wants these texts of a type
--     rest_taking                   a shelf after an answer that is taken
--     rest_delivered                a shelf after an answer: as it was, where the answer has a fault
--     rest_answered                 after an answer to a poll of a type, with why it is rejected, if it is
--     answers_poll                  whether an answer of this URL is one to a poll of a type
--     has_body                      whether an answer has a body that is one to a poll of a type
--     rest_receive                  an answer to a poll of a type
use Rattle.std.specs.Prelude.{ℕ, List, [], Bool, false, ◌&&◌, if◌then◌else◌, Option, Some, None, Ok, Err, bytes_eq}
use Rattle.std.specs.Option.{option_map_or}
use Rattle.xds_resource.specs.declared.types.TypeName.{TypeName}
use Rattle.xds_resource.specs.declared.refusal.Refusal.TheVariants.{BadMessage}
use Rattle.xds_resource.specs.Types.{row}
use Rattle.xds_message.specs.Messages.{Request, Response}
use Rattle.xds_cache.specs.Shelves.{Wants, Shelf, wanting, wants_some}
use Rattle.xds_cache.specs.Faults.{Test}
use Rattle.xds_cache.specs.Deliveries.{Delivery, sotw_delivery, fault_in, taking}
use Rattle.xds_cache.specs.Clients.{Client, shelf, with_shelf, identity}
use Rattle.xds_cache.specs.Sends.{sotw_request}
use Rattle.xds_cache.specs.Receives.{Outcome}

-- Such a client is a `Client` without a stream: it never greets, is never broken off, and of a type it keeps what it wants, what
-- it holds, and as `accepted` the version of the answer that it took last, empty where it took none since it wants this.

-- a request without a nonce, since no stream is there
abbrev pub unlinked_shelf : Shelf → Shelf
unlinked_shelf s = record s { nonce = []; asked = false }

-- What a client asks for in a poll of a type: all that it wants, with who asks and the version that it keeps. Who wants nothing of
-- the type doesn't ask.
abbrev pub rest_asking : Client → TypeName → Request
rest_asking c t = sotw_request t (Some (identity c.node_id c.cluster)) (unlinked_shelf (shelf c t)) None

abbrev pub rest_request : Client → TypeName → Option Request
rest_request c t = if wants_some (shelf c t).wants then Some (rest_asking c t) else None

-- rule: not-modified
-- Once a client wants these of a type: it drops what they don't reach, and forgets the version.
abbrev pub forgetting : TypeName → Wants → Shelf → Shelf
forgetting t w s = record (wanting t w false s) { nonce = []; accepted = [] }

-- rule: not-modified
abbrev pub rest_changed : TypeName → Wants → Client → Client
rest_changed t w c = with_shelf c t (forgetting t w (shelf c t))

-- rule: whole-or-nothing
-- An answer that is taken is taken whole, with its version. Of one that is rejected nothing is kept.
abbrev pub rest_taking : TypeName → Shelf → Delivery → Shelf
rest_taking t s d = unlinked_shelf (taking t s d)

-- rule: whole-or-nothing
abbrev pub rest_delivered : TypeName → Test → Shelf → Delivery → Shelf
rest_delivered t test s d = option_map_or (λ fault. s) (fault_in t test d) (rest_taking t s d)

-- after an answer to a poll of a type, with why it is rejected, if it is
abbrev pub rest_answered : Test → Client → TypeName → Response → Client × Option (List ℕ)
rest_answered test c t r =
    (with_shelf c t (rest_delivered t test (shelf c t) (sotw_delivery t r)), fault_in t test (sotw_delivery t r))

-- whether an answer of this URL is one to a poll of a type
abbrev pub answers_poll : Client → TypeName → List ℕ → Bool
answers_poll c t url = wants_some (shelf c t).wants && bytes_eq url (row t).url

-- whether an answer has a body that is one to a poll of a type
abbrev pub has_body : Client → TypeName → Option Response → Bool
has_body c t None = false
has_body c t (Some r) = answers_poll c t r.type_url

-- rule: not-modified
-- An answer to a poll of a type: its body, or that nothing changed, which changes nothing. Refused is a body of another type, and
-- any answer where nothing of the type is wanted, so that it wasn't asked for.
abbrev pub rest_receive : Test → Client → TypeName → Option Response → Outcome (Option (List ℕ))
rest_receive test c t None = if wants_some (shelf c t).wants then Ok (c, None) else Err BadMessage
rest_receive test c t (Some r) = if answers_poll c t r.type_url then Ok (rest_answered test c t r) else Err BadMessage
