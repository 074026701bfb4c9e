-- What a client sends: at the start of a stream, and after a change. This project's own.
--     failure                          why a response is rejected, as `INVALID_ARGUMENT` of google.rpc.Code
--     first_of                         the first request of a type on a stream
--     first_requests                   the first requests on a stream, of these types in order
--     is_greeted                       whether who asks was said once these types were asked for
--     sotw_request                     every request has all that is wanted
--     sotw_opening                     the first request of a type on a stream, from its shelf, without a nonce
--     sotw_first                       the same of a client, with its node where it hasn't said who it is
--     delta_request                    a delta request with these two lists and versions
--     delta_opening                    the first request of a type on a stream, which says the versions that are held
--     delta_first                      the same of a client, with its node where it hasn't said who it is
--     delta_answer                     the answer to a response
use Rattle.std.specs.Prelude.{ℕ, List, [], ◌∷◌, Bool, true, if◌then◌else◌, Option, None, option_map, pos}
use Rattle.std.specs.FinMap as finmap
use Rattle.xds_resource.specs.declared.types.TypeName.{TypeName}
use Rattle.xds_resource.specs.Types.{row}
use Rattle.xds_message.specs.Messages.{Identity, Failure, Request}
use Rattle.xds_message.specs.DeltaMessages.{DeltaRequest}
use Rattle.xds_message.specs.Versions.{VersionMap}
pub use Rattle.xds_cache.specs.Shelves.{cached_version, cached_versions}
use Rattle.xds_cache.specs.Shelves.{Wants, Shelf, texts, wants_some, connected}
use Rattle.xds_cache.specs.Clients.{Client, shelf, node}

-- rule: accept-reject
-- why a response is rejected, as `INVALID_ARGUMENT` of google.rpc.Code
abbrev pub failure : List ℕ → Failure
failure message = record { code = pos 3; message = message }

-- ---- both

-- The first request of a type on a stream, where `opening` makes it of who asks and of what is kept of the type.
abbrev pub first_of : {X : Type 0} → (TypeName → Option Identity → Shelf → X) → Client → TypeName → Bool → X
first_of opening c t greeted = opening t (node greeted c) (shelf c t)

-- The first requests on a stream, of these types in order: one of each type that is wanted. The first of all says who asks.
abbrev pub first_requests : {X : Type 0} → (TypeName → Bool → X) → Client → Bool → List TypeName → List X
first_requests make c greeted [] = []
first_requests make c greeted (t ∷ ts) = if wants_some (shelf c t).wants then make t greeted ∷ first_requests make c true ts else first_requests make c greeted ts

-- whether who asks was said once these types were asked for
abbrev pub is_greeted : Client → Bool → List TypeName → Bool
is_greeted c greeted [] = greeted
is_greeted c greeted (t ∷ ts) = is_greeted c (if wants_some (shelf c t).wants then true else greeted) ts

-- ---- state of the world

-- Every request has all that is wanted, the last nonce and the version accepted last.
abbrev pub sotw_request : TypeName → Option Identity → Shelf → Option (List ℕ) → Request
sotw_request t who s fault = record {
  version_info = s.accepted;
  node = who;
  resource_names = texts s.wants;
  type_url = (row t).url;
  response_nonce = s.nonce;
  error_detail = option_map failure fault;
}

-- The first request of a type on a stream has no nonce.
abbrev pub sotw_opening : TypeName → Option Identity → Shelf → Request
sotw_opening t who s = sotw_request t who (connected s) None

abbrev pub sotw_first : Client → TypeName → Bool → Request
sotw_first c t greeted = first_of sotw_opening c t greeted

-- ---- delta

abbrev pub delta_request : TypeName → Option Identity → Wants → Wants → VersionMap → DeltaRequest
delta_request t who subscribe unsubscribe versions = record {
  node = who;
  type_url = (row t).url;
  resource_names_subscribe = texts subscribe;
  resource_names_unsubscribe = texts unsubscribe;
  initial_resource_versions = versions;
  response_nonce = [];
  error_detail = None;
}

-- The first request of a type on a stream subscribes all that is wanted, and says which versions are held.
abbrev pub delta_opening : TypeName → Option Identity → Shelf → DeltaRequest
delta_opening t who s = delta_request t who s.wants finmap.empty (cached_versions s.cache)

abbrev pub delta_first : Client → TypeName → Bool → DeltaRequest
delta_first c t greeted = first_of delta_opening c t greeted

-- rule: accept-reject
-- the answer to a response
abbrev pub delta_answer : TypeName → List ℕ → Option (List ℕ) → DeltaRequest
delta_answer t nonce fault = record {
  node = None;
  type_url = (row t).url;
  resource_names_subscribe = [];
  resource_names_unsubscribe = [];
  initial_resource_versions = finmap.empty;
  response_nonce = nonce;
  error_detail = option_map failure fault;
}
