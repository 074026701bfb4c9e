-- What a post to the REST variant asks for, or which reply it is finished with before a replica is asked: its body a DiscoveryRequest
-- in the proto3 JSON mapping. The order of the checks and the body of a refusal are this project's own.
--     is_own                          a message names the type of the path, or none
--     IsPoll                          a body that asks for something of a type: JSON that spells the request
--     RefusesBody                     why a body is refused
--     refusal_object                  a refusal, as a JSON object
--     refused_reply                   the reply 400 with that object
--     poll_of                         what a replica is asked
--     Asked                           a request is finished with a reply, or asks a replica
--     IsReadAs                        what a body of a poll of this type comes to
--     IsAskedBy                       what a path, a method and a body come to
--     IsAsked                         what a request of this method, path and body comes to
use Rattle.std.specs.Prelude.{◌≡◌, ◌⊎◌, ℕ, List, [], ◌++◌, Bool, true, false, ◌||◌, Result, Ok, Err, bytes_eq, codes, decimal}
use Rattle.serde_json.specs.Data.{Data}
use Rattle.xds_resource.specs.declared.types.TypeName.{TypeName}
use Rattle.xds_resource.specs.declared.refusal.Refusal.{Refusal}
use Rattle.xds_resource.specs.declared.refusal.Refusal.TheVariants.{NotJson, BadMessage}
use Rattle.xds_resource.specs.Types.{row}
use Rattle.xds_resource.specs.Refusals.{number_of, name_of}
use Rattle.xds_message.specs.Spelling.{IsJson}
use Rattle.xds_message.specs.Messages.{Request, SpellsRequest}
use Rattle.xds_core.specs.Streams.{cluster_in}
use Rattle.xds_core.specs.Events as events
use Rattle.xds_core.specs.Events.{Event}
pub use Rattle.xds_polls.specs.Polls.{HttpReply, without_body, with_body, unavailable, without_query, type_of_path, max_body, admitted, addressed}

-- ---- the body

-- A message names the type of the path, or none.
abbrev pub is_own : TypeName → List ℕ → Bool
is_own t url = bytes_eq url [] || bytes_eq url (row t).url

-- a body that asks for something of a type: JSON that spells the request
pub record IsPoll (t : TypeName) (body : List ℕ) (q : Request) : Type 0 where
  pub value : Data
  pub is_json : IsJson body value
  pub spelled : SpellsRequest value q
  pub own : is_own t q.type_url ≡ true

-- why a body is refused: it is no JSON, or it spells no request, or that is of another type
abbrev pub RefusesBody : TypeName → List ℕ → Refusal → Type 0
RefusesBody t body e =
    ((e ≡ NotJson) × ((d : Data) → IsJson body d → ⊥))
    ⊎ ((e ≡ BadMessage) × ((d : Data) × IsJson body d × ((q : Request) → SpellsRequest d q → is_own t q.type_url ≡ false)))

-- a refusal, as a JSON object
abbrev pub refusal_object : Refusal → List ℕ
refusal_object e = codes "{\"code\":" ++ decimal (number_of e) ++ codes ",\"name\":\"" ++ name_of e ++ codes "\"}"

abbrev pub refused_reply : Refusal → HttpReply
refused_reply e = with_body 400 (refusal_object e)

-- what a replica is asked: the names that are wanted, the version that is kept, and the cluster of who asks
abbrev pub poll_of : TypeName → Request → Event
poll_of t q = events.Rest t q.resource_names q.version_info (cluster_in q.node)

-- ---- all of it

-- a request either is finished with a reply, or asks a replica
pub data Asked : Type 0 where
  Finished : HttpReply → Asked
  Asks : Event → Asked

abbrev pub IsReadAs : TypeName → List ℕ → Asked → Type 0
IsReadAs t body (Finished r) = (e : Refusal) × RefusesBody t body e × (r ≡ refused_reply e)
IsReadAs t body (Asks e) = (q : Request) × IsPoll t body q × (e ≡ poll_of t q)

abbrev pub IsAskedBy : Result TypeName ℕ → List ℕ → Asked → Type 0
IsAskedBy (Err status) body a = a ≡ Finished (without_body status)
IsAskedBy (Ok t) body a = IsReadAs t body a

-- what a request of this method, path and body comes to
abbrev pub IsAsked : List ℕ → List ℕ → List ℕ → Asked → Type 0
IsAsked method path body a = IsAskedBy (addressed method path body) body a
