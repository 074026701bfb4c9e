-- The reply to a poll: 304 where the client holds the present version of all, and else the whole, as Envoy's "xDS REST and gRPC
-- protocol" has it. When that is so is this project's own.
--     http_of                          what is written of a replica's answer to a poll
--     reply_to                         the same of any answer of a replica
--     IfPoll                           what is said of an event that is a poll, by its type, names
--     poll_reply                       the reply to a poll of a type at a replica
--     IsPollReply                      the reply to the poll that a body spells
--     IsRefusal                        the reply to a body that spells none
--     IsReplyBy                        the reply to a path, a method and a body
--     IsReply                          the reply of a replica to a request of this method, path and body
use Rattle.std.specs.Prelude.{◌≡◌, ◌⊎◌, ⊤, ℕ, List, Option, Some, None, Result, Ok, Err}
use Rattle.serde_json.specs.Written.{compact_text}
use Rattle.xds_resource.specs.declared.types.TypeName.{TypeName}
use Rattle.xds_resource.specs.declared.refusal.Refusal.{Refusal}
use Rattle.xds_message.specs.Messages.{Request}
use Rattle.xds_message.specs.Written.{response_object}
use Rattle.xds_message.specs.Drafts.{Drafted, message_of}
use Rattle.xds_core.specs.Events as events
use Rattle.xds_core.specs.Events.{Event, Reply}
use Rattle.xds_core.specs.Streams.{cluster_in}
use Rattle.xds_core.specs.Steps.{Core, rested}
use Rattle.xds_rest.specs.Posts.{HttpReply, without_body, with_body, addressed, IsPoll, RefusesBody, refused_reply}

-- rule: not-modified
-- what is written of a replica's answer to a poll
abbrev pub http_of : Option Drafted → HttpReply
http_of None = without_body 304
http_of (Some d) = with_body 200 (compact_text (response_object (message_of d)))

-- the same of any answer of a replica; one that is none to a poll has no reply of its own
abbrev pub reply_to : Reply → HttpReply
reply_to (events.Rested o) = http_of o
reply_to reply = without_body 500

-- What is said of an event that is a poll, by its type, names, kept version and cluster. Of any other nothing is said.
abbrev pub IfPoll : Event → (TypeName → List (List ℕ) → List ℕ → List ℕ → Type 0) → Type 0
IfPoll (events.Rest t names version cluster) P = P t names version cluster
IfPoll e P = ⊤

-- rule: not-modified
-- the reply to a poll of a type at a replica
abbrev pub poll_reply : Core → TypeName → Request → HttpReply
poll_reply c t q = http_of (rested c t q.resource_names q.version_info (cluster_in q.node))

abbrev pub IsPollReply : Core → TypeName → List ℕ → HttpReply → Type 0
IsPollReply c t body r = (q : Request) × IsPoll t body q × (r ≡ poll_reply c t q)

abbrev pub IsRefusal : TypeName → List ℕ → HttpReply → Type 0
IsRefusal t body r = (e : Refusal) × RefusesBody t body e × (r ≡ refused_reply e)

abbrev pub IsReplyBy : Core → Result TypeName ℕ → List ℕ → HttpReply → Type 0
IsReplyBy c (Err status) body r = r ≡ without_body status
IsReplyBy c (Ok t) body r = IsPollReply c t body r ⊎ IsRefusal t body r

-- The reply of a replica to a request of this method, path and body.
abbrev pub IsReply : Core → List ℕ → List ℕ → List ℕ → HttpReply → Type 0
IsReply c method path body r = IsReplyBy c (addressed method path body) body r
