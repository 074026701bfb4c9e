-- Codes of messages, of streams and of clients on them: each as the tuple of its fields, a choice as a sum. This project's own.
--     text_code                        the code of a text
--     type_number                      a type as a number
--     numbered_type                    the type of a number
--     type_again                       a type is that of its number
--     type_code                        the code of a type
--     kind_number                      a kind of client as a number
--     numbered_kind                    the kind of a number
--     kind_again                       a kind is that of its number
--     kind_code                        the code of a kind of client
--     request_code                     the code of a request
--     message_parts                    a request by its variant
--     message_of_parts                 the request of such parts
--     message_again                    a request is that of its parts
--     message_code                     the code of a request of either variant
--     drafted_code                     the code of a draft of the state of the world
--     drafted_resource_code            the code of a resource of a delta draft
--     drafted_delta_code               the code of a delta draft
--     draft_parts                      a draft by its variant
--     draft_of_parts                   the draft of such parts
--     draft_again                      a draft is that of its parts
--     draft_code                       the code of a draft of either variant
--     link_code                        the code of a link
--     peer_code                        how such a record is coded
use Rattle.std.specs.Prelude.{◌≡◌, ◌⊎◌, ℕ, ◌==◌, List, if◌then◌else◌, Option, refl}
use Rattle.std.proofs.Common.{inl, inr}
use Rattle.std.specs.Coded.{Coded, code_by, coded×, coded⊎, coded_ℕ, coded_list, coded_option}
use Rattle.xds_resource.specs.declared.types.TypeName.{TypeName}
use Rattle.xds_resource.specs.declared.types.TypeName.TheVariants.{Cluster, Endpoint, Listener, Route, Secret}
use Rattle.xds_message.specs.Messages.{Identity, Failure, Request}
use Rattle.xds_message.specs.DeltaMessages.{DeltaRequest, identity_code, failure_code, delta_request_code}
use Rattle.xds_message.specs.declared.draft.Draft.{Draft}
use Rattle.xds_message.specs.declared.draft.Draft.TheVariants as drafts
use Rattle.xds_message.specs.Drafts.{Drafted, DraftedResource, DraftedDelta}
use Rattle.xds_core.specs.Streams as streams
use Rattle.xds_core.specs.Streams.{Message}
use Rattle.xds_cache.specs.Clients.{Client, client_code}
use Rattle.xds_script.specs.declared.event.ClientKind.{ClientKind}
use Rattle.xds_script.specs.declared.event.ClientKind.TheVariants as kinds
use Rattle.xds_world.specs.Worlds.{Link, Peer}

abbrev pub text_code : Coded (List ℕ)
text_code = coded_list coded_ℕ

-- ---- choices without fields, by number

abbrev pub type_number : TypeName → ℕ
type_number Cluster = 0
type_number Endpoint = 1
type_number Listener = 2
type_number Route = 3
type_number Secret = 4

abbrev pub numbered_type : ℕ → TypeName
numbered_type n = if n == 0 then Cluster else if n == 1 then Endpoint else if n == 2 then Listener else if n == 3 then Route else Secret

abbrev pub type_again : (t : TypeName) → numbered_type (type_number t) ≡ t
type_again Cluster = refl
type_again Endpoint = refl
type_again Listener = refl
type_again Route = refl
type_again Secret = refl

abbrev pub type_code : Coded TypeName
type_code = code_by ℕ coded_ℕ type_number numbered_type type_again

abbrev pub kind_number : ClientKind → ℕ
kind_number kinds.Sotw = 0
kind_number kinds.Delta = 1
kind_number kinds.Rest = 2

abbrev pub numbered_kind : ℕ → ClientKind
numbered_kind n = if n == 0 then kinds.Sotw else if n == 1 then kinds.Delta else kinds.Rest

abbrev pub kind_again : (k : ClientKind) → numbered_kind (kind_number k) ≡ k
kind_again kinds.Sotw = refl
kind_again kinds.Delta = refl
kind_again kinds.Rest = refl

abbrev pub kind_code : Coded ClientKind
kind_code = code_by ℕ coded_ℕ kind_number numbered_kind kind_again

-- ---- messages

abbrev pub request_code : Coded Request
request_code =
    code_by (List ℕ × (Option Identity × (List (List ℕ) × (List ℕ × (List ℕ × Option Failure)))))
    (coded× text_code (coded× (coded_option identity_code) (coded× (coded_list text_code) (coded× text_code (coded× text_code (coded_option failure_code))))))
    (λ m. (m.version_info, (m.node, (m.resource_names, (m.type_url, (m.response_nonce, m.error_detail))))))
    (λ p. record { version_info = p.0; node = p.1.0; resource_names = p.1.1.0; type_url = p.1.1.1.0; response_nonce = p.1.1.1.1.0; error_detail = p.1.1.1.1.1 }) (λ _. refl)

abbrev pub message_parts : Message → Request ⊎ DeltaRequest
message_parts (streams.Sotw m) = inl m
message_parts (streams.Delta m) = inr m

abbrev pub message_of_parts : Request ⊎ DeltaRequest → Message
message_of_parts (inl m) = streams.Sotw m
message_of_parts (inr m) = streams.Delta m

abbrev pub message_again : (m : Message) → message_of_parts (message_parts m) ≡ m
message_again (streams.Sotw m) = refl
message_again (streams.Delta m) = refl

abbrev pub message_code : Coded Message
message_code = code_by (Request ⊎ DeltaRequest) (coded⊎ request_code delta_request_code) message_parts message_of_parts message_again

abbrev pub drafted_code : Coded Drafted
drafted_code =
    code_by (TypeName × (List ℕ × (List ℕ × List (List ℕ)))) (coded× type_code (coded× text_code (coded× text_code (coded_list text_code)))) (λ d. (d.kind, (d.version_info, (d.nonce, d.bodies))))
    (λ p. record { kind = p.0; version_info = p.1.0; nonce = p.1.1.0; bodies = p.1.1.1 }) (λ _. refl)

abbrev pub drafted_resource_code : Coded DraftedResource
drafted_resource_code =
    code_by (List ℕ × (List ℕ × List ℕ)) (coded× text_code (coded× text_code text_code)) (λ r. (r.name, (r.version, r.body))) (λ p. record { name = p.0; version = p.1.0; body = p.1.1 }) (λ _. refl)

abbrev pub drafted_delta_code : Coded DraftedDelta
drafted_delta_code =
    code_by (TypeName × (List ℕ × (List ℕ × (List DraftedResource × List (List ℕ)))))
    (coded× type_code (coded× text_code (coded× text_code (coded× (coded_list drafted_resource_code) (coded_list text_code)))))
    (λ d. (d.kind, (d.system_version_info, (d.nonce, (d.resources, d.removed_resources)))))
    (λ p. record { kind = p.0; system_version_info = p.1.0; nonce = p.1.1.0; resources = p.1.1.1.0; removed_resources = p.1.1.1.1 }) (λ _. refl)

abbrev pub draft_parts : Draft → Drafted ⊎ DraftedDelta
draft_parts (drafts.Sotw d) = inl d
draft_parts (drafts.Delta d) = inr d

abbrev pub draft_of_parts : Drafted ⊎ DraftedDelta → Draft
draft_of_parts (inl d) = drafts.Sotw d
draft_of_parts (inr d) = drafts.Delta d

abbrev pub draft_again : (d : Draft) → draft_of_parts (draft_parts d) ≡ d
draft_again (drafts.Sotw d) = refl
draft_again (drafts.Delta d) = refl

abbrev pub draft_code : Coded Draft
draft_code = code_by (Drafted ⊎ DraftedDelta) (coded⊎ drafted_code drafted_delta_code) draft_parts draft_of_parts draft_again

-- ---- streams, and clients on them

abbrev pub link_code : Coded Link
link_code =
    code_by (ℕ × (ℕ × (List Message × List Draft))) (coded× coded_ℕ (coded× coded_ℕ (coded× (coded_list message_code) (coded_list draft_code)))) (λ l. (l.replica, (l.stream, (l.up, l.down))))
    (λ p. record { replica = p.0; stream = p.1.0; up = p.1.1.0; down = p.1.1.1 }) (λ _. refl)

abbrev pub peer_code : Coded Peer
peer_code =
    code_by (ClientKind × (Client × Option Link)) (coded× kind_code (coded× client_code (coded_option link_code))) (λ p. (p.kind, (p.client, p.link)))
    (λ q. record { kind = q.0; client = q.1.0; link = q.1.1 }) (λ _. refl)
