-- A client that subscribes to names of one type, and what it says first on a stream. The requests are those of discovery.proto; the rest
-- is this project's own.
--     node_id                          what a client of the program says of itself
--     names_of                         the names, as texts
--     request_kind                     the kind of a frame with a request of the variant
--     response_kind                    the kind of a frame with a response of the variant
--     sotw_text                        the text of a request of the state of the world
--     delta_text                       the text of a delta request
--     asking                           the frame of a request with this text
--     Fits                             the text isn't longer than a frame's may be
--     asked                            requests with these texts, one after another
--     wanting                          a new client that wants the names, and has no stream
--     begun                            that client on its stream
--     first_texts                      the texts of a client's first requests
--     first_client                     the client once it sent its first requests
--     opening_texts                    the texts of the first requests of a subscription
--     opening                          what it says first
--     OpeningFits                      all of it fits into frames
use Rattle.std.specs.Prelude.{ℕ, List, [], map, codes, string_bytes, All, false}
use Rattle.std.specs.List.{flat_map}
use Rattle.serde_json.specs.Written.{compact_text}
use Rattle.xds_resource.specs.Types.{types}
use Rattle.xds_frames.specs.declared.frame.FrameKind.{FrameKind}
use Rattle.xds_frames.specs.declared.frame.FrameKind.TheVariants.{DiscoveryRequest, DiscoveryResponse, DeltaDiscoveryRequest, DeltaDiscoveryResponse}
use Rattle.xds_frames.specs.Frames.{Framed, IsFrame, frame_bytes}
use Rattle.xds_message.specs.Messages.{Request}
use Rattle.xds_message.specs.DeltaMessages.{DeltaRequest}
use Rattle.xds_message.specs.Written.{request_object}
use Rattle.xds_message.specs.DeltaWritten.{delta_request_object}
use Rattle.xds_cache.specs.Shelves.{wants_of}
use Rattle.xds_cache.specs.Clients.{Client, fresh, linked}
use Rattle.xds_cache.specs.Sends.{first_requests, sotw_first, delta_first, is_greeted}
use Rattle.xds_cache.specs.Receives.{sotw_changed, delta_changed}
use Rattle.xds_client.specs.declared.subscription.StreamVariant.{StreamVariant}
use Rattle.xds_client.specs.declared.subscription.StreamVariant.TheVariants.{Sotw, Delta}
use Rattle.xds_client.specs.declared.subscription.Subscription.{Subscription}

-- what a client of the program says of itself
abbrev pub node_id : List ℕ
node_id = codes "xds"

-- the names, as texts
abbrev pub names_of : Subscription → List (List ℕ)
names_of s = map string_bytes s.names.now

-- ---- requests as frames

abbrev pub request_kind : StreamVariant → FrameKind
request_kind Sotw = DiscoveryRequest
request_kind Delta = DeltaDiscoveryRequest

abbrev pub response_kind : StreamVariant → FrameKind
response_kind Sotw = DiscoveryResponse
response_kind Delta = DeltaDiscoveryResponse

abbrev pub sotw_text : Request → List ℕ
sotw_text q = compact_text (request_object q)

abbrev pub delta_text : DeltaRequest → List ℕ
delta_text q = compact_text (delta_request_object q)

-- the frame of a request with this text
abbrev pub asking : StreamVariant → List ℕ → Framed
asking v text = record { kind = request_kind v; text = text }

-- the text isn't longer than a frame's may be
abbrev pub Fits : StreamVariant → List ℕ → Type 0
Fits v text = IsFrame (asking v text)

-- requests with these texts, one after another
abbrev pub asked : StreamVariant → List (List ℕ) → List ℕ
asked v texts = flat_map (λ t. frame_bytes (asking v t)) texts

-- ---- the start of a stream

-- a new client that wants the names, and has no stream
abbrev pub wanting : Subscription → StreamVariant → Client
wanting s Sotw = (sotw_changed false s.kind (wants_of (names_of s)) (fresh node_id s.cluster.now)).0
wanting s Delta = (delta_changed false s.kind (wants_of (names_of s)) (wants_of []) (fresh node_id s.cluster.now)).0

-- that client on its stream
abbrev pub begun : Client → Client
begun c = linked (is_greeted c false types) c

-- the texts of its first requests
abbrev pub first_texts : Client → StreamVariant → List (List ℕ)
first_texts c Sotw = map sotw_text (first_requests (sotw_first c) c false types)
first_texts c Delta = map delta_text (first_requests (delta_first c) c false types)

abbrev pub first_client : Subscription → Client
first_client s = begun (wanting s s.variant)

abbrev pub opening_texts : Subscription → List (List ℕ)
opening_texts s = first_texts (wanting s s.variant) s.variant

-- what it says first
abbrev pub opening : Subscription → List ℕ
opening s = asked s.variant (opening_texts s)

-- all of it fits into frames
abbrev pub OpeningFits : Subscription → Type 0
OpeningFits s = All (Fits s.variant) (opening_texts s)
