-- What a replica keeps of a stream: its variant, once the first request decided it, how many responses were sent on it, and a
-- session of each type. A type that wasn't asked for has a session before its first request. The protocol is that of
-- Envoy's "xDS REST and gRPC protocol"; the variant of a stream, and its cluster text, are this project's own.
--     Stream                           a stream: its variant, the count of its responses, a session of each type
--     variant_flag                     a variant as a flag
--     flagged_variant                  the variant of a flag
--     flagged_again, variant_code      a variant is that of its flag
--     stream_code                      a stream: its variant
--     opening                          before the first request
--     Message                          a request of either variant
--     variant_of                       the variant of a request
--     url_of                           the type URL of a request
--     nonce_of                         the nonce of a request
--     cluster_in                       the cluster text of a node, empty where there is none
--     cluster_of                       the cluster text of the node in a request, empty where there is none
--     is_same_variant                  whether two variants are the same
--     is_foreign                       whether a request isn't of the stream's variant
--     session_after                    the session of a type after a request
--     answered_by                      what a request becomes, and the sessions after it, by the type that it names
--     answered                         the same of a request that must name a type
--     sessions_for                     the sessions that a request comes to
--     requested                        what a request becomes on a stream, and the stream after it
--     to_send                          what the next response of the type would offer, if one is to be sent
--     owes_of                          whether the client is owed something of the type
--     sent                             the stream once a response with this offer was sent
--     response_of                      a response of the variant with this offer, as the one of a number
--     responding                       this offer is sent, where the stream has a number left for it
--     polled                           the response of the type, if one is to be sent, and the stream then
--     looked_at                        one type, or all in the order of the table
--     first_due                        the first of these types that has a response to send
--     polled_first                     the response of the first of these types that has one to send
--     IsToRespond                      what holds where a poll of these types finds no memory
--     owes_some                        whether the client is owed something of these types
use Rattle.std.specs.Prelude.{◌≡◌, ℕ, ◌+◌, ◌==◌, ◌<◌, List, [], ◌∷◌, length, Bool, true, false, not, if◌then◌else◌, Option, Some, None, is_some, IsSome, option_map, find, Result, Ok, Err, refl}
use Rattle.std.specs.Coded.{Coded, code_by, coded×, coded_ℕ, coded_bool, coded_option}
use Rattle.std.specs.Option.{option_map_or, option_and_then}
use Rattle.std.specs.List.{list_any}
use Rattle.xds_resource.specs.declared.types.TypeName.{TypeName}
use Rattle.xds_resource.specs.declared.refusal.Refusal.{Refusal}
use Rattle.xds_resource.specs.declared.refusal.Refusal.TheVariants.{BadMessage, WrongVariant, NonceSpent}
use Rattle.xds_resource.specs.PerType.{PerType, at, with_at, each, per_type_code}
use Rattle.xds_resource.specs.Refusals.{unless_refused}
use Rattle.xds_resource.specs.Stamps.{max_counter}
use Rattle.xds_resource.specs.Types.{types, type_of_url}
use Rattle.xds_message.specs.Messages as messages
use Rattle.xds_message.specs.Messages.{Identity}
use Rattle.xds_message.specs.DeltaMessages.{DeltaRequest}
use Rattle.xds_message.specs.declared.draft.Draft.{Draft}
use Rattle.xds_message.specs.declared.draft.Draft.TheVariants as drafts
use Rattle.xds_ledger.specs.declared.variant.VariantName.{VariantName}
use Rattle.xds_ledger.specs.declared.variant.VariantName.TheVariants as variants
use Rattle.xds_ledger.specs.declared.outcome.Outcome.{Outcome}
use Rattle.xds_ledger.specs.declared.outcome.Outcome.TheVariants.{Ignored}
use Rattle.xds_ledger.specs.Offers.{Offer}
use Rattle.xds_ledger.specs.Variants.{is_delta}
use Rattle.xds_ledger.specs.Sessions as sessions
use Rattle.xds_ledger.specs.Sessions.{Session, session_code, unopened}
use Rattle.xds_sessions.specs.SotwPolls as sotw
use Rattle.xds_sessions.specs.DeltaPolls as delta
use Rattle.xds_events.specs.Stores.{Store, if_done}

pub record Stream : Type 0 where
  pub variant : Option VariantName
  -- the number of the last response, over all types, 0 before the first
  pub count : ℕ
  pub sessions : PerType Session

abbrev pub variant_flag : VariantName → Bool
variant_flag variants.StateOfTheWorld = true
variant_flag variants.Delta = false

abbrev pub flagged_variant : Bool → VariantName
flagged_variant true = variants.StateOfTheWorld
flagged_variant false = variants.Delta

abbrev pub flagged_again : (v : VariantName) → flagged_variant (variant_flag v) ≡ v
flagged_again variants.StateOfTheWorld = refl
flagged_again variants.Delta = refl

abbrev pub variant_code : Coded VariantName
variant_code = code_by Bool coded_bool variant_flag flagged_variant flagged_again

abbrev pub stream_code : Coded Stream
stream_code =
    code_by (Option VariantName × (ℕ × PerType Session)) (coded× (coded_option variant_code) (coded× coded_ℕ (per_type_code session_code)))
    (λ s. (s.variant, (s.count, s.sessions))) (λ p. record { variant = p.0; count = p.1.0; sessions = p.1.1 }) (λ _. refl)

-- before the first request
abbrev pub opening : Stream
opening = record { variant = None; count = 0; sessions = each (unopened []) }

-- a request of either variant
pub data Message : Type 0 where
  Sotw : messages.Request → Message
  Delta : DeltaRequest → Message

abbrev pub variant_of : Message → VariantName
variant_of (Sotw m) = variants.StateOfTheWorld
variant_of (Delta m) = variants.Delta

abbrev pub url_of : Message → List ℕ
url_of (Sotw m) = m.type_url
url_of (Delta m) = m.type_url

abbrev pub nonce_of : Message → List ℕ
nonce_of (Sotw m) = m.response_nonce
nonce_of (Delta m) = m.response_nonce

-- rule: groups
-- the cluster text of the node in a request, if there is one
abbrev pub cluster_in : Option Identity → List ℕ
cluster_in node = option_map_or (λ n. n.cluster) node []

-- rule: groups
abbrev pub cluster_of : Message → List ℕ
cluster_of (Sotw m) = cluster_in m.node
cluster_of (Delta m) = cluster_in m.node

-- whether two variants are the same
abbrev pub is_same_variant : VariantName → VariantName → Bool
is_same_variant variants.StateOfTheWorld v = not (is_delta v)
is_same_variant variants.Delta v = is_delta v

-- rule: first-variant
-- whether a request isn't of the stream's variant; while the stream is opening, either is
abbrev pub is_foreign : Stream → Message → Bool
is_foreign s m = option_map_or (λ v. not (is_same_variant v (variant_of m))) s.variant false

-- rule: groups
-- the session of a type after a request
abbrev pub session_after : TypeName → Session → Message → Session
session_after t s (Sotw m) = sotw.take t s m
session_after t s (Delta m) = delta.take t s m

-- What a request becomes, and the sessions after it, by the type that it names. One of a type outside the table is ignored.
abbrev pub answered_by : PerType Session → Message → Option TypeName → Outcome × PerType Session
answered_by ss m None = (Ignored, ss)
answered_by ss m (Some t) = (sessions.outcome (at ss t) (nonce_of m), with_at ss t (session_after t (at ss t) m))

-- rule: first-variant
-- the same of a request that must name a type
abbrev pub answered : PerType Session → Message → Result (Outcome × PerType Session) Refusal
answered ss m = unless_refused ((length (url_of m) == 0, BadMessage) ∷ []) (answered_by ss m (type_of_url (url_of m)))

-- the sessions that a request comes to: those of the stream, which the first request makes for the cluster text of its node
abbrev pub sessions_for : Stream → Message → PerType Session
sessions_for s m = if is_some s.variant then s.sessions else each (unopened (cluster_of m))

-- rule: first-variant
-- What a request becomes on a stream, and the stream after it. The first that isn't refused decides the variant and the
-- cluster text, be it of a type outside the table; the nodes of later ones aren't looked at.
abbrev pub requested : Stream → Message → Result (Outcome × Stream) Refusal
requested s m =
    if is_foreign s m then Err WrongVariant else if_done (λ p. (p.0, record { variant = Some (variant_of m); count = s.count; sessions = p.1 })) (answered (sessions_for s m) m)

-- ---- what is sent

-- what the next response of the type would offer, if one is to be sent
abbrev pub to_send : Store → Stream → TypeName → Option Offer
to_send store s t = option_and_then (λ v. sessions.sending v t (at s.sessions t) (at store t).entries) s.variant

-- rule: owed
-- whether the client is owed something of the type
abbrev pub owes_of : Store → Stream → TypeName → Bool
owes_of store s t = option_map_or (λ v. sessions.owes v t (at s.sessions t) (at store t).entries) s.variant false

-- the stream once a response with this offer was sent
abbrev pub sent : Stream → TypeName → Offer → Stream
sent s t o = record s { count = s.count + 1; sessions = with_at s.sessions t (sessions.send (at s.sessions t) o (s.count + 1)) }

-- a response of the variant with this offer, as the one of a number
abbrev pub response_of : ℕ → Store → PerType Session → TypeName → Offer → ℕ → VariantName → Draft
response_of replica store ss t o number variants.StateOfTheWorld = drafts.Sotw (sotw.response replica t (at store t) (at ss t).asked.interest o number)
response_of replica store ss t o number variants.Delta = drafts.Delta (delta.response replica t (at store t) o number)

-- rule: nonce-numbers
-- this offer is sent, where the stream has a number left for it
abbrev pub responding : ℕ → Store → Stream → TypeName → Offer → Result (Option Draft × Stream) Refusal
responding replica store s t o =
    unless_refused ((s.count == max_counter, NonceSpent) ∷ []) (option_map (response_of replica store s.sessions t o (s.count + 1)) s.variant, sent s t o)

-- the response of the type, if one is to be sent, and the stream then
abbrev pub polled : ℕ → Store → Stream → TypeName → Result (Option Draft × Stream) Refusal
polled replica store s t = option_map_or (responding replica store s t) (to_send store s t) (Ok (None, s))

-- rule: type-order
-- one type, or all in the order of the table
abbrev pub looked_at : Option TypeName → List TypeName
looked_at None = types
looked_at (Some t) = t ∷ []

-- rule: type-order
-- the first of these types that has a response to send
abbrev pub first_due : Store → Stream → List TypeName → Option TypeName
first_due store s ts = find (λ t. is_some (to_send store s t)) ts

-- rule: type-order
-- the response of the first of these types that has one to send
abbrev pub polled_first : ℕ → Store → Stream → List TypeName → Result (Option Draft × Stream) Refusal
polled_first replica store s ts = option_map_or (polled replica store s) (first_due store s ts) (Ok (None, s))

-- What holds where a poll of these types finds no memory: one of them has a response to send, and the stream has a number left.
abbrev pub IsToRespond : Store → Stream → List TypeName → Type 0
IsToRespond store s ts = IsSome (first_due store s ts) × (s.count < max_counter)

-- rule: owed
-- whether the client is owed something of these types
abbrev pub owes_some : Store → Stream → List TypeName → Bool
owes_some store s ts = list_any (owes_of store s) ts
