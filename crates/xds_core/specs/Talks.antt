-- A stream whose variant is decided, and the lists of what a stream may be owed, which decide nothing. This project's own.
--     drafted            a response of the variant with this offer, to a client of this interest
--     Talk, talk_code    a stream whose variant is decided, without that
--     begun              before the first request of a type is taken
--     stream_in          the stream of this variant
--     Followed           a stream, be its variant decided or not, with a list of each type
--     followed_code      the code of such a stream
--     followed_opening   a stream before its first request, with empty lists
--     followed           a stream of this variant, with its lists
--     kept_at            a session of such a stream, with its list
--     StreamFits         once the variant is decided, the list of each type suffices
--     StreamStaysFit     wherever the lists of a stream sufficed, they suffice
--     due_in             whether a response is to be sent, of any type, in a variant
--     is_due             whether one is to be sent on a stream
--     firsts             the first of two, where there are two
--     IsPolled           what a poll of a type answers and leaves
use Rattle.std.specs.Prelude.{◌≡◌, ℕ, List, [], ◌∷◌, Bool, false, Option, Some, is_some, option_map, Result, Ok, Err, IfOk, IfErr, OnErr, refl}
use Rattle.std.specs.Coded.{Coded, code_by, coded×, coded_ℕ}
use Rattle.std.specs.List.{list_any}
use Rattle.std.specs.Option.{option_map_or}
use Rattle.xds_resource.specs.declared.types.TypeName.{TypeName}
use Rattle.xds_resource.specs.declared.refusal.Refusal.{Refusal}
use Rattle.xds_resource.specs.declared.refusal.Refusal.TheVariants.{OutOfMemory}
use Rattle.xds_resource.specs.PerType.{PerType, per_type_code, at, each}
use Rattle.xds_resource.specs.Refusals.{Gives}
use Rattle.xds_resource.specs.Types.{types}
use Rattle.xds_interest.specs.Interests.{Selection}
use Rattle.xds_catalogue.specs.Holdings.{Holdings}
use Rattle.xds_message.specs.declared.draft.Draft.{Draft}
use Rattle.xds_message.specs.declared.draft.Draft.TheVariants as drafts
use Rattle.xds_ledger.specs.Offers.{Offer}
use Rattle.xds_ledger.specs.declared.variant.VariantName.{VariantName}
use Rattle.xds_ledger.specs.declared.variant.VariantName.TheVariants as variants
use Rattle.xds_sessions.specs.SotwPolls as sotw
use Rattle.xds_sessions.specs.DeltaPolls as delta
use Rattle.xds_ledger.specs.Listed.{Listed, listed_code, unlisted}
use Rattle.xds_ledger.specs.Lists.{Kept, SessionFits}
use Rattle.xds_ledger.specs.Sessions.{Session, session_code, unopened, sending}
use Rattle.xds_events.specs.Stores.{Store}
use Rattle.xds_events.specs.Streams.{Stream, stream_code, IsToRespond, opening, to_send, polled}

-- a response of the variant with this offer, to a client of this interest, as the one of a number
abbrev pub drafted : ℕ → TypeName → Holdings → Selection → VariantName → Offer → ℕ → Draft
drafted replica t h s variants.StateOfTheWorld o number = drafts.Sotw (sotw.response replica t h s o number)
drafted replica t h s variants.Delta o number = drafts.Delta (delta.response replica t h o number)

-- A stream whose variant is decided, without that: how many responses were sent on it, a session of each type, and a list of
-- each type of what it may be owed, which decides nothing.
pub record Talk : Type 0 where
  pub count : ℕ
  pub sessions : PerType Session
  pub lists : PerType Listed

abbrev pub talk_code : Coded Talk
talk_code =
    code_by (ℕ × (PerType Session × PerType Listed)) (coded× coded_ℕ (coded× (per_type_code session_code) (per_type_code listed_code))) (λ t. (t.count, (t.sessions, t.lists)))
    (λ p. record { count = p.0; sessions = p.1.0; lists = p.1.1 }) (λ _. refl)

-- before the first request of a type is taken, of a client with this cluster text
abbrev pub begun : List ℕ → Talk
begun cluster = record { count = 0; sessions = each (unopened cluster); lists = each unlisted }

-- the stream of this variant
abbrev pub stream_in : VariantName → Talk → Stream
stream_in v t = record { variant = Some v; count = t.count; sessions = t.sessions }

-- a stream, be its variant decided or not, with a list of each type
pub record Followed : Type 0 where
  pub stream : Stream
  pub lists : PerType Listed

abbrev pub followed_code : Coded Followed
followed_code = code_by (Stream × PerType Listed) (coded× stream_code (per_type_code listed_code)) (λ k. (k.stream, k.lists)) (λ p. record { stream = p.0; lists = p.1 }) (λ _. refl)

abbrev pub followed_opening : Followed
followed_opening = record { stream = opening; lists = each unlisted }

-- a stream of this variant, with its lists
abbrev pub followed : VariantName → Talk → Followed
followed v t = record { stream = stream_in v t; lists = t.lists }

-- a session of such a stream, with its list
abbrev pub kept_at : Followed → TypeName → Kept
kept_at k t = record { session = at k.stream.sessions t; listed = at k.lists t }

-- Once the variant is decided, the list of each type suffices, by what a replica holds.
pub record StreamFits (store : Store) (k : Followed) : Type 0 where
  pub each : (v : VariantName) → k.stream.variant ≡ Some v → (t : TypeName) → SessionFits v t (at store t) (kept_at k t)

-- wherever the lists of a stream sufficed, they suffice
abbrev pub StreamStaysFit : Followed → Followed → Type 0
StreamStaysFit old new = (store : Store) → StreamFits store old → StreamFits store new

-- rule: wake-ups
-- whether a response is to be sent, of any type, in a variant
unfoldable pub due_in : Store → VariantName → PerType Session → Bool
due_in store v ss = list_any (λ t. is_some (sending v t (at ss t) (at store t).entries)) types

-- whether one is to be sent on a stream, of any type
abbrev pub is_due : Store → Stream → Bool
is_due store s = option_map_or (λ v. due_in store v s.sessions) s.variant false

-- the first of two, where there are two
abbrev pub firsts : {D T E : Type 0} → Result (Option (D × T)) E → Result (Option D) E
firsts (Ok o) = Ok (option_map (λ p. p.0) o)
firsts (Err e) = Err e

-- What a poll of a type answers, of which the first is the response, and leaves; where it finds no memory, a response is to be sent.
pub record IsPolled {X : Type 0} (replica : ℕ) (store : Store) (old : Followed) (t : TypeName) (r : Result (Option (Draft × X)) Refusal) (new : Followed) : Type 0 where
  pub gives : Gives (λ o. (o, new.stream)) (firsts r) (polled replica store old.stream t)
  pub sent : IfOk r (λ o. is_some o ≡ is_some (to_send store old.stream t))
  pub memory : IfErr r (λ e. e ≡ OutOfMemory → IsToRespond store old.stream (t ∷ []))
  pub same : OnErr r (new.stream ≡ old.stream)
  pub fits : StreamFits store new
