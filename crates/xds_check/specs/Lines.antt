-- What the lines of a trace say that stand before a line: the writes that are held, and of a stream and a type the requests that
-- were taken, the responses with what became of each, and the names that wait for an answer. Lines are counted here, and no
-- ledger is kept. In these definitions the line that came last stands first. The protocol is that of Envoy's "xDS REST and
-- gRPC protocol"; traces are this project's own.
--     write_at                         the write of this type that a line is, if it is one
--     writes_in                        the writes of a type
--     standing                         the best write of a name: the greatest
--     live                             the best write of a name, if it isn't a deletion
--     Turn                             what a line is to a stream and a type: a request, a response, or nothing
--     turn                             the turn of a line
--     is_asking                        whether a turn is a request
--     has_asked                        whether there was a request
--     offered                          what a response offers of a name
--     offer_at                         the offer of a response, at its line
--     Fate                             what became of a response: unanswered, accepted or refused
--     is_unanswered                    whether a response is unanswered
--     Sent                             a response that was sent
--     answered_by                      a response once this request came
--     sent_after                       the responses after a line; the first request of all answers none
--     sent                             the responses of the type on the stream, the last one first
--     is_waiting                       whether one of some responses is unanswered
--     last_nonce                       the nonce of the last response
--     refused_after                    the refused offer that counts, after a response of this fate
--     refused_offer                    the offer of the latest refused response, where none was accepted since
--     is_stale                         whether the nonce of a request is stale, so that the request is ignored
--     taken_after                      the requests that were taken, after one turn more
--     taken                            the requests of the type on the stream that were taken, the first one first
--     cluster_at                       the cluster text that a line brings, if it is a request on the stream
--     cluster_on                       the cluster text of the stream's first request
--     lists                            the lists of names of some requests of the state of the world
--     mentions                         the two lists of each of some delta requests
--     is_mentioned                     whether there is a delta request among those that mentions were taken from
--     interest_of                      the interest that some requests come to, by the rules of their variant
--     interest                         the interest of the stream in the type
--     speaks_delta                     whether the requests that were taken are those of delta
--     is_covered_as, is_covered        whether a name that has a best write is covered
--     is_shown                         whether a name is present to the client
--     pending_in_delta                 a name after a taken delta request
--     pending_in_sotw                  whether a name is pending after a taken request of the state of the world
--     pending_taken                    the same after a taken request of either variant
--     tells                            whether a response states or removes a name
--     pending_after                    whether a name is pending after a turn
--     is_pending                       whether a name of the type waits for an answer on the stream
--     has_nonce                        whether a line is a response on the stream with this nonce
--     is_used                          whether a nonce was used on the stream, for a response of whatever type
use Rattle.std.specs.Prelude.{ℕ, ◌==◌, List, [], ◌∷◌, ◌++◌, map, Bool, true, false, not, ◌&&◌, ◌||◌, if◌then◌else◌, Option, Some, None, is_some, bytes_eq}
use Rattle.std.specs.List.{list_any, flat_map}
use Rattle.std.specs.Option.{option_map, option_map_or, option_and_then, option_or, unwrap_or}
use Rattle.std.specs.FinMap as finmap
use Rattle.std.specs.FinSet as set
use Rattle.xds_resource.specs.declared.types.TypeName.{TypeName}
use Rattle.xds_resource.specs.Any.{write_type, stamped_write}
use Rattle.xds_resource.specs.Best.{best}
use Rattle.xds_resource.specs.Names.{tabulate}
use Rattle.xds_resource.specs.Types.{is_same_type}
use Rattle.xds_resource.specs.Writes.{StampedWrite, version_of}
use Rattle.xds_interest.specs.Interests.{Selection, covers, in_cluster, has_name, names_among}
use Rattle.xds_interest.specs.SotW.{sotw_interest}
use Rattle.xds_interest.specs.Delta.{Mention, delta_interest}
use Rattle.xds_catalogue.specs.Content.{if_live}
use Rattle.xds_message.specs.DeltaMessages.{DeltaRequest}
use Rattle.xds_message.specs.Messages.{Request}
use Rattle.xds_ledger.specs.declared.entry.Due.{Due}
use Rattle.xds_ledger.specs.declared.entry.Due.TheVariants.{Stated, Removed}
use Rattle.xds_ledger.specs.Offers.{Offer}
use Rattle.xds_ledger.specs.Owed.{present_as}
use Rattle.xds_ledger.specs.Stale as stale
use Rattle.xds_check.specs.declared.asking.Asking.{Asking}
use Rattle.xds_check.specs.declared.asking.Asking.TheVariants.{Sotw, Delta}
use Rattle.xds_check.specs.declared.line.Line.{Line}
use Rattle.xds_check.specs.declared.line.Line.TheVariants as lines
use Rattle.xds_check.specs.Answers.{Answer, stated_names, is_of, nonce_of, rejects, cluster_of, lists_in, mentions_in}

-- ---- writes

-- the write of this type that a line is, if it is one
abbrev pub write_at : TypeName → Line → List StampedWrite
write_at t (lines.Write w) = if is_same_type (write_type w) t then stamped_write w ∷ [] else []
write_at t (lines.Open s) = []
write_at t (lines.Close s) = []
write_at t (lines.Request s m) = []
write_at t (lines.Response s a) = []
write_at t (lines.Idle s u) = []

-- the writes of a type
abbrev pub writes_in : TypeName → List Line → List StampedWrite
writes_in t earlier = flat_map (write_at t) earlier

-- rule: greatest-write
-- the best write of a name: the greatest
abbrev pub standing : TypeName → List Line → List ℕ → Option StampedWrite
standing t earlier name = best (writes_in t earlier) name

-- rule: tombstones
-- the best write of a name, if it isn't a deletion
abbrev pub live : TypeName → List Line → List ℕ → Option StampedWrite
live t earlier name = option_and_then if_live (standing t earlier name)

-- ---- what a line says of a stream and a type

pub data Turn : Type 0 where
  Asks : Asking → Turn
  Answers : Answer → Turn
  Nothing : Turn

abbrev pub turn : ℕ → TypeName → Line → Turn
turn s t (lines.Write w) = Nothing
turn s t (lines.Open r) = Nothing
turn s t (lines.Close r) = Nothing
turn s t (lines.Request r m) = if r == s && is_of t m then Asks m else Nothing
turn s t (lines.Response r a) = if r == s && is_same_type a.kind t then Answers a else Nothing
turn s t (lines.Idle r u) = Nothing

abbrev pub is_asking : Turn → Bool
is_asking (Asks m) = true
is_asking (Answers a) = false
is_asking Nothing = false

-- whether there was a request
abbrev pub has_asked : ℕ → TypeName → List Line → Bool
has_asked s t earlier = list_any (λ l. is_asking (turn s t l)) earlier

-- ---- responses, and what became of each

-- rule: refused-offer
-- What a response offers of a name: the version of the best write of a name that it states, or that a name is removed. (A name
-- that it both states and removes counts as removed; it breaks another rule in any case.)
abbrev pub offered : List Line → Answer → List ℕ → Option Due
offered earlier a name =
    if has_name a.removed name then Some Removed
    else if has_name (stated_names a) name then option_map (λ w. Stated (version_of w)) (standing a.kind earlier name) else None

-- rule: refused-offer
-- the offer of a response, at its line
abbrev pub offer_at : List Line → Answer → Offer
offer_at earlier a = tabulate (offered earlier a) (a.removed ++ stated_names a)

pub data Fate : Type 0 where
  Unanswered : Fate
  Accepted : Fate
  Refused : Fate

abbrev pub is_unanswered : Fate → Bool
is_unanswered Unanswered = true
is_unanswered Accepted = false
is_unanswered Refused = false

-- a response that was sent
pub record Sent : Type 0 where
  pub nonce : List ℕ
  pub offer : Offer
  pub fate : Fate

-- rule: accept-reject
-- a response once this request came: one that is unanswered and has its nonce is accepted or refused by it
abbrev pub answered_by : Asking → Sent → Sent
answered_by m r =
    if is_unanswered r.fate && bytes_eq r.nonce (nonce_of m) then record { nonce = r.nonce; offer = r.offer; fate = if rejects m then Refused else Accepted } else r

-- rule: accept-reject
-- the responses after a line; the first request of all answers none
abbrev pub sent_after : List Line → Bool → Turn → List Sent → List Sent
sent_after earlier begun (Asks m) before = if begun then map (answered_by m) before else before
sent_after earlier begun (Answers a) before = record { nonce = a.nonce; offer = offer_at earlier a; fate = Unanswered } ∷ before
sent_after earlier begun Nothing before = before

-- the responses of the type on the stream, the last one first
abbrev pub sent : ℕ → TypeName → List Line → List Sent
sent s t [] = []
sent s t (l ∷ earlier) = sent_after earlier (has_asked s t earlier) (turn s t l) (sent s t earlier)

-- rule: one-unanswered
abbrev pub is_waiting : List Sent → Bool
is_waiting responses = list_any (λ r. is_unanswered r.fate) responses

-- the nonce of the last response
abbrev pub last_nonce : List Sent → Option (List ℕ)
last_nonce [] = None
last_nonce (r ∷ responses) = Some r.nonce

-- rule: refused-offer
-- the offer of the latest refused response, where none was accepted since
abbrev pub refused_after : Fate → Offer → Option Offer → Option Offer
refused_after Unanswered o before = before
refused_after Accepted o before = None
refused_after Refused o before = Some o

-- rule: refused-offer
abbrev pub refused_offer : List Sent → Option Offer
refused_offer [] = None
refused_offer (r ∷ responses) = refused_after r.fate r.offer (refused_offer responses)

-- ---- requests that are taken

-- rule: stale-nonce
-- whether the nonce of a request is stale, so that the request is ignored, by the responses so far
abbrev pub is_stale : Bool → List Sent → Asking → Bool
is_stale begun responses m = stale.is_stale begun (not (is_waiting responses)) (last_nonce responses) (nonce_of m)

-- rule: stale-nonce
abbrev pub taken_after : Bool → List Sent → Turn → List Asking → List Asking
taken_after begun responses (Asks m) before = if is_stale begun responses m then before else before ++ m ∷ []
taken_after begun responses (Answers a) before = before
taken_after begun responses Nothing before = before

-- the requests of the type on the stream that were taken, the first one first
abbrev pub taken : ℕ → TypeName → List Line → List Asking
taken s t [] = []
taken s t (l ∷ earlier) = taken_after (has_asked s t earlier) (sent s t earlier) (turn s t l) (taken s t earlier)

-- ---- interests

-- rule: groups
-- the cluster text that a line brings, if it is a request on the stream, be it ignored or of a type outside the table
abbrev pub cluster_at : ℕ → Line → Option (List ℕ)
cluster_at s (lines.Write w) = None
cluster_at s (lines.Open r) = None
cluster_at s (lines.Close r) = None
cluster_at s (lines.Request r m) = if r == s then Some (cluster_of m) else None
cluster_at s (lines.Response r a) = None
cluster_at s (lines.Idle r u) = None

-- rule: groups
-- the cluster text of the stream's first request
abbrev pub cluster_on : ℕ → List Line → Option (List ℕ)
cluster_on s [] = None
cluster_on s (l ∷ earlier) = option_or (cluster_on s earlier) (cluster_at s l)

abbrev pub lists : List Asking → List (List (List ℕ))
lists requests = flat_map lists_in requests

abbrev pub mentions : List Asking → List Mention
mentions requests = flat_map mentions_in requests

-- whether there is a delta request among those that mentions were taken from
abbrev pub is_mentioned : List Mention → Bool
is_mentioned [] = false
is_mentioned (m ∷ ms) = true

-- rule: listed-names, rule: delta-names
-- the interest that some requests come to, by the rules of their variant
abbrev pub interest_of : TypeName → List Asking → List Mention → Selection
interest_of t requests [] = sotw_interest t (lists requests)
interest_of t requests (m ∷ ms) = delta_interest t (m ∷ ms)

-- the interest of the stream in the type: that of the taken requests, with the stream's cluster text
abbrev pub interest : ℕ → TypeName → List Line → Selection
interest s t earlier = in_cluster (unwrap_or (cluster_on s earlier) []) (interest_of t (taken s t earlier) (mentions (taken s t earlier)))

-- whether the requests that were taken are those of delta
abbrev pub speaks_delta : ℕ → TypeName → List Line → Bool
speaks_delta s t earlier = is_mentioned (mentions (taken s t earlier))

-- rule: covered-only
-- whether a name is covered, by the write that stands under it, if there is one
abbrev pub is_covered_as : Selection → List ℕ → Option StampedWrite → Bool
is_covered_as s name standing = option_map_or (λ w. covers s name w.groups) standing false

-- rule: covered-only
-- whether a name that has a best write is covered
abbrev pub is_covered : ℕ → TypeName → List Line → List ℕ → Bool
is_covered s t earlier name = is_covered_as (interest s t earlier) name (standing t earlier name)

-- rule: no-live-removal
-- whether a name is present to the client: live and covered
abbrev pub is_shown : ℕ → TypeName → List Line → List ℕ → Bool
is_shown s t earlier name = is_some (present_as (interest s t earlier) name (standing t earlier name))

-- ---- pending names

-- rule: awaited-names
-- A name after a taken delta request: it is pending that the request subscribes, unless the first one says which version the
-- client has; and no longer if the request only unsubscribes it.
abbrev pub pending_in_delta : TypeName → Bool → DeltaRequest → List ℕ → Bool → Bool
pending_in_delta t begun m name before =
    (has_name (names_among t m.resource_names_subscribe) name && (begun || not (is_some (finmap.get m.initial_resource_versions name))))
    || (before && not (has_name m.resource_names_unsubscribe name && not (has_name m.resource_names_subscribe name)))

-- rule: awaited-names
-- A name after a taken request of the state of the world: it is pending that the request lists, if it was before or wasn't
-- explicit; and no longer if the request doesn't list it.
abbrev pub pending_in_sotw : TypeName → Selection → Request → List ℕ → Bool → Bool
pending_in_sotw t old m name before = has_name (names_among t m.resource_names) name && (before || not (set.contains old.names name))

-- rule: awaited-names
abbrev pub pending_taken : TypeName → Bool → Selection → Asking → List ℕ → Bool → Bool
pending_taken t begun old (Sotw m) name before = pending_in_sotw t old m name before
pending_taken t begun old (Delta m) name before = pending_in_delta t begun m name before

-- rule: awaited-names
-- whether a response states or removes a name
abbrev pub tells : Answer → List ℕ → Bool
tells a name = has_name (stated_names a) name || has_name a.removed name

-- rule: stale-nonce, rule: awaited-names
abbrev pub pending_after : ℕ → TypeName → List Line → Turn → List ℕ → Bool → Bool
pending_after s t earlier (Asks m) name before =
    if is_stale (has_asked s t earlier) (sent s t earlier) m then before else pending_taken t (has_asked s t earlier) (interest s t earlier) m name before
pending_after s t earlier (Answers a) name before = before && not (tells a name)
pending_after s t earlier Nothing name before = before

-- rule: awaited-names
-- whether a name of the type waits for an answer on the stream
abbrev pub is_pending : ℕ → TypeName → List Line → List ℕ → Bool
is_pending s t [] name = false
is_pending s t (l ∷ earlier) name = pending_after s t earlier (turn s t l) name (is_pending s t earlier name)

-- ---- nonces

-- rule: new-nonce
-- whether a line is a response on the stream with this nonce
abbrev pub has_nonce : ℕ → List ℕ → Line → Bool
has_nonce s nonce (lines.Write w) = false
has_nonce s nonce (lines.Open r) = false
has_nonce s nonce (lines.Close r) = false
has_nonce s nonce (lines.Request r m) = false
has_nonce s nonce (lines.Response r a) = r == s && bytes_eq a.nonce nonce
has_nonce s nonce (lines.Idle r u) = false

-- rule: new-nonce
-- whether a nonce was used on the stream, for a response of whatever type
abbrev pub is_used : ℕ → List Line → List ℕ → Bool
is_used s earlier nonce = list_any (has_nonce s nonce) earlier
