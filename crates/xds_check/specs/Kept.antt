-- What the checker of a trace keeps of the lines so far, of one type: of each stream the client's interest, the last response,
-- the offers that count, the names that wait and the nonces that were used. This project's own.
--     Marks                            names, each with whether it is marked
--     is_marked                        whether a name is marked
--     without_each                     without those names of a list of which a test is true
--     StreamTalk, offer_code, marks_code, talk_code  what is kept of a stream, of one type
--     unheard                          the account of a stream of which no line spoke
--     Talks                            the accounts of all streams, by number
--     talk_at                          what is kept of a stream
--     wanted                           what the client wants
--     introduced                       once the client made itself known, as one of this cluster
--     is_stale                         whether the nonce of a request is stale, so that the request is ignored
--     listed_mark                      the mark of a name that a request of the state of the world lists
--     listed_marks                     the marks of all names that it lists
--     left_marks                       without the names that a delta request unsubscribes, which subscribes others
--     joined_mark                      the mark of a name that a delta request subscribes
--     mentioned_marks                  the marks after a delta request
--     waiting_after                    the names that wait once a request is taken
--     with_asked                       with the interest as after a request
--     with_taken                       once a request is taken
--     is_answer                        whether a request answers the response that is unanswered
--     answered                         once the response is answered, if the request does that
--     begun_now                        once the type was asked for
--     requested                        once a request of the type came
--     asked                            once a request of whatever type came
--     stated_due                       what a response says of a name that it states
--     offer_in                         the offer of a response
--     unmarked                         without the marks of these names
--     responded                        once a response of the type was sent
--     with_nonce                       with this nonce among the used ones
--     told                             once a response of whatever type was sent
--     heard                            what is kept of a stream after a line
--     is_reused                        whether a response has no nonce, or one that was used before
--     is_best_in                       whether a resource is that of the best live write of its name
--     breaks_best_resources            whether a response states a resource that isn't
--     is_covered_in                    whether a name that has a best write is covered
--     states_uncovered                 whether a response states a name that isn't covered
--     lacks_one                        whether some names lack that of one of some writes
--     lacks_a_name                     whether a whole response lacks a name that is live and covered
--     is_shown_in                      whether a name is present to a client
--     removes_shown                    whether a response removes such a name
--     offers_refused                   whether a response offers what was refused last
--     least_by_names                   the least rule that a response breaks
--     least_by_order                   and of those that look at what became of the responses before it
--     least                            the least rule that a response breaks
--     is_missed                        whether a name waits whose answer is missed
--     none_missed                      whether no name waits whose answer is missed
--     broken_in                        the least rule that a line breaks, if it is one of this type
--     held_after                       the writes that are held
--     IsHeard                          what is kept of every stream
use Rattle.std.specs.Prelude.{◌≡◌, ℕ, List, [], ◌∷◌, Bool, true, false, not, ◌&&◌, ◌||◌, if◌then◌else◌, ◌==◌, Option, Some, None, is_some, bytes_eq, refl}
use Rattle.std.specs.Coded.{Coded, code_by, coded×, coded_ℕ, coded_bool, coded_list, coded_option}
use Rattle.std.specs.List.{list_any, list_all}
use Rattle.std.specs.Option.{option_map, option_map_or, option_or, unwrap_or}
use Rattle.std.specs.Ordering.{nat_cmp}
use Rattle.std.specs.FinMap as finmap
use Rattle.std.specs.FinSet as set
use Rattle.xds_resource.specs.declared.types.TypeName.{TypeName}
use Rattle.xds_resource.specs.Names.{put_each}
use Rattle.xds_resource.specs.Types.{is_same_type}
use Rattle.xds_resource.specs.Writes.{StampedWrite, text_cmp, version_of}
use Rattle.xds_interest.specs.Interests.{Selection, covers, has_name, is_star}
use Rattle.xds_interest.specs.Asked.{Asked, asked_code, unasked, sotw_asked, delta_asked}
use Rattle.xds_catalogue.specs.Content.{live_at, content}
use Rattle.xds_catalogue.specs.Holdings.{Entries, Holdings}
use Rattle.xds_catalogue.specs.Joins.{joined}
use Rattle.xds_json.specs.Versions.{VersionMap}
use Rattle.xds_message.specs.DeltaMessages.{DeltaRequest}
use Rattle.xds_ledger.specs.declared.entry.Due.{Due}
use Rattle.xds_ledger.specs.declared.entry.Due.TheVariants.{Stated, Removed}
use Rattle.xds_ledger.specs.Offers.{Offer, due_code, same_offer}
use Rattle.xds_ledger.specs.Owed.{present}
use Rattle.xds_ledger.specs.Stale as stale
use Rattle.xds_ledger.specs.Variants.{is_whole}
use Rattle.xds_check.specs.declared.asking.Asking.{Asking}
use Rattle.xds_check.specs.declared.asking.Asking.TheVariants.{Sotw, Delta}
use Rattle.xds_check.specs.declared.line.Line.{Line}
use Rattle.xds_check.specs.declared.line.Line.TheVariants as lines
use Rattle.xds_check.specs.declared.rule.Rule.{Rule}
use Rattle.xds_check.specs.declared.rule.Rule.TheVariants.{FreshNonce, BestResources, CoveredResources, WholeResponse, RightRemovals, OneAtATime, NothingRefusedAgain, NothingPending}
use Rattle.xds_check.specs.Answers.{Statement, Answer, stated_names, is_of, nonce_of, rejects, cluster_of, mention_in}
use Rattle.xds_check.specs.Lines.{is_covered_as}
use Rattle.xds_check.specs.Rules.{is_best_as}
use Rattle.xds_check.specs.Writes.{write_of}

-- names, each with whether it is marked
abbrev pub Marks : Type 0
Marks = finmap.FinMap text_cmp Bool

abbrev pub is_marked : Marks → List ℕ → Bool
is_marked m name = unwrap_or (finmap.get m name) false

-- without those names of a list of which a test is true
abbrev pub without_each : (List ℕ → Bool) → Marks → List (List ℕ) → Marks
without_each f m [] = m
without_each f m (n ∷ ns) = without_each f (if f n then finmap.remove m n else m) ns

-- what is kept of a stream, of one type
pub record StreamTalk : Type 0 where
  -- whether the client made itself known, by a request of whatever type
  pub known : Bool
  -- whether there was a request of the type
  pub begun : Bool
  -- what the requests that were taken ask for, of either variant
  pub sotw : Asked
  pub delta : Asked
  -- the nonce of the last response of the type
  pub last : Option (List ℕ)
  -- the offer of the response that no request answered
  pub unanswered : Option Offer
  -- the offer of the latest refused response, where none was accepted since
  pub refused : Option Offer
  -- the names that wait for an answer are marked, and no others stand there
  pub waiting : Marks
  -- the nonces that were used on the stream
  pub used : Marks

abbrev pub offer_code : Coded Offer
offer_code = finmap.code (coded_list coded_ℕ) due_code

abbrev pub marks_code : Coded Marks
marks_code = finmap.code (coded_list coded_ℕ) coded_bool

abbrev pub talk_code : Coded StreamTalk
talk_code =
    code_by (Bool × (Bool × (Asked × (Asked × (Option (List ℕ) × (Option Offer × (Option Offer × (Marks × Marks))))))))
    (coded× coded_bool (coded× coded_bool (coded× asked_code (coded× asked_code (coded× (coded_option (coded_list coded_ℕ)) (coded× (coded_option offer_code) (coded× (coded_option offer_code) (coded× marks_code marks_code))))))))
    (λ k. (k.known, (k.begun, (k.sotw, (k.delta, (k.last, (k.unanswered, (k.refused, (k.waiting, k.used)))))))))
    (λ p. record { known = p.0; begun = p.1.0; sotw = p.1.1.0; delta = p.1.1.1.0; last = p.1.1.1.1.0; unanswered = p.1.1.1.1.1.0; refused = p.1.1.1.1.1.1.0; waiting = p.1.1.1.1.1.1.1.0; used = p.1.1.1.1.1.1.1.1 }) (λ _. refl)

-- of a stream of which no line spoke
abbrev pub unheard : StreamTalk
unheard = record { known = false; begun = false; sotw = unasked []; delta = unasked []; last = None; unanswered = None; refused = None; waiting = finmap.empty; used = finmap.empty }

abbrev pub Talks : Type 0
Talks = finmap.FinMap nat_cmp StreamTalk

-- what is kept of a stream
abbrev pub talk_at : Talks → ℕ → StreamTalk
talk_at talks s = unwrap_or (finmap.get talks s) unheard

-- what the client wants
abbrev pub wanted : StreamTalk → Selection
wanted k = if k.delta.begun then k.delta.interest else k.sotw.interest

-- ---- requests

-- rule: groups
-- once the client made itself known, as one of this cluster
abbrev pub introduced : List ℕ → StreamTalk → StreamTalk
introduced cluster k = if k.known then k else record k { known = true; sotw = unasked cluster; delta = unasked cluster }

-- rule: stale-nonce
-- whether the nonce of a request is stale, so that the request is ignored
abbrev pub is_stale : StreamTalk → Asking → Bool
is_stale k m = stale.is_stale k.begun (not (is_some k.unanswered)) k.last (nonce_of m)

-- rule: awaited-names
-- what a request of the state of the world says of a name that it lists
abbrev pub listed_mark : TypeName → Selection → Marks → List ℕ → Option Bool
listed_mark t old m name = if not (is_star t name) && (is_marked m name || not (set.contains old.names name)) then Some true else None

-- rule: awaited-names
abbrev pub listed_marks : TypeName → Selection → Marks → List (List ℕ) → Marks
listed_marks t old m names = put_each (listed_mark t old m) finmap.empty names

-- rule: awaited-names
-- without the names that a delta request unsubscribes, which subscribes others
abbrev pub left_marks : List (List ℕ) → Marks → List (List ℕ) → Marks
left_marks subscribed m names = without_each (λ name. not (has_name subscribed name)) m names

-- rule: awaited-names
-- what one says of a name that it subscribes, whose client says to have these versions
abbrev pub joined_mark : TypeName → Bool → VersionMap → List ℕ → Option Bool
joined_mark t begun versions name = if not (is_star t name) && (begun || not (is_some (finmap.get versions name))) then Some true else None

-- rule: awaited-names
abbrev pub mentioned_marks : TypeName → Bool → DeltaRequest → Marks → Marks
mentioned_marks t begun m before =
    put_each (joined_mark t begun m.initial_resource_versions) (left_marks m.resource_names_subscribe before m.resource_names_unsubscribe) m.resource_names_subscribe

-- rule: awaited-names
-- the names that wait once a request is taken
abbrev pub waiting_after : TypeName → StreamTalk → Asking → Marks
waiting_after t k (Sotw m) = listed_marks t (wanted k) k.waiting m.resource_names
waiting_after t k (Delta m) = mentioned_marks t k.begun m k.waiting

-- rule: listed-names, rule: delta-names
abbrev pub with_asked : TypeName → StreamTalk → Asking → StreamTalk
with_asked t k (Sotw m) = record k { sotw = sotw_asked t k.sotw m.resource_names }
with_asked t k (Delta m) = record k { delta = delta_asked t k.delta (mention_in m) }

-- once a request is taken
abbrev pub with_taken : TypeName → Asking → StreamTalk → StreamTalk
with_taken t m k = record (with_asked t k m) { waiting = waiting_after t k m }

-- rule: accept-reject
-- whether a request answers the response that is unanswered
abbrev pub is_answer : StreamTalk → Asking → Bool
is_answer k m = k.begun && is_some k.unanswered && option_map_or (bytes_eq (nonce_of m)) k.last false

-- rule: accept-reject, rule: refused-offer
-- once the response is answered, if the request does that
abbrev pub answered : Asking → StreamTalk → StreamTalk
answered m k =
    if is_answer k m then record k { unanswered = None; refused = if rejects m then k.unanswered else None } else k

abbrev pub begun_now : StreamTalk → StreamTalk
begun_now k = record k { begun = true }

-- rule: stale-nonce
-- once a request of the type came
abbrev pub requested : TypeName → Asking → StreamTalk → StreamTalk
requested t m k = begun_now (answered m (if is_stale k m then k else with_taken t m k))

-- once a request of whatever type came
abbrev pub asked : TypeName → Asking → StreamTalk → StreamTalk
asked t m k = if is_of t m then requested t m (introduced (cluster_of m) k) else introduced (cluster_of m) k

-- ---- responses

-- rule: refused-offer
-- what a response says of a name that it states
abbrev pub stated_due : Entries → List ℕ → Option Due
stated_due m name = option_map (λ w. Stated (version_of w)) (finmap.get m name)

-- rule: refused-offer
-- the offer of a response
abbrev pub offer_in : Entries → Answer → Offer
offer_in m a = put_each (λ _. Some Removed) (put_each (stated_due m) finmap.empty (stated_names a)) a.removed

-- rule: awaited-names
-- without the marks of these names
abbrev pub unmarked : Marks → List (List ℕ) → Marks
unmarked m names = without_each (λ _. true) m names

-- rule: awaited-names, rule: one-unanswered
-- once a response of the type was sent
abbrev pub responded : Entries → Answer → StreamTalk → StreamTalk
responded m a k = record k { last = Some a.nonce; unanswered = Some (offer_in m a); waiting = unmarked (unmarked k.waiting (stated_names a)) a.removed }

-- rule: new-nonce
abbrev pub with_nonce : List ℕ → StreamTalk → StreamTalk
with_nonce nonce k = record k { used = finmap.insert k.used nonce true }

-- rule: new-nonce
-- once a response of whatever type was sent
abbrev pub told : TypeName → Entries → Answer → StreamTalk → StreamTalk
told t m a k = if is_same_type a.kind t then responded m a (with_nonce a.nonce k) else with_nonce a.nonce k

-- ---- lines

-- what is kept of a stream after a line
abbrev pub heard : TypeName → Entries → ℕ → Line → StreamTalk → StreamTalk
heard t m s (lines.Write w) k = k
heard t m s (lines.Open r) k = k
heard t m s (lines.Close r) k = k
heard t m s (lines.Request r q) k = if r == s then asked t q k else k
heard t m s (lines.Response r a) k = if r == s then told t m a k else k
heard t m s (lines.Idle r u) k = k

-- ---- what breaks the rules, by what is kept

-- rule: new-nonce
-- whether a response has no nonce, or one that was used before
abbrev pub is_reused : StreamTalk → List ℕ → Bool
is_reused k nonce = bytes_eq nonce [] || is_some (finmap.get k.used nonce)

-- rule: best-writes
-- whether a resource is that of the best live write of its name
abbrev pub is_best_in : Entries → Statement → Bool
is_best_in m x = is_best_as x (finmap.get m x.name)

-- rule: best-writes
abbrev pub breaks_best_resources : Entries → Answer → Bool
breaks_best_resources m a = list_any (λ x. not (is_best_in m x)) a.statements

-- rule: covered-only
-- whether a name that has a best write is covered
abbrev pub is_covered_in : Entries → Selection → List ℕ → Bool
is_covered_in m s name = is_covered_as s name (finmap.get m name)

-- rule: covered-only
abbrev pub states_uncovered : Entries → Selection → Answer → Bool
states_uncovered m s a = list_any (λ name. not (is_covered_in m s name)) (stated_names a)

-- rule: whole-response
-- whether a response lacks one of some writes
abbrev pub lacks_one : List (List ℕ) → List StampedWrite → Bool
lacks_one names ws = list_any (λ w. not (has_name names w.name)) ws

-- rule: whole-response
abbrev pub lacks_a_name : TypeName → Entries → Selection → Answer → Bool
lacks_a_name t m s a = is_whole a.variant t && lacks_one (stated_names a) (content m s)

-- rule: no-live-removal
-- whether a name is present to a client of this interest: live and covered
abbrev pub is_shown_in : Entries → Selection → List ℕ → Bool
is_shown_in m s name = is_some (present s m name)

-- rule: no-live-removal
abbrev pub removes_shown : Entries → Selection → Answer → Bool
removes_shown m s a = list_any (is_shown_in m s) a.removed

-- rule: refused-offer
abbrev pub offers_refused : Entries → StreamTalk → Answer → Bool
offers_refused m k a = option_map_or (same_offer (offer_in m a)) k.refused false

-- the least rule that a response breaks, of those that look at what it says of names
abbrev pub least_by_names : TypeName → Entries → Selection → Answer → Option Rule
least_by_names t m s a =
    if breaks_best_resources m a then Some BestResources
    else if states_uncovered m s a then Some CoveredResources
    else if lacks_a_name t m s a then Some WholeResponse
    else if removes_shown m s a then Some RightRemovals else None

-- rule: one-unanswered
-- and of those that look at what became of the responses before it
abbrev pub least_by_order : Entries → StreamTalk → Answer → Option Rule
least_by_order m k a =
    if is_some k.unanswered then Some OneAtATime else if offers_refused m k a then Some NothingRefusedAgain else None

-- the least rule that a response breaks
abbrev pub least : TypeName → Entries → StreamTalk → Answer → Option Rule
least t m k a = if is_reused k a.nonce then Some FreshNonce else option_or (least_by_names t m (wanted k) a) (least_by_order m k a)

-- rule: awaited-names
-- whether a name waits whose answer is missed
abbrev pub is_missed : Entries → StreamTalk → List ℕ → Bool
is_missed m k name = is_marked k.waiting name && (k.delta.begun || is_some (live_at m name))

-- rule: awaited-names
-- whether no name waits whose answer is missed
abbrev pub none_missed : Entries → StreamTalk → Bool
none_missed m k = list_all (λ e. not (is_missed m k e.0)) (finmap.entries k.waiting)

-- the least rule that a line breaks, if it is one of this type
abbrev pub broken_in : TypeName → Entries → Talks → Line → Option Rule
broken_in t m talks (lines.Write w) = None
broken_in t m talks (lines.Open s) = None
broken_in t m talks (lines.Close s) = None
broken_in t m talks (lines.Request s q) = None
broken_in t m talks (lines.Response s a) = if is_same_type a.kind t then least t m (talk_at talks s) a else None
broken_in t m talks (lines.Idle s u) = if is_same_type u t then (if none_missed m (talk_at talks s) then None else Some NothingPending) else None

-- ---- all that is kept, after a line

-- rule: greatest-write
-- the writes that are held
abbrev pub held_after : TypeName → Line → Holdings → Holdings
held_after t (lines.Write w) h = option_map_or (λ x. joined h (x ∷ [])) (write_of t w) h
held_after t (lines.Open s) h = h
held_after t (lines.Close s) h = h
held_after t (lines.Request s q) h = h
held_after t (lines.Response s a) h = h
held_after t (lines.Idle s u) h = h

-- what is kept of every stream
abbrev pub IsHeard : TypeName → Entries → Line → Talks → Talks → Type 0
IsHeard t m l old new = (s : ℕ) → talk_at new s ≡ heard t m s l (talk_at old s)
