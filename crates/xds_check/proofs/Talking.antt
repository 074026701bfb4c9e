-- What is kept of a stream is what the lines say of it: of its requests, and of the responses and what became of each.
use Rattle.std.proofs.Common.{◌≡◌, ℕ, List, [], ◌∷◌, ◌++◌, map, Bool, true, false, cond, not, ◌&&◌, ◌||◌, Option, Some, None, refl, sym, ap, subst, ◌∙◌, append-nil}
use Rattle.std.specs.Prelude.{is_some, bytes_eq, if◌then◌else◌}
use Rattle.std.specs.Option.{unwrap_or, option_or, option_map_or}
use Rattle.std.specs.FinMap as finmap
use Rattle.std.specs.FinSet as set
use Rattle.std.proofs.lemmas.Grind.{flat_map-append}
use Rattle.std.proofs.lemmas.Bool.{or_parts, true≢false}
use Rattle.xds_resource.specs.declared.types.TypeName.{TypeName}
use Rattle.xds_resource.proofs.NameMaps.{bytes_eq_swap, get-insert}
use Rattle.xds_interest.specs.Interests.{Selection, in_cluster, has_name, names_among}
use Rattle.xds_interest.specs.SotW.{sotw_interest}
use Rattle.xds_interest.specs.Delta.{Mention}
use Rattle.xds_interest.specs.Asked.{unasked, sotw_kept, delta_kept, sotw_asked, delta_asked}
use Rattle.xds_interest.proofs.AskedLaws.{sotw_is_kept, delta_is_kept}
use Rattle.xds_catalogue.specs.Holdings.{Entries}
use Rattle.xds_ledger.specs.Offers.{Offer}
use Rattle.xds_check.specs.declared.asking.Asking.{Asking}
use Rattle.xds_check.specs.declared.asking.Asking.TheVariants.{Sotw, Delta}
use Rattle.xds_check.specs.Answers.{Answer, nonce_of, rejects, lists_in, mentions_in, mention_in, stated_names}
use Rattle.xds_check.specs.Lines as lines
use Rattle.xds_check.specs.Lines.{Sent, Unanswered, Accepted, Refused, is_unanswered, answered_by, is_waiting, last_nonce, refused_after, refused_offer, lists, mentions, interest_of, pending_taken, tells}
use Rattle.xds_ledger.specs.Stale as stale
use Rattle.xds_check.specs.Kept.{StreamTalk, unheard, wanted, introduced, is_stale, is_marked, with_taken, is_answer, answered, begun_now, requested, with_nonce, responded, offer_in}
use Rattle.xds_check.proofs.Waiting.{listed_waits, mentioned_waits, told_waits}

-- ---- the responses

-- what is kept of a response that stands unanswered, and of those before it
abbrev pub IsOpen : List Sent → Offer → Option Offer → Type 0
IsOpen [] o refused = ⊥
IsOpen (r ∷ responses) o refused = (r.fate ≡ Unanswered) × (r.offer ≡ o) × (is_waiting responses ≡ false) × (refused ≡ refused_offer responses)

abbrev pub StandsOpen : List Sent → Option Offer → Option Offer → Type 0
StandsOpen responses None refused = (is_waiting responses ≡ false) × (refused ≡ refused_offer responses)
StandsOpen responses (Some o) refused = IsOpen responses o refused

open_waits : (responses : List Sent) (o : Offer) (refused : Option Offer) → IsOpen responses o refused → true ≡ is_waiting responses
open_waits [] o refused stands = absurd stands
open_waits (r ∷ responses) o refused stands = sym (ap (λ f. is_unanswered f || is_waiting responses) stands.0)

pub stands_waits : (responses : List Sent) (unanswered refused : Option Offer) → StandsOpen responses unanswered refused → is_some unanswered ≡ is_waiting responses
stands_waits responses None refused stands = sym stands.0
stands_waits responses (Some o) refused stands = open_waits responses o refused stands

open_refused : (responses : List Sent) (o : Offer) (refused : Option Offer) → IsOpen responses o refused → refused ≡ refused_offer responses
open_refused [] o refused stands = absurd stands
open_refused (r ∷ responses) o refused stands = stands.3 ∙ sym (ap (λ f. refused_after f r.offer (refused_offer responses)) stands.0)

pub stands_refused : (responses : List Sent) (unanswered refused : Option Offer) → StandsOpen responses unanswered refused → refused ≡ refused_offer responses
stands_refused responses None refused stands = stands.1
stands_refused responses (Some o) refused stands = open_refused responses o refused stands

-- ---- a request that answers

-- a response with another fate
abbrev fated : Asking → Sent → Sent
fated m r = record { nonce = r.nonce; offer = r.offer; fate = if rejects m then Refused else Accepted }

unanswering : (m : Asking) (r : Sent) → is_unanswered r.fate ≡ false → answered_by m r ≡ r
unanswering m r fate = ap (λ b. if b && bytes_eq r.nonce (nonce_of m) then fated m r else r) fate

other_nonce : (m : Asking) (r : Sent) → r.fate ≡ Unanswered → bytes_eq r.nonce (nonce_of m) ≡ false → answered_by m r ≡ r
other_nonce m r fate other = (λ i. if is_unanswered (fate i) && other i then fated m r else r)

answering : (m : Asking) (r : Sent) → r.fate ≡ Unanswered → bytes_eq r.nonce (nonce_of m) ≡ true → answered_by m r ≡ fated m r
answering m r fate same = (λ i. if is_unanswered (fate i) && same i then fated m r else r)

pub unanswering_all : (m : Asking) (rs : List Sent) → is_waiting rs ≡ false → map (answered_by m) rs ≡ rs
unanswering_all m [] quiet = refl
unanswering_all m (r ∷ rs) quiet =
    let both = or_parts (is_unanswered r.fate) (is_waiting rs) quiet in
    (λ i. unanswering m r both.0 i ∷ unanswering_all m rs both.1 i)

settled_fate : (m : Asking) (r : Sent) (rs : List Sent) (o : Offer) (refuses : Bool) → r.offer ≡ o → is_waiting rs ≡ false
    → StandsOpen (record { nonce = r.nonce; offer = r.offer; fate = if refuses then Refused else Accepted } ∷ rs) None (if refuses then Some o else None)
settled_fate m r rs o true offer quiet = (quiet, sym (ap Some offer))
settled_fate m r rs o false offer quiet = (quiet, refl)

abbrev answers_open : Bool → Asking → Option (List ℕ) → Option Offer → Bool
answers_open begun m last unanswered = begun && is_some unanswered && option_map_or (bytes_eq (nonce_of m)) last false

-- the responses once a request came
abbrev pub answered_list : Bool → Asking → List Sent → List Sent
answered_list begun m responses = if begun then map (answered_by m) responses else responses

-- where the request answers none
unsettled : (begun : Bool) (m : Asking) (responses : List Sent) (last : Option (List ℕ)) (unanswered refused : Option Offer) → last ≡ last_nonce responses → StandsOpen responses unanswered refused
    → answers_open begun m last unanswered ≡ false → answered_list begun m responses ≡ responses
unsettled false m responses last unanswered refused l stands none = refl
unsettled true m responses last None refused l stands none = unanswering_all m responses stands.0
unsettled true m [] last (Some o) refused l stands none = absurd stands
unsettled true m (r ∷ rs) last (Some o) refused l stands none =
    let other : bytes_eq r.nonce (nonce_of m) ≡ false = bytes_eq_swap r.nonce (nonce_of m) ∙ sym (ap (λ x. option_map_or (bytes_eq (nonce_of m)) x false) l) ∙ none in
    (λ i. other_nonce m r stands.0 other i ∷ unanswering_all m rs stands.2 i)

-- where it answers one
settles : (begun : Bool) (m : Asking) (responses : List Sent) (last : Option (List ℕ)) (unanswered refused : Option Offer) → last ≡ last_nonce responses → StandsOpen responses unanswered refused
    → answers_open begun m last unanswered ≡ true → (last ≡ last_nonce (answered_list begun m responses)) × StandsOpen (answered_list begun m responses) None (if rejects m then unanswered else None)
settles false m responses last unanswered refused l stands is = absurd cc
settles true m responses last None refused l stands is = absurd cc
settles true m [] last (Some o) refused l stands is = absurd stands
settles true m (r ∷ rs) last (Some o) refused l stands is =
    let same : bytes_eq r.nonce (nonce_of m) ≡ true = bytes_eq_swap r.nonce (nonce_of m) ∙ sym (ap (λ x. option_map_or (bytes_eq (nonce_of m)) x false) l) ∙ is in
    let now : map (answered_by m) (r ∷ rs) ≡ fated m r ∷ rs = (λ i. answering m r stands.0 same i ∷ unanswering_all m rs stands.2 i) in
    (l ∙ sym (ap last_nonce now), subst (λ (xs : List Sent). StandsOpen xs None (if rejects m then Some o else None)) (sym now) (settled_fate m r rs o (rejects m) stands.1 stands.2))

-- ---- a stream

-- what is kept of a stream, by what the lines say: its client's cluster, whether there was a request of the type, the requests that
-- were taken, the responses, the names that wait and the nonces that were used
pub record IsSpoken (t : TypeName) (cluster : Option (List ℕ)) (begun : Bool) (requests : List Asking) (responses : List Sent) (pends uses : List ℕ → Bool) (k : StreamTalk) : Type 0 where
  pub known : k.known ≡ is_some cluster
  pub begun_is : k.begun ≡ begun
  pub sotw : k.sotw ≡ sotw_kept t (unwrap_or cluster []) (lists requests)
  pub delta : k.delta ≡ delta_kept t (unwrap_or cluster []) (mentions requests)
  pub strange : is_some cluster ≡ false → requests ≡ []
  pub last : k.last ≡ last_nonce responses
  pub stands : StandsOpen responses k.unanswered k.refused
  pub waiting : (name : List ℕ) → is_marked k.waiting name ≡ pends name
  pub used : (nonce : List ℕ) → is_some (finmap.get k.used nonce) ≡ uses nonce

pub unheard_spoken : (t : TypeName) → IsSpoken t None false [] [] (λ _. false) (λ _. false) unheard
unheard_spoken t = record {
  known = refl;
  begun_is = refl;
  sotw = refl;
  delta = refl;
  strange = λ _. refl;
  last = refl;
  stands = (refl, refl);
  waiting = λ name. ap (λ (o : Option Bool). unwrap_or o false) (finmap.get-empty _ name);
  used = λ nonce. ap (λ (o : Option Bool). is_some o) (finmap.get-empty _ nonce);
}

-- ---- what the client wants

wanted_by_lists : (t : TypeName) (c : List ℕ) (requests : List Asking) (ls : List (List (List ℕ))) → lists requests ≡ ls → (sotw_kept t c ls).interest ≡ in_cluster c (interest_of t requests [])
wanted_by_lists t c requests [] is = sym (ap (λ (ls : List (List (List ℕ))). in_cluster c (sotw_interest t ls)) is)
wanted_by_lists t c requests (l ∷ ls) is = sym (ap (λ (xs : List (List (List ℕ))). in_cluster c (sotw_interest t xs)) is)

wanted_of : (t : TypeName) (c : List ℕ) (requests : List Asking) (ms : List Mention) → (if (delta_kept t c ms).begun then (delta_kept t c ms).interest else (sotw_kept t c (lists requests)).interest) ≡ in_cluster c (interest_of t requests ms)
wanted_of t c requests [] = wanted_by_lists t c requests (lists requests) refl
wanted_of t c requests (m ∷ ms) = refl

pub wanted_is : (t : TypeName) (cluster : Option (List ℕ)) (begun : Bool) (requests : List Asking) (responses : List Sent) (pends uses : List ℕ → Bool) (k : StreamTalk)
    → IsSpoken t cluster begun requests responses pends uses k → wanted k ≡ in_cluster (unwrap_or cluster []) (interest_of t requests (mentions requests))
wanted_is t cluster begun requests responses pends uses k s =
    (λ i. if (s.delta i).begun then (s.delta i).interest else (s.sotw i).interest) ∙ wanted_of t (unwrap_or cluster []) requests (mentions requests)

-- ---- steps

-- rule: groups
-- the client makes itself known
pub introduced_spoken : (t : TypeName) (cluster : Option (List ℕ)) (c : List ℕ) (begun : Bool) (requests : List Asking) (responses : List Sent) (pends uses : List ℕ → Bool) (k : StreamTalk)
    → IsSpoken t cluster begun requests responses pends uses k → IsSpoken t (option_or cluster (Some c)) begun requests responses pends uses (introduced c k)
introduced_spoken t (Some d) c begun requests responses pends uses k s =
    subst (λ (b : Bool). IsSpoken t (Some d) begun requests responses pends uses (if b then k else record k { known = true; sotw = unasked c; delta = unasked c })) (sym s.known) s
introduced_spoken t None c begun requests responses pends uses k s =
    let none = s.strange refl in
    subst (λ (b : Bool). IsSpoken t (Some c) begun requests responses pends uses (if b then k else record k { known = true; sotw = unasked c; delta = unasked c })) (sym s.known)
    record {
      known = refl;
      begun_is = s.begun_is;
      sotw = sym (ap (λ rs. sotw_kept t c (lists rs)) none);
      delta = sym (ap (λ rs. delta_kept t c (mentions rs)) none);
      strange = λ e. none;
      last = s.last;
      stands = s.stands;
      waiting = s.waiting;
      used = s.used;
    }

-- rule: listed-names, rule: delta-names
-- a request is taken
pub taken_spoken : (t : TypeName) (c : List ℕ) (begun : Bool) (requests : List Asking) (responses : List Sent) (pends uses : List ℕ → Bool) (k : StreamTalk) (old : Selection) (m : Asking)
    → IsSpoken t (Some c) begun requests responses pends uses k → (wanted k).names ≡ old.names
    → IsSpoken t (Some c) begun (requests ++ m ∷ []) responses (λ name. pending_taken t begun old m name (pends name)) uses (with_taken t m k)
taken_spoken t c begun requests responses pends uses k old (Sotw q) s names = record {
  known = s.known;
  begun_is = s.begun_is;
  sotw = ap (λ a. sotw_asked t a q.resource_names) s.sotw ∙ sotw_is_kept t c (lists requests) q.resource_names ∙ ap (sotw_kept t c) (sym (flat_map-append lists_in requests (Sotw q ∷ [])));
  delta = s.delta ∙ ap (delta_kept t c) (sym (flat_map-append mentions_in requests (Sotw q ∷ []) ∙ append-nil (mentions requests)));
  strange = λ e. absurd (true≢false e);
  last = s.last;
  stands = s.stands;
  waiting = λ name. listed_waits t (wanted k) k.waiting q.resource_names name
      ∙ (λ i. has_name (names_among t q.resource_names) name && (s.waiting name i || not (set.contains (names i) name)));
  used = s.used;
}
taken_spoken t c begun requests responses pends uses k old (Delta q) s names = record {
  known = s.known;
  begun_is = s.begun_is;
  sotw = s.sotw ∙ ap (sotw_kept t c) (sym (flat_map-append lists_in requests (Delta q ∷ []) ∙ append-nil (lists requests)));
  delta = ap (λ a. delta_asked t a (mention_in q)) s.delta ∙ delta_is_kept t c (mentions requests) (mention_in q) ∙ ap (delta_kept t c) (sym (flat_map-append mentions_in requests (Delta q ∷ [])));
  strange = λ e. absurd (true≢false e);
  last = s.last;
  stands = s.stands;
  waiting = λ name. mentioned_waits t k.begun q k.waiting name ∙ (λ i. pending_taken t (s.begun_is i) old (Delta q) name (s.waiting name i));
  used = s.used;
}

-- a request answers the response, or none
settled_case : (t : TypeName) (cluster : Option (List ℕ)) (begun : Bool) (requests : List Asking) (responses : List Sent) (pends uses : List ℕ → Bool) (k : StreamTalk) (m : Asking) (b : Bool)
    → is_answer k m ≡ b → IsSpoken t cluster begun requests responses pends uses k
    → IsSpoken t cluster begun requests (answered_list begun m responses) pends uses (if b then record k { unanswered = None; refused = if rejects m then k.unanswered else None } else k)
settled_case t cluster begun requests responses pends uses k m true is s =
    let done = settles begun m responses k.last k.unanswered k.refused s.last s.stands (sym (ap (λ b. answers_open b m k.last k.unanswered) s.begun_is) ∙ is) in
    record {
      known = s.known;
      begun_is = s.begun_is;
      sotw = s.sotw;
      delta = s.delta;
      strange = s.strange;
      last = done.0;
      stands = done.1;
      waiting = s.waiting;
      used = s.used;
    }
settled_case t cluster begun requests responses pends uses k m false is s =
    subst (λ (rs : List Sent). IsSpoken t cluster begun requests rs pends uses k)
    (sym (unsettled begun m responses k.last k.unanswered k.refused s.last s.stands (sym (ap (λ b. answers_open b m k.last k.unanswered) s.begun_is) ∙ is))) s

-- rule: accept-reject
pub answered_spoken : (t : TypeName) (cluster : Option (List ℕ)) (begun : Bool) (requests : List Asking) (responses : List Sent) (pends uses : List ℕ → Bool) (k : StreamTalk) (m : Asking)
    → IsSpoken t cluster begun requests responses pends uses k → IsSpoken t cluster begun requests (answered_list begun m responses) pends uses (answered m k)
answered_spoken t cluster begun requests responses pends uses k m s = settled_case t cluster begun requests responses pends uses k m (is_answer k m) refl s

begun_spoken : (t : TypeName) (cluster : Option (List ℕ)) (begun : Bool) (requests : List Asking) (responses : List Sent) (pends uses : List ℕ → Bool) (k : StreamTalk)
    → IsSpoken t cluster begun requests responses pends uses k → IsSpoken t cluster true requests responses pends uses (begun_now k)
begun_spoken t cluster begun requests responses pends uses k s =
    record { known = s.known; begun_is = refl; sotw = s.sotw; delta = s.delta; strange = s.strange; last = s.last; stands = s.stands; waiting = s.waiting; used = s.used }

-- rule: stale-nonce
ignored_same : (t : TypeName) (cluster : Option (List ℕ)) (begun : Bool) (requests : List Asking) (responses : List Sent) (pends uses : List ℕ → Bool) (k : StreamTalk) (m : Asking)
    → IsSpoken t cluster begun requests responses pends uses k → is_stale k m ≡ lines.is_stale begun responses m
ignored_same t cluster begun requests responses pends uses k m s =
    (λ i. stale.is_stale (s.begun_is i) (not (stands_waits responses k.unanswered k.refused s.stands i)) (s.last i) (nonce_of m))

requested_case : (t : TypeName) (c : List ℕ) (begun : Bool) (requests : List Asking) (responses : List Sent) (pends uses : List ℕ → Bool) (k : StreamTalk) (old : Selection) (m : Asking) (b : Bool)
    → IsSpoken t (Some c) begun requests responses pends uses k → (wanted k).names ≡ old.names
    → IsSpoken t (Some c) true (if b then requests else requests ++ m ∷ []) (answered_list begun m responses) (λ name. if b then pends name else pending_taken t begun old m name (pends name)) uses
    (begun_now (answered m (if b then k else with_taken t m k)))
requested_case t c begun requests responses pends uses k old m true s names =
    begun_spoken t (Some c) begun requests (answered_list begun m responses) pends uses (answered m k) (answered_spoken t (Some c) begun requests responses pends uses k m s)
requested_case t c begun requests responses pends uses k old m false s names =
    let after : List ℕ → Bool = λ name. pending_taken t begun old m name (pends name) in
    begun_spoken t (Some c) begun (requests ++ m ∷ []) (answered_list begun m responses) after uses (answered m (with_taken t m k))
    (answered_spoken t (Some c) begun (requests ++ m ∷ []) responses after uses (with_taken t m k) m (taken_spoken t c begun requests responses pends uses k old m s names))

-- rule: stale-nonce
-- a request of the type
pub requested_spoken : (t : TypeName) (c : List ℕ) (begun : Bool) (requests : List Asking) (responses : List Sent) (pends uses : List ℕ → Bool) (k : StreamTalk) (old : Selection) (m : Asking)
    → IsSpoken t (Some c) begun requests responses pends uses k → (wanted k).names ≡ old.names
    → IsSpoken t (Some c) true (if lines.is_stale begun responses m then requests else requests ++ m ∷ []) (answered_list begun m responses)
    (λ name. if lines.is_stale begun responses m then pends name else pending_taken t begun old m name (pends name)) uses (requested t m k)
requested_spoken t c begun requests responses pends uses k old m s names =
    subst (λ (b : Bool). IsSpoken t (Some c) true (if lines.is_stale begun responses m then requests else requests ++ m ∷ []) (answered_list begun m responses)
    (λ name. if lines.is_stale begun responses m then pends name else pending_taken t begun old m name (pends name)) uses (begun_now (answered m (if b then k else with_taken t m k))))
    (sym (ignored_same t (Some c) begun requests responses pends uses k m s)) (requested_case t c begun requests responses pends uses k old m (lines.is_stale begun responses m) s names)

used_case : (here : Bool) (o : Option Bool) → is_some (cond here (Some true) o) ≡ (here || is_some o)
used_case true o = refl
used_case false o = refl

-- rule: new-nonce
-- a nonce is used
pub nonce_spoken : (t : TypeName) (cluster : Option (List ℕ)) (begun : Bool) (requests : List Asking) (responses : List Sent) (pends uses : List ℕ → Bool) (k : StreamTalk) (nonce : List ℕ)
    → IsSpoken t cluster begun requests responses pends uses k → IsSpoken t cluster begun requests responses pends (λ q. bytes_eq nonce q || uses q) (with_nonce nonce k)
nonce_spoken t cluster begun requests responses pends uses k nonce s = record {
  known = s.known;
  begun_is = s.begun_is;
  sotw = s.sotw;
  delta = s.delta;
  strange = s.strange;
  last = s.last;
  stands = s.stands;
  waiting = s.waiting;
  used = λ q. ap is_some (get-insert k.used nonce true q) ∙ used_case (bytes_eq nonce q) (finmap.get k.used q) ∙ ap (λ b. bytes_eq nonce q || b) (s.used q);
}

-- a response of the type, where none before it is unanswered
pub responded_spoken : (t : TypeName) (cluster : Option (List ℕ)) (begun : Bool) (requests : List Asking) (responses : List Sent) (pends uses : List ℕ → Bool) (k : StreamTalk) (held : Entries) (offer : Offer) (a : Answer)
    → IsSpoken t cluster begun requests responses pends uses k → is_waiting responses ≡ false → offer ≡ offer_in held a
    → IsSpoken t cluster begun requests (record { nonce = a.nonce; offer = offer; fate = Unanswered } ∷ responses) (λ name. pends name && not (tells a name)) uses (responded held a k)
responded_spoken t cluster begun requests responses pends uses k held offer a s quiet made = record {
  known = s.known;
  begun_is = s.begun_is;
  sotw = s.sotw;
  delta = s.delta;
  strange = s.strange;
  last = refl;
  stands = (refl, made, quiet, stands_refused responses k.unanswered k.refused s.stands);
  waiting = λ name. told_waits k.waiting (stated_names a) a.removed name ∙ ap (λ b. b && not (tells a name)) (s.waiting name);
  used = s.used;
}
