-- What keeps a link's lanes on the replica's side: a request that it takes, and a response that it sends.
use Rattle.std.proofs.Common.{◌≡◌, ◌≢◌, ◌⊎◌, inl, inr, ℕ, suc, ◌+◌, ◌≤◌, List, [], ◌∷◌, ◌++◌, Bool, true, false, ◌&&◌, not, Option, Some, None, Result, Ok, Err, refl, sym, ap, subst, ◌∙◌, append-nil, arith}
use Rattle.std.specs.Prelude.{◌==◌, if◌then◌else◌, is_none, is_some, option_map, length}
use Rattle.std.specs.Option.{option_map_or, option_and_then}
use Rattle.std.specs.FinMap as finmap
use Rattle.std.proofs.lemmas.Bool.Decides.{eqb_tells}
use Rattle.std.proofs.Math.Numerals.{suc-eq-add-one}
use Rattle.xds_resource.specs.declared.types.TypeName.{TypeName}
use Rattle.xds_resource.specs.declared.refusal.Refusal.{Refusal}
use Rattle.xds_resource.specs.declared.refusal.Refusal.TheVariants.{BadMessage, WrongVariant, NonceSpent}
use Rattle.xds_resource.specs.Refusals.{unless_refused}
use Rattle.xds_resource.specs.Types.{row, type_of_url, is_same_type}
use Rattle.xds_resource.specs.Stamps.{max_counter}
use Rattle.xds_resource.specs.PerType.{PerType, at, with_at, each}
use Rattle.xds_resource.proofs.TypesApart.{same_type, is_same_type-same, at-with_at, at-with_at_other, at-each}
use Rattle.xds_resource.proofs.Refusing.{unless_once}
use Rattle.xds_catalogue.specs.Holdings.{Entries}
use Rattle.xds_message.specs.declared.draft.Draft.{Draft}
use Rattle.xds_message.specs.DraftTexts.{kind_of}
use Rattle.xds_ledger.specs.declared.outcome.Outcome.{Outcome}
use Rattle.xds_ledger.specs.declared.variant.VariantName.{VariantName}
use Rattle.xds_ledger.specs.declared.variant.VariantName.TheVariants.{StateOfTheWorld, Delta}
use Rattle.xds_ledger.specs.Offers.{Offer, offer}
use Rattle.xds_ledger.specs.Ledgers as ledgers
use Rattle.xds_ledger.specs.Ledgers.{nonce_text, is_due, is_refused}
use Rattle.xds_ledger.specs.Sessions as sessions
use Rattle.xds_ledger.specs.Sessions.{Session, unopened, send}
use Rattle.xds_core.specs.Stores.{Store, if_done}
use Rattle.xds_core.specs.Streams.{Stream, Message, variant_of, url_of, cluster_of, is_foreign, session_after, sessions_for, answered_by, answered, requested, to_send, response_of, responding, sent, polled, first_due, polled_first}
use Rattle.xds_core.proofs.StepLaws.{done_with}
use Rattle.xds_cache.specs.Shelves.{Holding, Shelf}
use Rattle.xds_cache.specs.Clients.{Client, shelf}
use Rattle.xds_world.specs.Worlds.{Link, under_way}
use Rattle.xds_world.specs.Knows.{TypedWrite}
use Rattle.xds_world.proofs.Replicas.{if_both, some_is, if_some, none_there, ok_is, never}
use Rattle.xds_world.proofs.Folding.{folded, quiet_folded, stands_after, taken_meanwhile_all}
use Rattle.xds_world.proofs.Lanes.{variant_in, delivery, stated_in, is_removed_in, IsAt, IsMade, Abreast, nothing_sent}
use Rattle.xds_world.proofs.ByOneName.{Says}
use Rattle.xds_world.proofs.LaneSteps.{abreast_sent}
use Rattle.xds_world.proofs.Delivering as delta
use Rattle.xds_world.proofs.Delivering.{AllKnown, stated_is_reached}
use Rattle.xds_world.proofs.SotwDelivering as sotw
use Rattle.xds_world.proofs.Queues.{lane_up, lane_down, lane_down-append, asks_as, AllOf, later, all_later, none_answers, nonces_differ, Lane, Speaks, Linked}
use Rattle.xds_message.proofs.StampedWriteLemmas.{type_of_url-url}

-- ---- a request is taken

pub taken_by : (foreign : Bool) (x : Stream) (v : VariantName) (r : Result (Outcome × PerType Session) Refusal) (z : Outcome × Stream)
    → (if foreign then Err WrongVariant else if_done (λ p. (p.0, record { variant = Some v; count = x.count; sessions = p.1 })) r) ≡ Ok z
    → (a : Outcome × PerType Session) × (r ≡ Ok a) × (z.1 ≡ record { variant = Some v; count = x.count; sessions = a.1 })
taken_by true x v r z is = absurd cc
taken_by false x v r z is = let made = done_with (λ p. (p.0, record { variant = Some v; count = x.count; sessions = p.1 })) r z is in (made.0, made.1, ap (λ y. y.1) made.2)

-- the sessions that a request of the client comes to are those of its stream
pub own_sessions : (v : VariantName) (cluster : List ℕ) (x : Stream) (m : Message) → Speaks v cluster x → (x.variant ≡ None → cluster_of m ≡ cluster) → sessions_for x m ≡ x.sessions
own_sessions v cluster x m (inl fresh) says =
    ap (λ o. if is_some o then x.sessions else each (unopened (cluster_of m))) fresh.0 ∙ ap (λ k. each (unopened k)) (says fresh.0) ∙ sym fresh.1
own_sessions v cluster x m (inr is) says = ap (λ o. if is_some o then x.sessions else each (unopened (cluster_of m))) is

-- while the variant isn't decided, nothing was asked for
pub undecided_session : (v : VariantName) (cluster : List ℕ) (x : Stream) (t : TypeName) → Speaks v cluster x → x.variant ≡ None → at x.sessions t ≡ unopened cluster
undecided_session v cluster x t (inl fresh) none = ap (λ p. at p t) fresh.1 ∙ at-each (unopened cluster) t
undecided_session v cluster x t (inr is) none = absurd (never v (sym none ∙ is))

-- the stream after a request of a type of the table
pub request_taken : (x : Stream) (t : TypeName) (m : Message) (z : Outcome × Stream) → url_of m ≡ (row t).url → sessions_for x m ≡ x.sessions → requested x m ≡ Ok z
    → z.1 ≡ record { variant = Some (variant_of m); count = x.count; sessions = with_at x.sessions t (session_after t (at x.sessions t) m) }
request_taken x t m z url own is =
    let ss : PerType Session = sessions_for x m in
    let made = taken_by (is_foreign x m) x (variant_of m) (answered ss m) z is in
    let answer : made.0 ≡ answered_by ss m (type_of_url (url_of m)) = unless_once (length (url_of m) == 0) BadMessage (answered_by ss m (type_of_url (url_of m))) made.0 made.1 in
    let typed : made.0 ≡ answered_by x.sessions m (Some t) = answer ∙ (λ i. answered_by (own i) m ((ap type_of_url url ∙ type_of_url-url t) i)) in
    made.2 ∙ ap (λ (a : Outcome × PerType Session). record { variant = Some (variant_of m); count = x.count; sessions = a.1 }) typed

-- ---- Up

lane_taken : (v : VariantName) (cluster : List ℕ) (all : List TypedWrite) (t : TypeName) (s : Session) (count : ℕ) (m : Message) (ups : List Message) (downs : List Draft) (f : Shelf) → Lane v cluster all t s count (m ∷ ups) downs f → Lane v cluster all t (session_after t s m) count ups downs f
lane_taken v cluster all t s count m ups downs f lane = record {
  down = lane.down;
  downs_are = lane.downs_are;
  stands = stands_after t s m lane.stands;
  taken = lane.taken.1;
  numbered = lane.numbered.1;
  answered = lane.answered;
  last = lane.last;
  abreast = lane.abreast;
}

up_lane : (v : VariantName) (cluster : List ℕ) (all : List TypedWrite) (x : Stream) (s t : TypeName) (m : Message) (rest : List Message) (downs : List Draft) (f : Shelf) → url_of m ≡ (row s).url → ((s ≡ t) × (is_same_type s t ≡ true)) ⊎ ((s ≢ t) × (is_same_type s t ≡ false))
    → Lane v cluster all t (at x.sessions t) x.count (lane_up t (m ∷ rest)) downs f → Lane v cluster all t (at (with_at x.sessions s (session_after s (at x.sessions s) m)) t) x.count (lane_up t rest) downs f
up_lane v cluster all x s t m rest downs f url (inl same) lane =
    let asked : Lane v cluster all t (at x.sessions t) x.count (m ∷ lane_up t rest) downs f =
    subst (λ b. Lane v cluster all t (at x.sessions t) x.count (if b then m ∷ lane_up t rest else lane_up t rest) downs f) (asks_as s t m url ∙ same.1) lane in
    subst (λ (k : Session). Lane v cluster all t k x.count (lane_up t rest) downs f)
    (sym (ap (λ r. at (with_at x.sessions r (session_after r (at x.sessions r) m)) t) same.0 ∙ at-with_at x.sessions t (session_after t (at x.sessions t) m)))
    (lane_taken v cluster all t (at x.sessions t) x.count m (lane_up t rest) downs f asked)
up_lane v cluster all x s t m rest downs f url (inr other) lane =
    let asked : Lane v cluster all t (at x.sessions t) x.count (lane_up t rest) downs f =
    subst (λ b. Lane v cluster all t (at x.sessions t) x.count (if b then m ∷ lane_up t rest else lane_up t rest) downs f) (asks_as s t m url ∙ other.1) lane in
    subst (λ (k : Session). Lane v cluster all t k x.count (lane_up t rest) downs f) (sym (at-with_at_other x.sessions s (session_after s (at x.sessions s) m) t (λ e. other.0 (sym e)))) asked

-- the replica took the oldest request
pub linked_up : (v : VariantName) (all : List TypedWrite) (c : Client) (l : Link) (x : Stream) (m : Message) (rest : List Message) (z : Outcome × Stream) → l.up ≡ m ∷ rest → (x.variant ≡ None → cluster_of m ≡ c.cluster) → requested x m ≡ Ok z → Linked v all c l x
    → Linked v all c (record l { up = rest }) z.1
linked_up v all c l x m rest z up says is linked =
    let requests : AllOf v (m ∷ rest) = subst (AllOf v) up linked.requests in
    let s : TypeName = requests.0.0 in
    let left : z.1 ≡ record { variant = Some (variant_of m); count = x.count; sessions = with_at x.sessions s (session_after s (at x.sessions s) m) } =
    request_taken x s m z requests.0.2 (own_sessions v c.cluster x m linked.variant says) is in
    subst (Linked v all c (record l { up = rest })) (sym left)
    (record {
      variant = inr (ap Some requests.0.1);
      counted = linked.counted;
      requests = requests.1;
      lanes = λ t.
          up_lane v c.cluster all x s t m rest (lane_down t l.down) (shelf c t) requests.0.2 (same_type s t)
          (subst (λ ms. Lane v c.cluster all t (at x.sessions t) x.count (lane_up t ms) (lane_down t l.down) (shelf c t)) up (linked.lanes t));
    })

-- ---- Poll

-- what a poll that sends something sent
pub record IsSent (replica : ℕ) (store : Store) (x y : Stream) (d : Draft) : Type 0 where
  pub kind : TypeName
  pub offer : Offer
  pub due : to_send store x kind ≡ Some offer
  pub room : (x.count == max_counter) ≡ false
  pub sends : Some d ≡ option_map (response_of replica store x.sessions kind offer (x.count + 1)) x.variant
  pub left : y ≡ sent x kind offer

sending_is : (replica : ℕ) (store : Store) (x : Stream) (t : TypeName) (o : Offer) (spent : Bool) (d : Draft) (y : Stream) → (x.count == max_counter) ≡ spent → to_send store x t ≡ Some o
    → unless_refused {A = Option Draft × Stream} ((spent, NonceSpent) ∷ []) (option_map (response_of replica store x.sessions t o (x.count + 1)) x.variant, sent x t o) ≡ Ok (Some d, y) → IsSent replica store x y d
sending_is replica store x t o true d y full due is = absurd cc
sending_is replica store x t o false d y full due is =
    let same = ok_is (option_map (response_of replica store x.sessions t o (x.count + 1)) x.variant, sent x t o) (Some d, y) is in
    record { kind = t; offer = o; due = due; room = full; sends = sym (ap (λ p. p.0) same); left = sym (ap (λ p. p.1) same) }

polled_is : (replica : ℕ) (store : Store) (x y : Stream) (t : TypeName) (d : Draft) (o : Option Offer) → to_send store x t ≡ o → option_map_or (responding replica store x t) o (Ok (None, x)) ≡ Ok (Some d, y) → IsSent replica store x y d
polled_is replica store x y t d None due is = absurd (never d (ap (λ p. p.0) (ok_is (None, x) (Some d, y) is)))
polled_is replica store x y t d (Some o) due is = sending_is replica store x t o (x.count == max_counter) d y refl due is

first_is : (replica : ℕ) (store : Store) (x y : Stream) (d : Draft) (o : Option TypeName) → option_map_or (polled replica store x) o (Ok (None, x)) ≡ Ok (Some d, y) → IsSent replica store x y d
first_is replica store x y d None is = absurd (never d (ap (λ p. p.0) (ok_is (None, x) (Some d, y) is)))
first_is replica store x y d (Some t) is = polled_is replica store x y t d (to_send store x t) refl is

pub poll_sent : (replica : ℕ) (store : Store) (x y : Stream) (ts : List TypeName) (d : Draft) → polled_first replica store x ts ≡ Ok (Some d, y) → IsSent replica store x y d
poll_sent replica store x y ts d is = first_is replica store x y d (first_due store x ts) is

-- where it sends nothing, nothing changes
quiet_sending : (replica : ℕ) (store : Store) (x y : Stream) (t : TypeName) (o : Offer) (spent : Bool) (v : Option VariantName) → x.variant ≡ v → to_send store x t ≡ Some o
    → unless_refused {A = Option Draft × Stream} ((spent, NonceSpent) ∷ []) (option_map (response_of replica store x.sessions t o (x.count + 1)) v, sent x t o) ≡ Ok (None, y) → y ≡ x
quiet_sending replica store x y t o true v has due is = absurd cc
quiet_sending replica store x y t o false None has due is =
    let never : None ≡ Some o = sym (ap (λ w. option_and_then (λ k. sessions.sending k t (at x.sessions t) (at store t).entries) w) has) ∙ due in absurd cc
quiet_sending replica store x y t o false (Some v) has due is = let never = ap (λ p. p.0) (ok_is (Some (response_of replica store x.sessions t o (x.count + 1) v), sent x t o) (None, y) is) in absurd cc

quiet_polled : (replica : ℕ) (store : Store) (x y : Stream) (t : TypeName) (o : Option Offer) → to_send store x t ≡ o → option_map_or (responding replica store x t) o (Ok (None, x)) ≡ Ok (None, y) → y ≡ x
quiet_polled replica store x y t None due is = sym (ap (λ p. p.1) (ok_is (None, x) (None, y) is))
quiet_polled replica store x y t (Some o) due is = quiet_sending replica store x y t o (x.count == max_counter) x.variant refl due is

quiet_first : (replica : ℕ) (store : Store) (x y : Stream) (o : Option TypeName) → option_map_or (polled replica store x) o (Ok (None, x)) ≡ Ok (None, y) → y ≡ x
quiet_first replica store x y None is = sym (ap (λ p. p.1) (ok_is (None, x) (None, y) is))
quiet_first replica store x y (Some t) is = quiet_polled replica store x y t (to_send store x t) refl is

pub poll_quiet : (replica : ℕ) (store : Store) (x y : Stream) (ts : List TypeName) → polled_first replica store x ts ≡ Ok (None, y) → y ≡ x
poll_quiet replica store x y ts is = quiet_first replica store x y (first_due store x ts) is

pub all_three : (a b c : Bool) → (a && b && c) ≡ true → a ≡ true
all_three true b c is = refl
all_three false true c is = is
all_three false false c is = is

-- what a session is that sends an offer
pub sending_facts : (v : VariantName) (t : TypeName) (s : Session) (m : Entries) (o : Offer) → sessions.sending v t s m ≡ Some o → (s.asked.begun ≡ true) × (s.account.sent ≡ None) × (o ≡ offer v t s.asked.interest m s.account.beliefs)
sending_facts v t s m o is =
    let now : Offer = offer v t s.asked.interest m s.account.beliefs in
    let begun = if_both s.asked.begun (ledgers.sending v t s.asked.interest m s.account) o is in
    let sends = if_some (is_none s.account.sent && is_due v t s.asked.interest m s.account && not (is_refused s.account now)) now o begun.1 in
    (begun.0, none_there s.account.sent (all_three (is_none s.account.sent) (is_due v t s.asked.interest m s.account) (not (is_refused s.account now)) sends.0), sends.1)

-- what is to be sent on a stream of a variant
pub due_as : (v : VariantName) (cluster : List ℕ) (store : Store) (x : Stream) (t : TypeName) (o : Offer) → Speaks v cluster x → to_send store x t ≡ Some o → (x.variant ≡ Some v) × (sessions.sending v t (at x.sessions t) (at store t).entries ≡ Some o)
due_as v cluster store x t o (inl fresh) due = let never_due : None ≡ Some o = sym (ap (option_and_then (λ k. sessions.sending k t (at x.sessions t) (at store t).entries)) fresh.0) ∙ due in absurd cc
due_as v cluster store x t o (inr is) due = (is, sym (ap (option_and_then (λ k. sessions.sending k t (at x.sessions t) (at store t).entries)) is) ∙ due)

-- what a response is, and says of each name
pub kind_is : (replica : ℕ) (store : Store) (ss : PerType Session) (t : TypeName) (o : Offer) (n : ℕ) (v : VariantName) → kind_of (response_of replica store ss t o n v) ≡ t
kind_is replica store ss t o n StateOfTheWorld = refl
kind_is replica store ss t o n Delta = refl

variant_is : (replica : ℕ) (store : Store) (ss : PerType Session) (t : TypeName) (o : Offer) (n : ℕ) (v : VariantName) → variant_in (response_of replica store ss t o n v) ≡ v
variant_is replica store ss t o n StateOfTheWorld = refl
variant_is replica store ss t o n Delta = refl

nonce_is : (replica : ℕ) (store : Store) (ss : PerType Session) (t : TypeName) (o : Offer) (n : ℕ) (v : VariantName) → (delivery t (response_of replica store ss t o (suc n) v)).nonce ≡ nonce_text (suc n)
nonce_is replica store ss t o n StateOfTheWorld = refl
nonce_is replica store ss t o n Delta = refl

response_says : (v : VariantName) (all : List TypedWrite) (replica : ℕ) (store : Store) (ss : PerType Session) (t : TypeName) (n : ℕ) (q : List ℕ) → AllKnown all t (at store t).entries
    → let o = offer v t (at ss t).asked.interest (at store t).entries (at ss t).account.beliefs in
    let d = response_of replica store ss t o n v in
    Says (IsAt v all t q) (finmap.get o q) (is_removed_in t d q) (finmap.get (stated_in t d) q)
response_says StateOfTheWorld all replica store ss t n q known = sotw.response_says all replica t (at store t) (at ss t).asked.interest (at ss t).account.beliefs n q known
response_says Delta all replica store ss t n q known = delta.response_says all replica t (at store t) (at ss t).asked.interest (at ss t).account.beliefs n q known

response_made : (v : VariantName) (all : List TypedWrite) (replica : ℕ) (store : Store) (ss : PerType Session) (t : TypeName) (o : Offer) (n : ℕ) (q : List ℕ) (h : Holding) → AllKnown all t (at store t).entries → finmap.get (stated_in t (response_of replica store ss t o n v)) q ≡ Some h → IsMade v all t q h
response_made StateOfTheWorld all replica store ss t o n q h known is = tt
response_made Delta all replica store ss t o n q h known is = delta.response_made all replica t (at store t) o n q h known is

-- the lane of the type of which a response was sent
lane_sent : (v : VariantName) (cluster : List ℕ) (all : List TypedWrite) (replica : ℕ) (store : Store) (t : TypeName) (ss : PerType Session) (count : ℕ) (ups : List Message) (downs : List Draft) (f : Shelf) (o : Offer) → AllKnown all t (at store t).entries → suc count ≤ max_counter
    → sessions.sending v t (at ss t) (at store t).entries ≡ Some o → Lane v cluster all t (at ss t) count ups downs f
    → Lane v cluster all t (send (at ss t) o (suc count)) (suc count) ups (downs ++ response_of replica store ss t o (suc count) v ∷ []) f
lane_sent v cluster all replica store t ss count ups downs f o known room due lane =
    let s : Session = at ss t in
    let d : Draft = response_of replica store ss t o (suc count) v in
    let facts = sending_facts v t s (at store t).entries o due in
    let none : lane.down ≡ None = (nothing_sent v all t (folded t s ups).account.nonce (folded t s ups).account.sent f.wants f.nonce lane.down (quiet_folded t s ups facts.1) lane.abreast.awaits).0 in
    let apart = none_answers count ups room lane.numbered in
    let nonce = nonce_is replica store ss t o count v in
    record {
      down = Some d;
      downs_are = ap (λ ds. ds ++ d ∷ []) (lane.downs_are ∙ ap under_way none);
      stands = lane.stands;
      taken = taken_meanwhile_all t s o [] (suc count) ups facts.1 lane.taken apart;
      numbered = all_later count ups lane.numbered;
      answered = λ e is. (suc count, omega arith, ap (λ x. (delivery t x).nonce) (sym (some_is d e is)) ∙ nonce);
      last = later count f.nonce lane.last;
      abreast = abreast_sent v cluster all t s ups f o d count facts.1 facts.0 lane.stands lane.taken apart room (nonces_differ count f.nonce room lane.last) (variant_is replica store ss t o (suc count) v) nonce
          (λ name. subst (λ x. let e = response_of replica store ss t x (suc count) v in Says (IsAt v all t name) (finmap.get x name) (is_removed_in t e name) (finmap.get (stated_in t e) name)) (sym facts.2)
          (response_says v all replica store ss t (suc count) name known)) (λ name h is. response_made v all replica store ss t o (suc count) name h known is)
          (λ name u is. stated_is_reached v t s.asked.interest (at store t).entries s.account.beliefs name u (ap (λ x. finmap.get x name) (sym facts.2) ∙ is)) (subst (λ x. Abreast v cluster all t (folded t s ups) x f) none lane.abreast);
    }

-- and of any other
lane_later : (v : VariantName) (cluster : List ℕ) (all : List TypedWrite) (t : TypeName) (s : Session) (count : ℕ) (ups : List Message) (downs : List Draft) (f : Shelf) → Lane v cluster all t s count ups downs f → Lane v cluster all t s (suc count) ups downs f
lane_later v cluster all t s count ups downs f lane = record {
  down = lane.down;
  downs_are = lane.downs_are;
  stands = lane.stands;
  taken = lane.taken;
  numbered = all_later count ups lane.numbered;
  answered = λ d is. later count (delivery t d).nonce (lane.answered d is);
  last = later count f.nonce lane.last;
  abreast = lane.abreast;
}

poll_lane : (v : VariantName) (cluster : List ℕ) (all : List TypedWrite) (replica : ℕ) (store : Store) (x : Stream) (s t : TypeName) (o : Offer) (l : Link) (f : Shelf) → AllKnown all s (at store s).entries → suc x.count ≤ max_counter
    → sessions.sending v s (at x.sessions s) (at store s).entries ≡ Some o → ((s ≡ t) × (is_same_type s t ≡ true)) ⊎ ((s ≢ t) × (is_same_type s t ≡ false))
    → Lane v cluster all t (at x.sessions t) x.count (lane_up t l.up) (lane_down t l.down) f
    → Lane v cluster all t (at (with_at x.sessions s (send (at x.sessions s) o (suc x.count))) t) (suc x.count) (lane_up t l.up) (lane_down t (l.down ++ response_of replica store x.sessions s o (suc x.count) v ∷ [])) f
poll_lane v cluster all replica store x s t o l f known room due (inl same) lane =
    let d : Draft = response_of replica store x.sessions s o (suc x.count) v in
    subst (λ r. Lane v cluster all r (at (with_at x.sessions s (send (at x.sessions s) o (suc x.count))) r) (suc x.count) (lane_up r l.up) (lane_down r (l.down ++ d ∷ [])) f) same.0
    (subst (λ k. Lane v cluster all s k (suc x.count) (lane_up s l.up) (lane_down s (l.down ++ d ∷ [])) f) (sym (at-with_at x.sessions s (send (at x.sessions s) o (suc x.count))))
    (subst (λ ds. Lane v cluster all s (send (at x.sessions s) o (suc x.count)) (suc x.count) (lane_up s l.up) ds f)
    (sym (lane_down-append s l.down (d ∷ []) ∙ ap (λ b. lane_down s l.down ++ (if b then d ∷ [] else [])) (ap (λ r. is_same_type r s) (kind_is replica store x.sessions s o (suc x.count) v) ∙ is_same_type-same s)))
    (lane_sent v cluster all replica store s x.sessions x.count (lane_up s l.up) (lane_down s l.down) f o known room due (subst (λ r. Lane v cluster all r (at x.sessions r) x.count (lane_up r l.up) (lane_down r l.down) f) (sym same.0) lane))))
poll_lane v cluster all replica store x s t o l f known room due (inr other) lane =
    let d : Draft = response_of replica store x.sessions s o (suc x.count) v in
    subst (λ k. Lane v cluster all t k (suc x.count) (lane_up t l.up) (lane_down t (l.down ++ d ∷ [])) f) (sym (at-with_at_other x.sessions s (send (at x.sessions s) o (suc x.count)) t (λ e. other.0 (sym e))))
    (subst (λ ds. Lane v cluster all t (at x.sessions t) (suc x.count) (lane_up t l.up) ds f)
    (sym (lane_down-append t l.down (d ∷ []) ∙ ap (λ b. lane_down t l.down ++ (if b then d ∷ [] else [])) (ap (λ r. is_same_type r t) (kind_is replica store x.sessions s o (suc x.count) v) ∙ other.1) ∙ append-nil (lane_down t l.down)))
    (lane_later v cluster all t (at x.sessions t) x.count (lane_up t l.up) (lane_down t l.down) f lane))

pub room_is : (count : ℕ) → (count == max_counter) ≡ false → count ≤ max_counter → suc count ≤ max_counter
room_is count not_full within = elim (eqb_tells count max_counter) [ inl same ↦ (let never : true ≡ false = sym same.0 ∙ not_full in absurd cc) | inr other ↦ omega (arith, within, other.1) ]

-- what was sent, and what it left
pub draft_is : (v : VariantName) (replica : ℕ) (store : Store) (x y : Stream) (d : Draft) → (is : IsSent replica store x y d) → x.variant ≡ Some v → d ≡ response_of replica store x.sessions is.kind is.offer (suc x.count) v
draft_is v replica store x y d is decided =
    some_is d (response_of replica store x.sessions is.kind is.offer (suc x.count) v)
    (is.sends ∙ ap (option_map (response_of replica store x.sessions is.kind is.offer (x.count + 1))) decided ∙ ap (λ n. Some (response_of replica store x.sessions is.kind is.offer n v)) (sym (suc-eq-add-one x.count)))

-- the replica sent a response
pub linked_polled : (v : VariantName) (all : List TypedWrite) (replica : ℕ) (store : Store) (c : Client) (l : Link) (x y : Stream) (d : Draft) → ((t : TypeName) → AllKnown all t (at store t).entries) → IsSent replica store x y d → Linked v all c l x
    → Linked v all c (record l { down = l.down ++ d ∷ [] }) y
linked_polled v all replica store c l x y d known is linked =
    let due = due_as v c.cluster store x is.kind is.offer linked.variant is.due in
    let room = room_is x.count is.room linked.counted in
    let left : y ≡ record { variant = x.variant; count = suc x.count; sessions = with_at x.sessions is.kind (send (at x.sessions is.kind) is.offer (suc x.count)) } =
    is.left ∙ (λ i. record { variant = x.variant; count = sym (suc-eq-add-one x.count) i; sessions = with_at x.sessions is.kind (send (at x.sessions is.kind) is.offer (sym (suc-eq-add-one x.count) i)) }) in
    subst (λ e. Linked v all c (record l { down = l.down ++ e ∷ [] }) y) (sym (draft_is v replica store x y d is due.0))
    (subst (Linked v all c (record l { down = l.down ++ response_of replica store x.sessions is.kind is.offer (suc x.count) v ∷ [] })) (sym left)
    (record {
      variant = inr due.0;
      counted = room;
      requests = linked.requests;
      lanes = λ t. poll_lane v c.cluster all replica store x is.kind t is.offer l (shelf c t) (known is.kind) room due.1 (same_type is.kind t) (linked.lanes t);
    }))
