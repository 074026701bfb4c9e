-- What each step that settles a client of a type does to the session of the type, and to what is under way of it.
use Rattle.std.proofs.Common.{◌≡◌, ◌≢◌, ◌⊎◌, inl, inr, ℕ, ◌+◌, List, [], ◌∷◌, ◌++◌, Bool, true, false, ◌||◌, Option, Some, None, Result, Ok, refl, sym, ap, subst, ◌∙◌, append-nil}
use Rattle.std.specs.Prelude.{◌==◌, if◌then◌else◌, is_some, option_map}
use Rattle.std.specs.Option.{option_and_then, option_map_or}
use Rattle.std.specs.List.{list_any}
use Rattle.std.specs.FinMap as finmap
use Rattle.std.proofs.lemmas.List.Folds.{list_any-append}
use Rattle.std.proofs.Math.Bool.{or-true}
use Rattle.xds_resource.specs.declared.types.TypeName.{TypeName}
use Rattle.xds_resource.specs.declared.refusal.Refusal.{Refusal}
use Rattle.xds_resource.specs.declared.refusal.Refusal.TheVariants.{NonceSpent}
use Rattle.xds_resource.specs.Types.{row, is_same_type}
use Rattle.xds_resource.specs.Stamps.{max_counter}
use Rattle.xds_resource.specs.PerType.{PerType, at, with_at}
use Rattle.xds_resource.proofs.TypesApart.{same_type, is_same_type-same, at-with_at, at-with_at_other, at-each}
use Rattle.xds_resource.proofs.Refusing.{unless_once}
use Rattle.xds_message.specs.declared.draft.Draft.{Draft}
use Rattle.xds_message.specs.DraftTexts.{kind_of}
use Rattle.xds_ledger.specs.declared.outcome.Outcome.{Outcome}
use Rattle.xds_ledger.specs.declared.variant.VariantName.{VariantName}
use Rattle.xds_ledger.specs.Offers.{Offer}
use Rattle.xds_ledger.specs.Sessions as sessions
use Rattle.xds_ledger.specs.Sessions.{Session, unopened, send}
use Rattle.xds_core.specs.Stores.{Store}
use Rattle.xds_core.specs.Streams.{Stream, Message, url_of, variant_of, cluster_of, session_after, requested, to_send, response_of, responding, sent, polled_first, looked_at}
use Rattle.xds_core.specs.Events.{Event, Reply}
use Rattle.xds_core.specs.Steps.{Core, step, stream_step}
use Rattle.xds_cache.specs.Faults.{Test}
use Rattle.xds_cache.specs.Clients.{Client, shelf}
use Rattle.xds_cache.specs.Deliveries.{fault_in}
use Rattle.xds_script.specs.declared.event.ClientKind.{ClientKind}
use Rattle.xds_world.specs.Worlds.{Site, Link, Peer, World, recorded, at_site, with_peer, under_way, received_in, on_link}
use Rattle.xds_world.specs.Knows.{TypedWrite}
use Rattle.xds_world.specs.Claims.{asks_for}
use Rattle.xds_world.specs.Settling.{link_in}
use Rattle.xds_world.proofs.Replicas.{some_is, bound_some, ok_is}
use Rattle.xds_world.proofs.Queues.{lane_up, lane_down, asks_as, AllOf, Speaks, Linked, started}
use Rattle.xds_world.proofs.LinkSteps.{request_taken, own_sessions, due_as, kind_is}
use Rattle.xds_world.proofs.LinkTakes.{one_down, brought, received_is, spoken}
use Rattle.xds_world.proofs.Folding.{folded}
use Rattle.xds_world.proofs.Lanes.{delivery, reply, reply_url, Abreast, HasAnswer, reply_answers}
use Rattle.xds_world.proofs.ByKind.{LinkedTo}
use Rattle.xds_world.proofs.Starting.{started_decided, requested_started, requested_decides, oldest_greets}
use Rattle.xds_world.proofs.CoreSteps.{stream_step_is}
use Rattle.xds_world.proofs.Everyone.{at_site_is, Fine}
use Rattle.xds_world.proofs.EveryEvent.{get_put}

-- ---- where a client is

-- a client that is up, its replica and its stream there
pub record Spot (w : World) (c : ℕ) : Type 0 where
  pub peer : Peer
  pub link : Link
  pub site : Site
  pub stream : Stream
  pub has : finmap.get w.peers c ≡ Some peer
  pub linked : peer.link ≡ Some link
  pub there : finmap.get w.sites link.replica ≡ Some site
  pub opened : finmap.get site.core.streams link.stream ≡ Some stream

pub spot_of : (w : World) (all : List TypedWrite) (c : ℕ) (l : Link) → Fine w all → link_in w c ≡ Some l → Spot w c
spot_of w all c l fine is =
    let peer = bound_some (λ p. p.link) (finmap.get w.peers c) l is in
    let here = fine.ups c peer.0 l peer.1 peer.2 in
    let site = bound_some (λ (s : Site). finmap.get s.core.streams l.stream) (finmap.get w.sites l.replica) here.0 here.1 in
    record { peer = peer.0; link = l; site = site.0; stream = here.0; has = peer.1; linked = peer.2; there = site.1; opened = site.2 }

pub link_at : (w : World) (c : ℕ) (s : Spot w c) → link_in w c ≡ Some s.link
link_at w c s = ap (option_and_then (λ (p : Peer). p.link)) s.has ∙ s.linked

pub linked_at : (w : World) (all : List TypedWrite) (c : ℕ) (s : Spot w c) → Fine w all → LinkedTo s.peer.kind all s.peer.client s.link s.stream
linked_at w all c s fine =
    let here = fine.ups c s.peer s.link s.has s.linked in
    let same : here.0 ≡ s.stream = some_is here.0 s.stream (sym here.1 ∙ ap (option_and_then (λ (y : Site). finmap.get y.core.streams s.link.stream)) s.there ∙ s.opened) in
    subst (LinkedTo s.peer.kind all s.peer.client s.link) same here.2

-- its stream as it is for it
abbrev pub own_stream : (w : World) (c : ℕ) → Spot w c → Stream
own_stream w c s = started s.peer.client.cluster s.stream

pub at_spot : (w : World) (c : ℕ) (f : Peer → Link → Option World) (y : World) (s : Spot w c) → on_link w c f ≡ Some y → f s.peer s.link ≡ Some y
at_spot w c f y s is = sym (ap (option_and_then (λ p. option_and_then (f p) p.link)) s.has ∙ ap (option_and_then (f s.peer)) s.linked) ∙ is

-- the spot once the client, its stream and its replica changed
abbrev pub moved : (w : World) (c r : ℕ) (site : Site) (stream : Stream) (after : Peer) (l : Link) → after.link ≡ Some l → r ≡ l.replica → finmap.get site.core.streams l.stream ≡ Some stream
    → Spot (with_peer (record w { sites = finmap.insert w.sites r site }) c after) c
moved w c r site stream after l linked replica opened = record {
  peer = after;
  link = l;
  site = site;
  stream = stream;
  has = get_put w.peers c after;
  linked = linked;
  there = ap (finmap.get (finmap.insert w.sites r site)) (sym replica) ∙ get_put w.sites r site;
  opened = opened;
}

-- ---- an event of the client's stream

pub record AtStream {X : Type 0} (w : World) (c : ℕ) (s : Spot w c) (reply : X → Reply) (f : Stream → Result (X × Stream) Refusal) (p : Reply × World) : Type 0 where
  pub answer : X
  pub stream : Stream
  pub site : Site
  pub made : f s.stream ≡ Ok (answer, stream)
  pub told : p.0 ≡ reply answer
  pub left : p.1 ≡ record w { sites = finmap.insert w.sites s.link.replica site }
  pub opened : finmap.get site.core.streams s.link.stream ≡ Some stream
  pub store : site.core.store ≡ s.site.core.store

pub at_stream : {X : Type 0} (w : World) (c : ℕ) (s : Spot w c) (e : Event) (reply : X → Reply) (f : Core → Stream → Result (X × Stream) Refusal) (p : Reply × World) → ((k : Core) → step k e ≡ stream_step k s.link.stream reply (f k))
    → at_site w s.link.replica e ≡ Some p → AtStream w c s reply (f s.site.core) p
at_stream w c s e reply f p is_step is =
    let x = at_site_is w s.link.replica e p is in
    let site : x.site ≡ s.site = some_is x.site s.site (sym x.has ∙ s.there) in
    let stepped : step s.site.core e ≡ Ok (p.0, x.core) = ap (λ (y : Site). step y.core e) (sym site) ∙ x.stepped in
    let made = stream_step_is s.site.core s.link.stream reply (f s.site.core) (p.0, x.core) (sym (is_step s.site.core) ∙ stepped) in
    let same : made.0 ≡ s.stream = some_is made.0 s.stream (sym made.2 ∙ s.opened) in
    record {
      answer = made.1.0;
      stream = made.1.1;
      site = record { core = x.core; journal = (recorded x.site e (p.0, x.core)).journal };
      made = ap (f s.site.core) (sym same) ∙ made.3;
      told = ap (λ y. y.0) made.4;
      left = x.left;
      opened = ap (λ y. finmap.get y.1.streams s.link.stream) made.4 ∙ get_put s.site.core.streams s.link.stream made.1.1;
      store = ap (λ y. y.1.store) made.4;
    }

-- ---- the session of a type, ahead of what is under way to it

-- once these requests are taken
abbrev pub ahead : TypeName → Session → List Message → Session
ahead t s [] = s
ahead t s (m ∷ ms) = ahead t (if asks_for t m then session_after t s m else s) ms

pub ahead_more : (t : TypeName) (s : Session) (ms : List Message) (m : Message) → ahead t s (ms ++ m ∷ []) ≡ (if asks_for t m then session_after t (ahead t s ms) m else ahead t s ms)
ahead_more t s [] m = refl
ahead_more t s (x ∷ ms) m = ahead_more t (if asks_for t x then session_after t s x else s) ms m

-- a request that the replica takes leaves it
taken_ahead : (t : TypeName) (s : TypeName) (ss : PerType Session) (m : Message) (rest : List Message) → url_of m ≡ (row s).url → ((s ≡ t) × (is_same_type s t ≡ true)) ⊎ ((s ≢ t) × (is_same_type s t ≡ false))
    → ahead t (at (with_at ss s (session_after s (at ss s) m)) t) rest ≡ ahead t (at ss t) (m ∷ rest)
taken_ahead t s ss m rest url (inl same) =
    ap (λ x. ahead t x rest)
    (ap (λ r. at (with_at ss r (session_after r (at ss r) m)) t) same.0 ∙ at-with_at ss t (session_after t (at ss t) m) ∙ ap (λ b. if b then session_after t (at ss t) m else at ss t) (sym (asks_as s t m url ∙ same.1)))
taken_ahead t s ss m rest url (inr other) =
    ap (λ x. ahead t x rest) (at-with_at_other ss s (session_after s (at ss s) m) t (λ e. other.0 (sym e)) ∙ ap (λ b. if b then session_after t (at ss t) m else at ss t) (sym (asks_as s t m url ∙ other.1)))

pub up_ahead : (v : VariantName) (all : List TypedWrite) (c : Client) (l : Link) (x : Stream) (t : TypeName) (m : Message) (rest : List Message) (z : Outcome × Stream) → l.up ≡ m ∷ rest → (x.variant ≡ None → cluster_of m ≡ c.cluster) → requested x m ≡ Ok z
    → Linked v all c l x → ahead t (at z.1.sessions t) rest ≡ ahead t (at x.sessions t) l.up
up_ahead v all c l x t m rest z up says is linked =
    let named = (subst (AllOf v) up linked.requests).0 in
    ap (λ (y : Stream). ahead t (at y.sessions t) rest) (request_taken x named.0 m z named.2 (own_sessions v c.cluster x m linked.variant says) is) ∙ taken_ahead t named.0 x.sessions m rest named.2 (same_type named.0 t) ∙ ap (ahead t (at x.sessions t)) (sym up)

-- on the replica's own stream
pub up_home : (k : ClientKind) (all : List TypedWrite) (c : Client) (l : Link) (x : Stream) (cluster : List ℕ) (t : TypeName) (m : Message) (rest : List Message) (z : Outcome × Stream) → l.up ≡ m ∷ rest → requested x m ≡ Ok z → LinkedTo k all c l x
    → ahead t (at (started cluster z.1).sessions t) rest ≡ ahead t (at (started c.cluster x).sessions t) l.up
up_home k all c l x cluster t m rest z up is linked =
    ap (λ (y : Stream). ahead t (at y.sessions t) rest) (started_decided cluster z.1 (variant_of m) (requested_decides x m z is))
    ∙ up_ahead (spoken k) all c l (started c.cluster x) t m rest z up (oldest_greets c x l.up m rest up linked.0) (requested_started c.cluster x m ∙ is) linked.1.1

-- ---- a poll

pub poll_one : (replica : ℕ) (store : Store) (x : Stream) (t : TypeName) (o : Option Offer) → to_send store x t ≡ o → polled_first replica store x (looked_at (Some t)) ≡ option_map_or (responding replica store x t) o (Ok (None, x))
poll_one replica store x t None due = ap (λ o. option_map_or (λ u. option_map_or (responding replica store x u) (to_send store x u) (Ok (None, x))) (if is_some o then Some t else None) (Ok (None, x))) due
poll_one replica store x t (Some o) due =
    ap (λ o. option_map_or (λ u. option_map_or (responding replica store x u) (to_send store x u) (Ok (None, x))) (if is_some o then Some t else None) (Ok (None, x))) due
    ∙ ap (λ o. option_map_or (responding replica store x t) o (Ok (None, x))) due

-- what a poll of one type gave
pub record Sent (v : VariantName) (t : TypeName) (store : Store) (x y : Stream) (o : Option Draft) : Type 0 where
  pub offer : Offer
  pub number : ℕ
  pub due : sessions.sending v t (at x.sessions t) (at store t).entries ≡ Some offer
  pub left : at y.sessions t ≡ send (at x.sessions t) offer number
  pub draft : Draft
  pub gave : o ≡ Some draft
  pub kind : kind_of draft ≡ t

not_due : (v : VariantName) (cluster : List ℕ) (store : Store) (x : Stream) (t : TypeName) → Speaks v cluster x → to_send store x t ≡ None → sessions.sending v t (at x.sessions t) (at store t).entries ≡ None
not_due v cluster store x t (inl fresh) none = ap (λ s. sessions.sending v t s (at store t).entries) (ap (λ p. at p t) fresh.1 ∙ at-each (unopened cluster) t)
not_due v cluster store x t (inr is) none = sym (ap (option_and_then (λ k. sessions.sending k t (at x.sessions t) (at store t).entries)) is) ∙ none

poll_by : (v : VariantName) (cluster : List ℕ) (replica : ℕ) (store : Store) (x : Stream) (t : TypeName) (q : Option Draft × Stream) (o : Option Offer) → Speaks v cluster x → to_send store x t ≡ o → option_map_or (responding replica store x t) o (Ok (None, x)) ≡ Ok q
    → Sent v t store x q.1 q.0 ⊎ ((q.0 ≡ None) × (q.1 ≡ x) × (sessions.sending v t (at x.sessions t) (at store t).entries ≡ None))
poll_by v cluster replica store x t q None speaking due is = let same = sym (ok_is (None, x) q is) in inr (ap (λ p. p.0) same, ap (λ p. p.1) same, not_due v cluster store x t speaking due)
poll_by v cluster replica store x t q (Some o) speaking due is =
    let facts = due_as v cluster store x t o speaking due in
    let same : q ≡ (option_map (response_of replica store x.sessions t o (x.count + 1)) x.variant, sent x t o) =
    unless_once (x.count == max_counter) NonceSpent (option_map (response_of replica store x.sessions t o (x.count + 1)) x.variant, sent x t o) q is in
    inl
    (record {
      offer = o;
      number = x.count + 1;
      due = facts.1;
      left = ap (λ p. at p.1.sessions t) same ∙ at-with_at x.sessions t (send (at x.sessions t) o (x.count + 1));
      draft = response_of replica store x.sessions t o (x.count + 1) v;
      gave = ap (λ p. p.0) same ∙ ap (option_map (response_of replica store x.sessions t o (x.count + 1))) facts.0;
      kind = kind_is replica store x.sessions t o (x.count + 1) v;
    })

pub poll_is : (v : VariantName) (cluster : List ℕ) (replica : ℕ) (store : Store) (x : Stream) (t : TypeName) (q : Option Draft × Stream) → Speaks v cluster x → polled_first replica store x (looked_at (Some t)) ≡ Ok q
    → Sent v t store x q.1 q.0 ⊎ ((q.0 ≡ None) × (q.1 ≡ x) × (sessions.sending v t (at x.sessions t) (at store t).entries ≡ None))
poll_is v cluster replica store x t q speaking is = poll_by v cluster replica store x t q (to_send store x t) speaking refl (sym (poll_one replica store x t (to_send store x t) refl) ∙ is)

-- ---- responses under way

abbrev pub among : TypeName → List Draft → Bool
among t ds = list_any (λ d. is_same_type (kind_of d) t) ds

pub none_more : (t : TypeName) (ds : List Draft) (o : Option Draft) → o ≡ None → among t (ds ++ under_way o) ≡ among t ds
none_more t ds o none = ap (λ x. among t (ds ++ under_way x)) none ∙ ap (among t) (append-nil ds)

pub one_more : (t : TypeName) (ds : List Draft) (o : Option Draft) (d : Draft) → o ≡ Some d → kind_of d ≡ t → among t (ds ++ under_way o) ≡ true
one_more t ds o d gave kind =
    ap (λ x. among t (ds ++ under_way x)) gave ∙ list_any-append (λ e. is_same_type (kind_of e) t) ds (d ∷ [])
    ∙ ap (λ b. among t ds || (b || false)) (ap (λ s. is_same_type s t) kind ∙ is_same_type-same t) ∙ or-true (among t ds)

none_first : (t : TypeName) (d : Draft) (ds : List Draft) (b : Bool) → is_same_type (kind_of d) t ≡ b → (if b then d ∷ lane_down t ds else lane_down t ds) ≡ [] → (lane_down t ds ≡ [] → among t ds ≡ false) → among t (d ∷ ds) ≡ false
none_first t d ds true is rest later = absurd cc
none_first t d ds false is rest later = ap (λ b. b || among t ds) is ∙ later rest

no_lane : (t : TypeName) (ds : List Draft) → lane_down t ds ≡ [] → among t ds ≡ false
no_lane t [] none = refl
no_lane t (d ∷ ds) none = none_first t d ds (is_same_type (kind_of d) t) refl none (no_lane t ds)

-- at most one of a type is
pub none_behind : (v : VariantName) (all : List TypedWrite) (c : Client) (l : Link) (x : Stream) (t : TypeName) (d : Draft) (rest : List Draft) → l.down ≡ d ∷ rest → is_same_type (kind_of d) t ≡ true → Linked v all c l x → among t rest ≡ false
none_behind v all c l x t d rest down own linked =
    let lane = linked.lanes t in
    no_lane t rest (one_down d (lane_down t rest) lane.down (ap (λ b. if b then d ∷ lane_down t rest else lane_down t rest) (sym own) ∙ ap (lane_down t) (sym down) ∙ lane.downs_are)).1

-- ---- a response that the client takes

-- its answer is of the same type
pub answer_asks : (k : ClientKind) (test : Test) (c : Client) (d : Draft) (q : Client × Message) (t : TypeName) → received_in test k c d ≡ Some q → asks_for t q.1 ≡ is_same_type (kind_of d) t
answer_asks k test c d q t is = let s : TypeName = kind_of d in ap (λ p. asks_for t p.1) (received_is k test c d q is) ∙ asks_as s t (reply s test (shelf c s) d) (reply_url s test (shelf c s) d)

pub first_down : (t : TypeName) (d : Draft) (rest ds : List Draft) → ds ≡ d ∷ rest → is_same_type (kind_of d) t ≡ true → lane_down t ds ≡ d ∷ lane_down t rest
first_down t d rest ds is own = ap (lane_down t) is ∙ ap (λ b. if b then d ∷ lane_down t rest else lane_down t rest) own

kind_same : (s t : TypeName) → is_same_type s t ≡ true → ((s ≡ t) × (is_same_type s t ≡ true)) ⊎ ((s ≢ t) × (is_same_type s t ≡ false)) → s ≡ t
kind_same s t own (inl same) = same.0
kind_same s t own (inr other) = let never : true ≡ false = sym own ∙ other.1 in absurd cc

folded_by : (t : TypeName) (s : Session) (m : Message) (ms : List Message) (asks : Bool) → ((k : Session) → folded t k (lane_up t ms) ≡ ahead t k ms)
    → folded t s (if asks then m ∷ lane_up t ms else lane_up t ms) ≡ ahead t (if asks then session_after t s m else s) ms
folded_by t s m ms true later = later (session_after t s m)
folded_by t s m ms false later = later s

-- the session ahead of requests is as those of its type leave it
pub folded_ahead : (t : TypeName) (s : Session) (ms : List Message) → folded t s (lane_up t ms) ≡ ahead t s ms
folded_ahead t s [] = refl
folded_ahead t s (m ∷ ms) = folded_by t s m ms (asks_for t m) (λ k. folded_ahead t k ms)

-- and answers what was sent
pub down_answers : (k : ClientKind) (all : List TypedWrite) (test : Test) (c : Client) (l : Link) (x : Stream) (d : Draft) (rest : List Draft) (q : Client × Message) (t : TypeName) → l.down ≡ d ∷ rest → received_in test k c d ≡ Some q → is_same_type (kind_of d) t ≡ true → Linked (spoken k) all c l x
    → let a = ahead t (at x.sessions t) l.up in (h : HasAnswer (spoken k) t a (session_after t a q.1)) × (h.rejects ≡ is_some (fault_in t test (delivery t d)))
down_answers k all test c l x d rest q t down is own linked =
    let v : VariantName = spoken k in
    subst (λ r. let a = ahead r (at x.sessions r) l.up in (h : HasAnswer v r a (session_after r a q.1)) × (h.rejects ≡ is_some (fault_in r test (delivery r d)))) (kind_same (kind_of d) t own (same_type (kind_of d) t))
    (let s : TypeName = kind_of d in
    let a : Session = ahead s (at x.sessions s) l.up in
    let abreast : Abreast v c.cluster all s a (Some d) (shelf c s) = subst (λ (y : Session). Abreast v c.cluster all s y (Some d) (shelf c s)) (folded_ahead s (at x.sessions s) l.up) (brought v all c l x d rest down linked) in
    subst (λ (p : Client × Message). (h : HasAnswer v s a (session_after s a p.1)) × (h.rejects ≡ is_some (fault_in s test (delivery s d)))) (sym (received_is k test c d q is)) (reply_answers v c.cluster all s test a (shelf c s) d abreast))
