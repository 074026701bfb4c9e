-- What is kept of all clients is kept by whatever happens.
use Rattle.std.proofs.Common.{◌≡◌, ◌≢◌, inl, inr, ℕ, ◌+◌, ◌≤◌, List, [], ◌∷◌, ◌++◌, Bool, true, false, ◌&&◌, not, Option, Some, None, refl, sym, ap, subst, ◌∙◌, arith}
use Rattle.std.specs.Prelude.{if◌then◌else◌, is_none, is_some, option_map, nat_lt}
use Rattle.std.specs.Option.{option_and_then}
use Rattle.std.specs.Ordering.{nat_cmp}
use Rattle.std.specs.Cmp.{nat_cmp_total}
use Rattle.std.specs.FinMap as finmap
use Rattle.std.specs.FinMap.{FinMap, nat_cmp-IsAntisymmetric}
use Rattle.xds_resource.specs.declared.types.TypeName.{TypeName}
use Rattle.xds_resource.specs.Stamps.{max_writer}
use Rattle.xds_resource.specs.PerType.{at}
use Rattle.xds_resource.proofs.TypesApart.{at-each}
use Rattle.xds_catalogue.proofs.Lookups.{get-inserted}
use Rattle.xds_message.specs.declared.draft.Draft.{Draft}
use Rattle.xds_message.specs.Drafts.{Drafted}
use Rattle.xds_message.specs.Messages.{Request}
use Rattle.xds_core.specs.Laws.{stream_changed}
use Rattle.xds_core.specs.Streams.{Stream, Message, opening, requested, polled_first, looked_at}
use Rattle.xds_core.specs.Events as events
use Rattle.xds_core.specs.Events.{Event, Reply, Opened, Answered, Polled, Owed, Closed, Written, Merged, Entries, Rested, Changed}
use Rattle.xds_core.specs.Steps.{Core, fresh as fresh_core}
use Rattle.xds_cache.specs.Shelves.{bare}
use Rattle.xds_cache.specs.Faults.{Test}
use Rattle.xds_cache.specs.Clients as clients
use Rattle.xds_cache.specs.Clients.{Client, shelf, unlinked}
use Rattle.xds_cache.specs.Sends.{is_greeted}
use Rattle.xds_resource.specs.Types.{types}
use Rattle.xds_script.specs.declared.event.ClientKind.{ClientKind}
use Rattle.xds_script.specs.declared.event.ClientKind.TheVariants.{Sotw, Delta, Rest}
use Rattle.xds_script.specs.declared.event.AnswerFate.{AnswerFate}
use Rattle.xds_script.specs.Happenings.{Happening, Wish, AddReplica, AddClient, Put, Delete, Snapshot, Merge, Connect, Change, Up, Poll, Down, Lose, RestPoll}
use Rattle.xds_world.specs.Worlds.{Site, Link, Peer, World, empty_world, at_site, happened_at, placed, pooled, with_peer, new_peer, connected_to, opened, with_request, changed, wish_of, wish_taken, under_way, polled, up_taken, received, taken_down, down_taken, opening_requests, has_streams, on_link, is_free, is_to_connect, asked_by, poll_event, answer_taken, happens}
use Rattle.xds_world.specs.Knows.{TypedWrite}
use Rattle.xds_world.proofs.Replicas.{some_is, bound_some, mapped_some, if_some, if_both, both_parts, none_there, on_link_some, never, IsRestPoll, rest_poll_is}
use Rattle.xds_world.proofs.Delivering.{AllKnown}
use Rattle.xds_world.proofs.ByKind.{LinkedTo, RestsAs, received_stays, wished_stays, up_to, poll_to, down_to, opened_to, lost_to, fresh_as, changed_to, rests_as}
use Rattle.xds_world.proofs.CoreSteps.{stream_step_is, open_is}
use Rattle.xds_world.proofs.RestShelves.{rests_answered, answers_stay}
use Rattle.xds_world.proofs.Everyone.{stream_at, AllCounted, AtSite, at_site_is, here_at, frame_at, counted_at, Fine, fine_sites, fine_peer}

-- ---- where a client is

pub link_there : (w : World) (c : ℕ) (f : Peer → Link → Option World) (left : World) → on_link w c f ≡ Some left → (p : Peer) × (l : Link) × (finmap.get w.peers c ≡ Some p) × (p.link ≡ Some l) × (f p l ≡ Some left)
link_there w c f left is = let x = on_link_some w c f left is in (x.0, x.1, x.3, x.4, x.2)

pub get_put : {X : Type 0} (m : FinMap nat_cmp X) (k : ℕ) (x : X) → finmap.get (finmap.insert m k x) k ≡ Some x
get_put m k x =
    elim (get-inserted nat_cmp_total nat_cmp-IsAntisymmetric m k x k) [
      | inl here ↦ here.1
      | inr other ↦ absurd (other.0 refl)
    ]

pub same_peers : (w : World) (r : ℕ) (e : Event) (q : Reply × World) → AtSite w r e q → q.1.peers ≡ w.peers
same_peers w r e q x = ap (λ y. y.peers) x.left

-- a stream that a link is at is the one that is open there
same_stream : (w : World) (r n : ℕ) (e : Event) (q : Reply × World) (x : AtSite w r e q) (o : Option Stream) → stream_at w r n ≡ o → finmap.get x.site.core.streams n ≡ o
same_stream w r n e q x o is = ap (λ y. option_and_then (λ (s : Site). finmap.get s.core.streams n) y) (sym x.has) ∙ is

module _ (w left : World) (all : List TypedWrite) (c : ℕ) (p : Peer) (l : Link) (has : finmap.get w.peers c ≡ Some p) (link : p.link ≡ Some l) (fine : Fine w all) where
  -- another client has another stream
  apart_from : (d : ℕ) (q : Peer) (m : Link) → c ≢ d → finmap.get w.peers d ≡ Some q → q.link ≡ Some m → m.replica ≡ l.replica → l.stream ≡ m.stream → ⊥
  apart_from d q m other has_d link_d same_replica same_number = other (fine.apart c d p q l m has has_d link link_d (sym same_replica) same_number)

  -- an event of the client's stream changes no other client's
  stream_frame : (e : Event) (q : Reply × World) → (x : AtSite w l.replica e q) → stream_changed x.site.core e ≡ Some l.stream → left.sites ≡ q.1.sites
      → (d : ℕ) (r : Peer) (m : Link) → c ≢ d → finmap.get w.peers d ≡ Some r → r.link ≡ Some m → stream_at left m.replica m.stream ≡ stream_at w m.replica m.stream
  stream_frame e q x changes sites d r m other has_d link_d =
      ap (λ (s : FinMap nat_cmp Site). option_and_then (λ (y : Site). finmap.get y.core.streams m.stream) (finmap.get s m.replica)) sites
      ∙ frame_at w l.replica e q x m.replica m.stream (λ same_replica is. apart_from d r m other has_d link_d same_replica (some_is l.stream m.stream (sym changes ∙ is)))

  still_counted : (e : Event) (q : Reply × World) → AtSite w l.replica e q → left.sites ≡ q.1.sites → AllCounted left
  still_counted e q x sites r s at_r = counted_at w l.replica e q x fine.counted r s (ap (λ m. finmap.get m r) (sym sites) ∙ at_r)

  -- the client stays where it is, or is down
  fine_here : (after : Peer) → left.peers ≡ finmap.insert w.peers c after
      → ((d : ℕ) (r : Peer) (m : Link) → c ≢ d → finmap.get w.peers d ≡ Some r → r.link ≡ Some m → stream_at left m.replica m.stream ≡ stream_at w m.replica m.stream)
      → ((k : Link) → after.link ≡ Some k → (x : Stream) × (k.replica ≡ l.replica) × (k.stream ≡ l.stream) × (stream_at left l.replica l.stream ≡ Some x) × LinkedTo after.kind all after.client k x)
      → (after.link ≡ None → (t : TypeName) → RestsAs after.kind all t (shelf after.client t)) → after.client.broken ≡ false → AllCounted left → Fine left all
  fine_here after peers frame here down of_use counted =
      fine_peer w left all c after peers frame (λ k at_k. let x = here k at_k in (x.0, (λ i. stream_at left (x.1 i) (x.2 i)) ∙ x.3, x.4)) down
      (λ d r k m other has_d at_k link_d same_replica same_number. let x = here k at_k in apart_from d r m other has_d link_d (sym same_replica ∙ x.1) (sym x.2 ∙ same_number)) of_use counted fine

never_link : (k : Link) → ◌≡◌ {A = Option Link} (Some k) None → ⊥
never_link k is = cc

-- ---- Up, Poll, Down, Lose

fine_up : (w left : World) (all : List TypedWrite) (c : ℕ) (p : Peer) (l : Link) (ms : List Message) → l.up ≡ ms → finmap.get w.peers c ≡ Some p → p.link ≡ Some l → up_taken w c p l ms ≡ Some left → Fine w all → Fine left all
fine_up w left all c p l [] up has link is fine = absurd cc
fine_up w left all c p l (m ∷ rest) up has link is fine =
    let e : Event = events.Request l.stream m in
    let after : Peer = record p { link = Some (record l { up = rest }) } in
    let made = mapped_some (λ q. with_peer q.1 c after) (at_site w l.replica e) left is in
    let q = made.0 in
    let x = at_site_is w l.replica e q made.1 in
    let here = fine.ups c p l has link in
    let at_core = stream_step_is x.site.core l.stream Answered (λ s. requested s m) (q.0, x.core) x.stepped in
    let same : at_core.0 ≡ here.0 = some_is at_core.0 here.0 (sym at_core.2 ∙ same_stream w l.replica l.stream e q x (Some here.0) here.1) in
    let now : stream_at left l.replica l.stream ≡ Some at_core.1.1 =
    ap (λ y. stream_at y l.replica l.stream) made.2 ∙ here_at w l.replica l.stream e q x ∙ ap (λ y. finmap.get y.1.streams l.stream) at_core.4 ∙ get_put x.site.core.streams l.stream at_core.1.1 in
    fine_here w left all c p l has link fine after (ap (λ y. y.peers) made.2 ∙ ap (λ y. finmap.insert y c after) (same_peers w l.replica e q x))
    (stream_frame w left all c p l has link fine e q x refl (ap (λ y. y.sites) made.2))
    (λ k at_k. let is_k : record l { up = rest } ≡ k = some_is (record l { up = rest }) k at_k in (
      at_core.1.1,
      sym (ap (λ y. y.replica) is_k),
      sym (ap (λ y. y.stream) is_k),
      now,
      subst (λ y. LinkedTo p.kind all p.client y at_core.1.1) is_k (up_to all p.kind p.client l here.0 m rest at_core.1 up (ap (λ s. requested s m) (sym same) ∙ at_core.3) here.2),
    ))
    (λ none. absurd (never_link (record l { up = rest }) none)) (fine.usable c p has) (still_counted w left all c p l has link fine e q x (ap (λ y. y.sites) made.2))

-- what a poll of the client's stream gave
pub polled_reply : (c : ℕ) (p : Peer) (l : Link) (reply : Reply) (w left : World) (o : Option Draft) → reply ≡ Polled o → polled c p l (reply, w) ≡ Some left → left ≡ with_peer w c (record p { link = Some (record l { down = l.down ++ under_way o }) })
polled_reply c p l reply w left o told is = sym (some_is (with_peer w c (record p { link = Some (record l { down = l.down ++ under_way o }) })) left (ap (λ r. polled c p l (r, w)) (sym told) ∙ is))

abbrev pub AllSitesKnown : World → List TypedWrite → Type 0
AllSitesKnown w all = (r : ℕ) (s : Site) (t : TypeName) → finmap.get w.sites r ≡ Some s → AllKnown all t (at s.core.store t).entries

fine_poll : (w left : World) (all : List TypedWrite) (c : ℕ) (p : Peer) (l : Link) (which : Option TypeName) → AllSitesKnown w all → finmap.get w.peers c ≡ Some p
    → p.link ≡ Some l → option_and_then (polled c p l) (at_site w l.replica (events.Poll l.stream which)) ≡ Some left → Fine w all → Fine left all
fine_poll w left all c p l which known has link is fine =
    let e : Event = events.Poll l.stream which in
    let made = bound_some (polled c p l) (at_site w l.replica e) left is in
    let q = made.0 in
    let x = at_site_is w l.replica e q made.1 in
    let here = fine.ups c p l has link in
    let at_core = stream_step_is x.site.core l.stream Polled (λ s. polled_first x.site.core.replica x.site.core.store s (looked_at which)) (q.0, x.core) x.stepped in
    let o : Option Draft = at_core.1.0 in
    let after : Peer = record p { link = Some (record l { down = l.down ++ under_way o }) } in
    let left_is : left ≡ with_peer q.1 c after = polled_reply c p l q.0 q.1 left o (ap (λ y. y.0) at_core.4) made.2 in
    let same : at_core.0 ≡ here.0 = some_is at_core.0 here.0 (sym at_core.2 ∙ same_stream w l.replica l.stream e q x (Some here.0) here.1) in
    let now : stream_at left l.replica l.stream ≡ Some at_core.1.1 =
    ap (λ y. stream_at y l.replica l.stream) left_is ∙ here_at w l.replica l.stream e q x ∙ ap (λ y. finmap.get y.1.streams l.stream) at_core.4 ∙ get_put x.site.core.streams l.stream at_core.1.1 in
    fine_here w left all c p l has link fine after (ap (λ y. y.peers) left_is ∙ ap (λ y. finmap.insert y c after) (same_peers w l.replica e q x))
    (stream_frame w left all c p l has link fine e q x refl (ap (λ y. y.sites) left_is))
    (λ k at_k. let is_k : record l { down = l.down ++ under_way o } ≡ k = some_is (record l { down = l.down ++ under_way o }) k at_k in (
      at_core.1.1,
      sym (ap (λ y. y.replica) is_k),
      sym (ap (λ y. y.stream) is_k),
      now,
      subst (λ y. LinkedTo p.kind all p.client y at_core.1.1) is_k
          (poll_to all p.kind x.site.core.replica x.site.core.store p.client l here.0 at_core.1.1 (looked_at which) o (λ t. known l.replica x.site t x.has)
          (ap (λ s. polled_first x.site.core.replica x.site.core.store s (looked_at which)) (sym same) ∙ at_core.3) here.2),
    ))
    (λ none. absurd (never_link (record l { down = l.down ++ under_way o }) none)) (fine.usable c p has) (still_counted w left all c p l has link fine e q x (ap (λ y. y.sites) left_is))

fine_down : (test : Test) (w left : World) (all : List TypedWrite) (c : ℕ) (p : Peer) (l : Link) (ds : List Draft) → l.down ≡ ds → finmap.get w.peers c ≡ Some p → p.link ≡ Some l → down_taken test w c p l ds ≡ Some left → Fine w all → Fine left all
fine_down test w left all c p l [] down has link is fine = absurd cc
fine_down test w left all c p l (d ∷ rest) down has link is fine =
    let made = mapped_some (λ q. with_peer w c (taken_down p l rest q)) (received test p d) left is in
    let q = made.0 in
    let next : Link = record l { up = l.up ++ q.1 ∷ []; down = rest } in
    let here = fine.ups c p l has link in
    fine_here w left all c p l has link fine (taken_down p l rest q) (ap (λ y. y.peers) made.2) (λ e r m other has_e link_e. ap (λ y. stream_at y m.replica m.stream) made.2)
    (λ k at_k. let is_k : next ≡ k = some_is next k at_k in (
      here.0,
      sym (ap (λ y. y.replica) is_k),
      sym (ap (λ y. y.stream) is_k),
      ap (λ y. stream_at y l.replica l.stream) made.2 ∙ here.1,
      subst (λ y. LinkedTo p.kind all q.0 y here.0) is_k (down_to all p.kind test p.client l here.0 d rest q down made.1 here.2),
    ))
    (λ none. absurd (never_link next none)) ((received_stays p.kind test p.client d q made.1).1 ∙ fine.usable c p has) (λ r s at_r. fine.counted r s (ap (λ y. finmap.get y.sites r) (sym made.2) ∙ at_r))

fine_lose : (w left : World) (all : List TypedWrite) (c : ℕ) (p : Peer) (l : Link) → finmap.get w.peers c ≡ Some p → p.link ≡ Some l
    → option_map (λ q. with_peer q.1 c (record p { client = unlinked p.client; link = None })) (at_site w l.replica (events.Close l.stream)) ≡ Some left → Fine w all → Fine left all
fine_lose w left all c p l has link is fine =
    let e : Event = events.Close l.stream in
    let after : Peer = record p { client = unlinked p.client; link = None } in
    let made = mapped_some (λ q. with_peer q.1 c after) (at_site w l.replica e) left is in
    let q = made.0 in
    let x = at_site_is w l.replica e q made.1 in
    let here = fine.ups c p l has link in
    fine_here w left all c p l has link fine after (ap (λ y. y.peers) made.2 ∙ ap (λ y. finmap.insert y c after) (same_peers w l.replica e q x))
    (stream_frame w left all c p l has link fine e q x refl (ap (λ y. y.sites) made.2)) (λ k at_k. absurd (never k at_k)) (λ none. lost_to all p.kind p.client l here.0 here.2) refl
    (still_counted w left all c p l has link fine e q x (ap (λ y. y.sites) made.2))

-- ---- Connect

pub opened_reply : (c r : ℕ) (p : Peer) (reply : Reply) (w left : World) (n : ℕ) → reply ≡ Opened n → opened c r p (reply, w) ≡ Some left → left ≡ with_peer w c (connected_to p r n)
opened_reply c r p reply w left n told is = sym (some_is (with_peer w c (connected_to p r n)) left (ap (λ y. opened c r p (y, w)) (sym told) ∙ is))

fine_connect : (w left : World) (all : List TypedWrite) (c r : ℕ) (p : Peer) → finmap.get w.peers c ≡ Some p → has_streams p.kind ≡ true → p.link ≡ None → option_and_then (opened c r p) (at_site w r events.Open) ≡ Some left → Fine w all → Fine left all
fine_connect w left all c r p has streams none is fine =
    let e : Event = events.Open in
    let made = bound_some (opened c r p) (at_site w r e) left is in
    let q = made.0 in
    let x = at_site_is w r e q made.1 in
    let at_core = open_is x.site.core (q.0, x.core) x.stepped in
    let n : ℕ = x.site.core.opened + 1 in
    let after : Peer = connected_to p r n in
    let left_is : left ≡ with_peer q.1 c after = opened_reply c r p q.0 q.1 left n (ap (λ y. y.0) at_core) made.2 in
    let counted : AllCounted left = λ k s at_k. counted_at w r e q x fine.counted k s (ap (λ y. finmap.get y.sites k) (sym left_is) ∙ at_k) in
    let now : stream_at left r n ≡ Some opening = ap (λ y. stream_at y r n) left_is ∙ here_at w r n e q x ∙ ap (λ y. finmap.get y.1.streams n) at_core ∙ get_put x.site.core.streams n opening in
    let below : (d : ℕ) (s : Peer) (m : Link) → finmap.get w.peers d ≡ Some s → s.link ≡ Some m → m.replica ≡ r → m.stream ≤ x.site.core.opened =
    λ d s m has_d link_d same. let there = fine.ups d s m has_d link_d in
    fine.counted r x.site x.has m.stream there.0 (same_stream w r m.stream e q x (Some there.0) (ap (λ k. stream_at w k m.stream) (sym same) ∙ there.1)) in
    fine_peer w left all c after (ap (λ y. y.peers) left_is ∙ ap (λ y. finmap.insert y c after) (same_peers w r e q x))
    (λ d s m other has_d link_d. ap (λ y. stream_at y m.replica m.stream) left_is
    ∙ frame_at w r e q x m.replica m.stream (λ same opens. let le = below d s m has_d link_d same in let at_end = some_is n m.stream opens in absurd (omega (arith, le, at_end))))
    (λ k at_k. let is_k = some_is (record { replica = r; stream = n; up = opening_requests p.kind p.client; down = [] }) k at_k in (
      opening,
      (λ i. stream_at left (ap (λ y. y.replica) (sym is_k) i) (ap (λ y. y.stream) (sym is_k) i)) ∙ now,
      subst (λ y. LinkedTo p.kind all (clients.linked (is_greeted p.client false types) p.client) y opening) is_k
          (opened_to all p.kind p.client r n streams (fine.downs c p has none)),
    ))
    (λ none. absurd (never_link (record { replica = r; stream = n; up = opening_requests p.kind p.client; down = [] }) none))
    (λ d s k m other has_d at_k link_d same_replica same_number. let is_k = some_is (record { replica = r; stream = n; up = opening_requests p.kind p.client; down = [] }) k at_k in
    let le = below d s m has_d link_d (sym same_replica ∙ ap (λ y. y.replica) (sym is_k)) in let at_end : n ≡ m.stream = ap (λ y. y.stream) is_k ∙ same_number in absurd (omega (arith, le, at_end))) (fine.usable c p has) counted fine

-- ---- Change

pub same_replica_on : (o : Option Message) (l : Link) → (with_request o l).replica ≡ l.replica
same_replica_on None l = refl
same_replica_on (Some m) l = refl

pub same_stream_on : (o : Option Message) (l : Link) → (with_request o l).stream ≡ l.stream
same_stream_on None l = refl
same_stream_on (Some m) l = refl

-- a client that is told to want something else stays of use
wished_usable : (p : Peer) (up : Bool) (t : TypeName) (wish : Wish) (q : Client × Option Message) → wish_of p.kind p up t wish ≡ Some q → p.client.broken ≡ false → q.0.broken ≡ false
wished_usable p up t wish q is usable = (wished_stays p.kind p up t wish q is).1 ∙ usable

fine_change_up : (w left : World) (all : List TypedWrite) (c : ℕ) (p : Peer) (l : Link) (t : TypeName) (wish : Wish) (q : Client × Option Message) → finmap.get w.peers c ≡ Some p → p.link ≡ Some l → wish_of p.kind p true t wish ≡ Some q
    → left ≡ with_peer w c (changed p q) → Fine w all → Fine left all
fine_change_up w left all c p l t wish q has link wished is fine =
    let here = fine.ups c p l has link in
    let next : option_map (with_request q.1) p.link ≡ Some (with_request q.1 l) = ap (option_map (with_request q.1)) link in
    fine_here w left all c p l has link fine (changed p q) (ap (λ y. y.peers) is) (λ e r m other has_e link_e. ap (λ y. stream_at y m.replica m.stream) is)
    (λ k at_k. let is_k : with_request q.1 l ≡ k = some_is (with_request q.1 l) k (sym next ∙ at_k) in (
      here.0,
      sym (ap (λ y. y.replica) is_k) ∙ same_replica_on q.1 l,
      sym (ap (λ y. y.stream) is_k) ∙ same_stream_on q.1 l,
      ap (λ y. stream_at y l.replica l.stream) is ∙ here.1,
      subst (λ y. LinkedTo p.kind all q.0 y here.0) is_k (changed_to all p.kind p l here.0 t wish q wished here.2),
    ))
    (λ none. absurd (never_link (with_request q.1 l) (sym next ∙ none))) (wished_usable p true t wish q wished (fine.usable c p has)) (λ r s at_r. fine.counted r s (ap (λ y. finmap.get y.sites r) (sym is) ∙ at_r))

fine_change_down : (w left : World) (all : List TypedWrite) (c : ℕ) (p : Peer) (t : TypeName) (wish : Wish) (q : Client × Option Message) → finmap.get w.peers c ≡ Some p → p.link ≡ None → wish_of p.kind p false t wish ≡ Some q
    → left ≡ with_peer w c (changed p q) → Fine w all → Fine left all
fine_change_down w left all c p t wish q has link wished is fine =
    let next : option_map (with_request q.1) p.link ≡ None = ap (option_map (with_request q.1)) link in
    fine_peer w left all c (changed p q) (ap (λ y. y.peers) is) (λ e r m other has_e link_e. ap (λ y. stream_at y m.replica m.stream) is) (λ k at_k. absurd (never k (sym next ∙ at_k)))
    (λ none. rests_as all p.kind p t wish q wished (fine.downs c p has link))
    (λ d s k m other has_d at_k link_d same_replica same_number. never k (sym next ∙ at_k)) (wished_usable p false t wish q wished (fine.usable c p has)) (λ r s at_r. fine.counted r s (ap (λ y. finmap.get y.sites r) (sym is) ∙ at_r)) fine

fine_change : (w left : World) (all : List TypedWrite) (c : ℕ) (p : Peer) (t : TypeName) (wish : Wish) (q : Client × Option Message) (o : Option Link) → finmap.get w.peers c ≡ Some p → p.link ≡ o → wish_taken p t wish ≡ Some q → left ≡ with_peer w c (changed p q)
    → Fine w all → Fine left all
fine_change w left all c p t wish q None has link wished is fine = fine_change_down w left all c p t wish q has link (ap (λ y. wish_of p.kind p (is_some y) t wish) (sym link) ∙ wished) is fine
fine_change w left all c p t wish q (Some l) has link wished is fine = fine_change_up w left all c p l t wish q has link (ap (λ y. wish_of p.kind p (is_some y) t wish) (sym link) ∙ wished) is fine

-- ---- replicas alone

-- an event that changes no stream
fine_quiet : (w left : World) (all : List TypedWrite) (r : ℕ) (e : Event) (q : Reply × World) → ((c : Core) → stream_changed c e ≡ None) → at_site w r e ≡ Some q → left.sites ≡ q.1.sites → left.peers ≡ w.peers → Fine w all → Fine left all
fine_quiet w left all r e q quiet is sites peers fine =
    let x = at_site_is w r e q is in
    fine_sites w left all peers
    (λ k m. ap (λ (s : FinMap nat_cmp Site). option_and_then (λ (y : Site). finmap.get y.core.streams m) (finmap.get s k)) sites ∙ frame_at w r e q x k m (λ same changes. never m (sym (quiet x.site.core) ∙ changes)))
    (λ k s at_k. counted_at w r e q x fine.counted k s (ap (λ m. finmap.get m k) (sym sites) ∙ at_k)) fine

fine_added : (w left : World) (all : List TypedWrite) (r : ℕ) → finmap.get w.sites r ≡ None → left ≡ record w { sites = finmap.insert w.sites r (record { core = fresh_core r; journal = [] }) } → Fine w all → Fine left all
fine_added w left all r none is fine =
    fine_sites w left all (ap (λ y. y.peers) is)
    (λ q m. ap (λ y. stream_at y q m) is
    ∙ elim (get-inserted nat_cmp_total nat_cmp-IsAntisymmetric w.sites r (record { core = fresh_core r; journal = [] }) q) [
      | inl here ↦
          ap (λ o. option_and_then (λ (s : Site). finmap.get s.core.streams m) o) here.1 ∙ finmap.get-empty nat_cmp m ∙ ap (λ o. option_and_then (λ (s : Site). finmap.get s.core.streams m) o) (sym none) ∙ ap (λ k. stream_at w k m) here.0
      | inr there ↦ ap (λ o. option_and_then (λ (s : Site). finmap.get s.core.streams m) o) there.1
    ])
    (λ q s has. elim (get-inserted nat_cmp_total nat_cmp-IsAntisymmetric w.sites r (record { core = fresh_core r; journal = [] }) q) [
      | inl here ↦ (λ n x is_open. absurd (never x (sym (finmap.get-empty nat_cmp n) ∙ ap (λ (y : Site). finmap.get y.core.streams n) (some_is (record { core = fresh_core r; journal = [] }) s (sym here.1 ∙ ap (λ y. finmap.get y.sites q) (sym is) ∙ has)) ∙ is_open)))
      | inr there ↦ fine.counted q s (sym there.1 ∙ ap (λ y. finmap.get y.sites q) (sym is) ∙ has)
    ]) fine

fine_joined : (w left : World) (all : List TypedWrite) (c : ℕ) (kind : ClientKind) (cluster : List ℕ) → left ≡ with_peer w c (new_peer c kind cluster) → Fine w all → Fine left all
fine_joined w left all c kind cluster is fine =
    fine_peer w left all c (new_peer c kind cluster) (ap (λ y. y.peers) is) (λ e r m other has_e link_e. ap (λ y. stream_at y m.replica m.stream) is) (λ k at_k. absurd (never k at_k))
    (λ none t. subst (RestsAs kind all t) (sym (at-each bare t)) (fresh_as all kind t)) (λ d s k m other has_d at_k link_d same_replica same_number. never k at_k) refl
    (λ r s at_r. fine.counted r s (ap (λ y. finmap.get y.sites r) (sym is) ∙ at_r)) fine

-- a batch that joins the pool
pub pooled_is : (r : ℕ) (reply : Reply) (w left : World) → pooled r (reply, w) ≡ Some left → (left.sites ≡ w.sites) × (left.peers ≡ w.peers)
pooled_is r (Entries b) w left is = let same = some_is (record w { pool = w.pool ++ (r, b) ∷ [] }) left is in (sym (ap (λ y. y.sites) same), sym (ap (λ y. y.peers) same))
pooled_is r (Opened n) w left is = absurd cc
pooled_is r (Answered o) w left is = absurd cc
pooled_is r (Polled o) w left is = absurd cc
pooled_is r (Owed o) w left is = absurd cc
pooled_is r Closed w left is = absurd cc
pooled_is r (Written n m) w left is = absurd cc
pooled_is r (Merged n) w left is = absurd cc
pooled_is r (Rested o) w left is = absurd cc
pooled_is r (Changed b marks) w left is = absurd cc

fine_written : (w left : World) (all : List TypedWrite) (r : ℕ) (e : Event) → ((c : Core) → stream_changed c e ≡ None) → happened_at w r e ≡ Some left → Fine w all → Fine left all
fine_written w left all r e quiet is fine =
    let made = mapped_some (λ p. p.1) (at_site w r e) left is in
    let x = at_site_is w r e made.0 made.1 in
    fine_quiet w left all r e made.0 quiet made.1 (ap (λ y. y.sites) made.2) (ap (λ y. y.peers) made.2 ∙ same_peers w r e made.0 x) fine

-- ---- polls without a stream

-- who polls is of the kind that does
pub polls_as : (k : ClientKind) (c : Client) (t : TypeName) (q : Request) → asked_by k c t ≡ Some q → k ≡ Rest
polls_as Rest c t q is = refl
polls_as Sotw c t q is = absurd (never q is)
polls_as Delta c t q is = absurd (never q is)

never_linked : (k : ClientKind) (all : List TypedWrite) (c : Client) (l : Link) (x : Stream) → k ≡ Rest → LinkedTo k all c l x → ⊥
never_linked k all c l x is linked = let never : false ≡ true = ap has_streams (sym is) ∙ linked.1.0 in absurd cc

-- so it has no link
pub linked_never : (w : World) (all : List TypedWrite) (c : ℕ) (p : Peer) (l : Link) → Fine w all → finmap.get w.peers c ≡ Some p → p.link ≡ Some l → p.kind ≡ Rest → ⊥
linked_never w all c p l fine has linked is = let there = fine.ups c p l has linked in never_linked p.kind all p.client l there.0 is there.2

pub polls_unlinked : (test : Test) (w left : World) (all : List TypedWrite) (c r : ℕ) (t : TypeName) (answer : AnswerFate) (x : IsRestPoll test w left c r t answer) → Fine w all → (l : Link) → x.peer.link ≡ Some l → ⊥
polls_unlinked test w left all c r t answer x fine l linked = linked_never w all c x.peer l fine x.has linked (polls_as x.peer.kind x.peer.client t x.request x.asks)

polled_rests : (test : Test) (all : List TypedWrite) (k : ClientKind) (answer : AnswerFate) (c : Client) (t : TypeName) (o : Option Drafted) (x : Client) → k ≡ Rest → answer_taken test answer c t o ≡ Some x → ((u : TypeName) → RestsAs k all u (shelf c u))
    → (u : TypeName) → RestsAs k all u (shelf x u)
polled_rests test all k answer c t o x is takes rests u =
    subst (λ v. RestsAs v all u (shelf x u)) (sym is) (record { within = rests_answered test answer c t o x takes (λ s. (rests s).within) u; made = λ name h held. tt })

fine_rest : (test : Test) (w left : World) (all : List TypedWrite) (c r : ℕ) (t : TypeName) (answer : AnswerFate) (x : IsRestPoll test w left c r t answer) → Fine w all → Fine left all
fine_rest test w left all c r t answer x fine =
    let e : Event = poll_event t x.request in
    let after : Peer = record x.peer { client = x.client } in
    let site = at_site_is w r e x.reply x.answers in
    let kind = polls_as x.peer.kind x.peer.client t x.request x.asks in
    fine_peer w left all c after (ap (λ y. y.peers) x.after ∙ ap (λ y. finmap.insert y c after) (same_peers w r e x.reply site))
    (λ d q m other has_d link_d. ap (λ y. stream_at y m.replica m.stream) x.after ∙ frame_at w r e x.reply site m.replica m.stream (λ same changes. never m.stream changes))
    (λ l linked. absurd (polls_unlinked test w left all c r t answer x fine l linked))
    (λ none. polled_rests test all x.peer.kind answer x.peer.client t x.draft x.client kind x.takes (fine.downs c x.peer x.has none))
    (λ d q l m other has_d linked link_d same_replica same_number. polls_unlinked test w left all c r t answer x fine l linked)
    ((answers_stay test answer x.peer.client t x.draft x.client x.takes).broken ∙ fine.usable c x.peer x.has)
    (λ k s at_k. counted_at w r e x.reply site fine.counted k s (ap (λ y. finmap.get y.sites k) (sym x.after) ∙ at_k)) fine

-- ---- whatever happens

pub fine_step : (test : Test) (w left : World) (all : List TypedWrite) (h : Happening) → happens test w h ≡ Some left → AllSitesKnown w all → Fine w all → Fine left all
fine_step test w left all (AddReplica r) is known fine =
    let made = if_some (is_free w r) (record w { sites = finmap.insert w.sites r (record { core = fresh_core r; journal = [] }) }) left is in
    fine_added w left all r (none_there (finmap.get w.sites r) (both_parts (nat_lt 0 r && not (nat_lt max_writer r)) (is_none (finmap.get w.sites r)) made.0).1) made.1 fine
fine_step test w left all (AddClient c kind cluster) is known fine = fine_joined w left all c kind cluster (if_some (is_none (finmap.get w.peers c)) (with_peer w c (new_peer c kind cluster)) left is).1 fine
fine_step test w left all (Put r t body groups) is known fine = fine_written w left all r (events.Put t body groups) (λ c. refl) is fine
fine_step test w left all (Delete r t name) is known fine = fine_written w left all r (events.Delete t name) (λ c. refl) is fine
fine_step test w left all (Snapshot r) is known fine =
    let made = bound_some (pooled r) (at_site w r events.Snapshot) left is in
    let same = pooled_is r made.0.0 made.0.1 left made.2 in
    fine_quiet w left all r events.Snapshot made.0 (λ c. refl) made.1 same.0 (same.1 ∙ same_peers w r events.Snapshot made.0 (at_site_is w r events.Snapshot made.0 made.1)) fine
fine_step test w left all (Merge r b) is known fine =
    let place = bound_some (λ x. happened_at w r (events.Merge x.1)) (placed w.pool b) left is in
    fine_written w left all r (events.Merge place.0.1) (λ c. refl) place.2 fine
fine_step test w left all (Connect c r) is known fine =
    let peer = bound_some (λ p. if is_to_connect p then option_and_then (opened c r p) (at_site w r events.Open) else None) (finmap.get w.peers c) left is in
    let down = if_both (is_to_connect peer.0) (option_and_then (opened c r peer.0) (at_site w r events.Open)) left peer.2 in
    let parts = both_parts (has_streams peer.0.kind) (is_none peer.0.link) down.0 in
    fine_connect w left all c r peer.0 peer.1 parts.0 (none_there peer.0.link parts.1) down.1 fine
fine_step test w left all (Change c t wish) is known fine =
    let peer = bound_some (λ p. option_map (λ q. with_peer w c (changed p q)) (wish_taken p t wish)) (finmap.get w.peers c) left is in
    let made = mapped_some (λ q. with_peer w c (changed peer.0 q)) (wish_taken peer.0 t wish) left peer.2 in
    fine_change w left all c peer.0 t wish made.0 peer.0.link peer.1 refl made.1 made.2 fine
fine_step test w left all (Up c) is known fine = let at_link = link_there w c (λ p l. up_taken w c p l l.up) left is in fine_up w left all c at_link.0 at_link.1 at_link.1.up refl at_link.2 at_link.3 at_link.4 fine
fine_step test w left all (Poll c which) is known fine =
    let at_link = link_there w c (λ p l. option_and_then (polled c p l) (at_site w l.replica (events.Poll l.stream which))) left is in fine_poll w left all c at_link.0 at_link.1 which known at_link.2 at_link.3 at_link.4 fine
fine_step test w left all (Down c) is known fine =
    let at_link = link_there w c (λ p l. down_taken test w c p l l.down) left is in fine_down test w left all c at_link.0 at_link.1 at_link.1.down refl at_link.2 at_link.3 at_link.4 fine
fine_step test w left all (Lose c) is known fine =
    let at_link = link_there w c (λ p l. option_map (λ q. with_peer q.1 c (record p { client = unlinked p.client; link = None })) (at_site w l.replica (events.Close l.stream))) left is in
    fine_lose w left all c at_link.0 at_link.1 at_link.2 at_link.3 at_link.4 fine
fine_step test w left all (RestPoll c r t answer) is known fine = fine_rest test w left all c r t answer (rest_poll_is test w left c r t answer is) fine

pub fine_start : Fine empty_world []
fine_start = record {
  ups = λ c p l has. absurd (never p (sym (finmap.get-empty nat_cmp c) ∙ has));
  downs = λ c p has. absurd (never p (sym (finmap.get-empty nat_cmp c) ∙ has));
  apart = λ c d p q l m has. absurd (never p (sym (finmap.get-empty nat_cmp c) ∙ has));
  usable = λ c p has. absurd (never p (sym (finmap.get-empty nat_cmp c) ∙ has));
  counted = λ r s has. absurd (never s (sym (finmap.get-empty nat_cmp r) ∙ has));
}
