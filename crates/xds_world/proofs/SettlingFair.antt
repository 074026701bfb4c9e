-- In every world, what was refused states what the client's test refuses.
use Rattle.std.proofs.Common.{◌≡◌, ◌≢◌, inl, inr, ℕ, ◌+◌, ◌≤◌, List, [], ◌∷◌, ◌++◌, true, Option, Some, None, refl, sym, ap, subst, ◌∙◌, arith}
use Rattle.std.specs.Prelude.{if◌then◌else◌, is_none, is_some, option_map}
use Rattle.std.specs.Option.{option_and_then}
use Rattle.std.specs.Ordering.{nat_cmp}
use Rattle.std.specs.Cmp.{nat_cmp_total}
use Rattle.std.specs.FinMap as finmap
use Rattle.std.specs.FinMap.{FinMap, nat_cmp-IsAntisymmetric}
use Rattle.xds_resource.specs.declared.types.TypeName.{TypeName}
use Rattle.xds_catalogue.proofs.Lookups.{get-inserted}
use Rattle.xds_message.specs.declared.draft.Draft.{Draft}
use Rattle.xds_core.specs.Laws.{stream_changed}
use Rattle.xds_core.specs.Streams.{Stream, Message, opening, requested, polled_first, looked_at}
use Rattle.xds_core.specs.Events as events
use Rattle.xds_core.specs.Events.{Event, Reply, Answered, Polled}
use Rattle.xds_core.specs.Steps.{Core, fresh as fresh_core}
use Rattle.xds_cache.specs.Faults.{Test}
use Rattle.xds_cache.specs.Clients.{Client, unlinked}
use Rattle.xds_script.specs.declared.event.AnswerFate.{AnswerFate}
use Rattle.xds_script.specs.Happenings.{Happening, Wish, AddReplica, AddClient, Put, Delete, Snapshot, Merge, Connect, Change, Up, Poll, Down, Lose, RestPoll}
use Rattle.xds_world.specs.Worlds.{Site, Link, Peer, World, empty_world, at_site, happened_at, placed, pooled, with_peer, new_peer, connected_to, opened, with_request, changed, wish_of, wish_taken, under_way, polled, up_taken, received, taken_down, down_taken, opening_requests, is_free, is_to_connect, poll_event, happens, after}
use Rattle.xds_world.specs.Knows.{TypedWrite, made_now}
use Rattle.xds_world.specs.Settling.{link_in}
use Rattle.xds_world.proofs.Replicas.{some_is, bound_some, mapped_some, if_some, if_both, both_parts, none_there, never, IsRestPoll, rest_poll_is}
use Rattle.xds_world.proofs.CoreSteps.{open_is}
use Rattle.xds_world.proofs.Everyone.{stream_at, AtSite, at_site_is, here_at, frame_at, Fine}
use Rattle.xds_world.proofs.EveryEvent.{link_there, same_peers, pooled_is, same_replica_on, AllSitesKnown, opened_reply, same_stream_on, polled_reply, polls_unlinked, get_put}
use Rattle.xds_world.proofs.SettlingSteps.{Spot, spot_of, link_at, linked_at, at_spot, at_stream}
use Rattle.xds_world.proofs.SettlingBlame.{FairOn, fair_more, fair_up, fair_poll, fair_down, fair_changed, fair_opened}

-- of every client that is up
abbrev pub IsFairWorld : List TypedWrite → Test → World → Type 0
IsFairWorld all test w = (c : ℕ) (l : Link) (x : Stream) → link_in w c ≡ Some l → stream_at w l.replica l.stream ≡ Some x → FairOn all test l x

-- ---- frames

fair_sites : (w left : World) (all : List TypedWrite) (test : Test) → left.peers ≡ w.peers → ((q m : ℕ) → stream_at left q m ≡ stream_at w q m) → IsFairWorld all test w → IsFairWorld all test left
fair_sites w left all test peers frame fair c l x linked there = fair c l x (ap (λ m. option_and_then (λ (p : Peer). p.link) (finmap.get m c)) (sym peers) ∙ linked) (sym (frame l.replica l.stream) ∙ there)

-- one client changed
fair_peer : (w left : World) (all : List TypedWrite) (test : Test) (c : ℕ) (after : Peer) → left.peers ≡ finmap.insert w.peers c after
    → ((d : ℕ) (m : Link) → c ≢ d → link_in w d ≡ Some m → stream_at left m.replica m.stream ≡ stream_at w m.replica m.stream)
    → ((l : Link) (x : Stream) → after.link ≡ Some l → stream_at left l.replica l.stream ≡ Some x → FairOn all test l x) → IsFairWorld all test w → IsFairWorld all test left
fair_peer w left all test c after peers frame own fair d l x linked there =
    let now : option_and_then (λ (p : Peer). p.link) (finmap.get (finmap.insert w.peers c after) d) ≡ Some l = ap (λ m. option_and_then (λ (p : Peer). p.link) (finmap.get m d)) (sym peers) ∙ linked in
    elim (get-inserted nat_cmp_total nat_cmp-IsAntisymmetric w.peers c after d) [
      | inl here ↦ own l x (ap (option_and_then (λ (p : Peer). p.link)) (sym here.1) ∙ now) there
      | inr other ↦
          (let was : link_in w d ≡ Some l = ap (option_and_then (λ (p : Peer). p.link)) (sym other.1) ∙ now in
          fair d l x was (sym (frame d l other.0 was) ∙ there))
    ]

-- an event of a client's stream changes no other client's
streams_kept : (w left : World) (all : List TypedWrite) (c : ℕ) (s : Spot w c) (e : Event) (q : Reply × World) → (x : AtSite w s.link.replica e q) → stream_changed x.site.core e ≡ Some s.link.stream → left.sites ≡ q.1.sites → Fine w all
    → (d : ℕ) (m : Link) → c ≢ d → link_in w d ≡ Some m → stream_at left m.replica m.stream ≡ stream_at w m.replica m.stream
streams_kept w left all c s e q x changes sites fine d m other linked =
    let peer = bound_some (λ (p : Peer). p.link) (finmap.get w.peers d) m linked in
    ap (λ (k : FinMap nat_cmp Site). option_and_then (λ (y : Site). finmap.get y.core.streams m.stream) (finmap.get k m.replica)) sites
    ∙ frame_at w s.link.replica e q x m.replica m.stream
    (λ same is. other (fine.apart c d s.peer peer.0 s.link m s.has peer.1 s.linked peer.2 (sym same) (some_is s.link.stream m.stream (sym changes ∙ is))))

-- the stream of a client
abbrev stream_here : (w : World) (c : ℕ) (s : Spot w c) → stream_at w s.link.replica s.link.stream ≡ Some s.stream
stream_here w c s = ap (option_and_then (λ (y : Site). finmap.get y.core.streams s.link.stream)) s.there ∙ s.opened

fair_here : (w : World) (all : List TypedWrite) (test : Test) (c : ℕ) (s : Spot w c) → IsFairWorld all test w → FairOn all test s.link s.stream
fair_here w all test c s fair = fair c s.link s.stream (link_at w c s) (stream_here w c s)

-- the stream of a replica that was put in its place
stream_put : (w left : World) (r n : ℕ) (site : Site) (x : Stream) → left.sites ≡ finmap.insert w.sites r site → finmap.get site.core.streams n ≡ Some x → stream_at left r n ≡ Some x
stream_put w left r n site x sites there =
    ap (λ (k : FinMap nat_cmp Site). option_and_then (λ (y : Site). finmap.get y.core.streams n) (finmap.get k r)) sites ∙ ap (option_and_then (λ (y : Site). finmap.get y.core.streams n)) (get_put w.sites r site) ∙ there

-- a client that is up
spot_by : (w : World) (all : List TypedWrite) (c : ℕ) (p : Peer) (l : Link) → finmap.get w.peers c ≡ Some p → p.link ≡ Some l → Fine w all → Spot w c
spot_by w all c p l has linked fine = spot_of w all c l fine (ap (option_and_then (λ (q : Peer). q.link)) has ∙ linked)

-- ---- Up

fair_took : (test : Test) (w left : World) (all : List TypedWrite) (c : ℕ) (s : Spot w c) (ms : List Message) → s.link.up ≡ ms → up_taken w c s.peer s.link ms ≡ Some left → Fine w all → IsFairWorld all test w → IsFairWorld all test left
fair_took test w left all c s [] up is fine fair = absurd cc
fair_took test w left all c s (m ∷ rest) up is fine fair =
    let next : Link = record s.link { up = rest } in
    let after : Peer = record s.peer { link = Some next } in
    let e : Event = events.Request s.link.stream m in
    let made = mapped_some (λ q. with_peer q.1 c after) (at_site w s.link.replica e) left is in
    let x = at_stream w c s e Answered (λ k z. requested z m) made.0 (λ k. refl) made.1 in
    let site = at_site_is w s.link.replica e made.0 made.1 in
    let now : stream_at left s.link.replica s.link.stream ≡ Some x.stream = stream_put w left s.link.replica s.link.stream x.site x.stream (ap (λ y. y.sites) made.2 ∙ ap (λ y. y.sites) x.left) x.opened in
    fair_peer w left all test c after (ap (λ y. y.peers) made.2 ∙ ap (λ y. finmap.insert y c after) (same_peers w s.link.replica e made.0 site))
    (streams_kept w left all c s e made.0 site refl (ap (λ y. y.sites) made.2) fine)
    (λ l z linked there. let is_l : next ≡ l = some_is next l linked in
    let is_z : x.stream ≡ z = some_is x.stream z (sym now ∙ (λ i. stream_at left ((is_l i).replica) ((is_l i).stream)) ∙ there) in
    subst (λ k. FairOn all test k z) is_l
    (subst (FairOn all test next) is_z (fair_up s.peer.kind all test s.peer.client s.link s.stream m rest (x.answer, x.stream) up x.made (linked_at w all c s fine) (fair_here w all test c s fair)))) fair

-- ---- Poll

fair_polled : (test : Test) (w left : World) (all : List TypedWrite) (c : ℕ) (s : Spot w c) (which : Option TypeName) → AllSitesKnown w all → option_and_then (polled c s.peer s.link) (at_site w s.link.replica (events.Poll s.link.stream which)) ≡ Some left → Fine w all
    → IsFairWorld all test w → IsFairWorld all test left
fair_polled test w left all c s which known is fine fair =
    let e : Event = events.Poll s.link.stream which in
    let made = bound_some (polled c s.peer s.link) (at_site w s.link.replica e) left is in
    let x = at_stream w c s e Polled (λ k z. polled_first k.replica k.store z (looked_at which)) made.0 (λ k. refl) made.1 in
    let site = at_site_is w s.link.replica e made.0 made.1 in
    let next : Link = record s.link { down = s.link.down ++ under_way x.answer } in
    let after : Peer = record s.peer { link = Some next } in
    let left_is : left ≡ with_peer made.0.1 c after = polled_reply c s.peer s.link made.0.0 made.0.1 left x.answer x.told made.2 in
    let now : stream_at left s.link.replica s.link.stream ≡ Some x.stream = stream_put w left s.link.replica s.link.stream x.site x.stream (ap (λ y. y.sites) left_is ∙ ap (λ y. y.sites) x.left) x.opened in
    fair_peer w left all test c after (ap (λ y. y.peers) left_is ∙ ap (λ y. finmap.insert y c after) (same_peers w s.link.replica e made.0 site))
    (streams_kept w left all c s e made.0 site refl (ap (λ y. y.sites) left_is) fine)
    (λ l z linked there. let is_l : next ≡ l = some_is next l linked in
    let is_z : x.stream ≡ z = some_is x.stream z (sym now ∙ (λ i. stream_at left ((is_l i).replica) ((is_l i).stream)) ∙ there) in
    subst (λ k. FairOn all test k z) is_l
    (subst (FairOn all test next) is_z
    (fair_poll s.peer.kind all test s.site.core.replica s.site.core.store s.peer.client s.link s.stream x.stream (looked_at which) x.answer (λ t. known s.link.replica s.site t s.there) x.made (linked_at w all c s fine) (fair_here w all test c s fair)))) fair

-- ---- Down

fair_given : (test : Test) (w left : World) (all : List TypedWrite) (c : ℕ) (s : Spot w c) (ds : List Draft) → s.link.down ≡ ds → down_taken test w c s.peer s.link ds ≡ Some left → Fine w all → IsFairWorld all test w → IsFairWorld all test left
fair_given test w left all c s [] down is fine fair = absurd cc
fair_given test w left all c s (d ∷ rest) down is fine fair =
    let made = mapped_some (λ q. with_peer w c (taken_down s.peer s.link rest q)) (received test s.peer d) left is in
    let q = made.0 in
    let next : Link = record s.link { up = s.link.up ++ q.1 ∷ []; down = rest } in
    let now : stream_at left s.link.replica s.link.stream ≡ Some s.stream = ap (λ y. stream_at y s.link.replica s.link.stream) made.2 ∙ stream_here w c s in
    fair_peer w left all test c (taken_down s.peer s.link rest q) (ap (λ y. y.peers) made.2) (λ d m other linked. ap (λ y. stream_at y m.replica m.stream) made.2)
    (λ l z linked there. let is_l : next ≡ l = some_is next l linked in
    let is_z : s.stream ≡ z = some_is s.stream z (sym now ∙ (λ i. stream_at left ((is_l i).replica) ((is_l i).stream)) ∙ there) in
    subst (λ k. FairOn all test k z) is_l
    (subst (FairOn all test next) is_z (fair_down s.peer.kind all test s.peer.client s.link s.stream d rest q down made.1 (linked_at w all c s fine) (fair_here w all test c s fair)))) fair

-- ---- Lose

fair_lost : (test : Test) (w left : World) (all : List TypedWrite) (c : ℕ) (s : Spot w c) → option_map (λ q. with_peer q.1 c (record s.peer { client = unlinked s.peer.client; link = None })) (at_site w s.link.replica (events.Close s.link.stream)) ≡ Some left → Fine w all
    → IsFairWorld all test w → IsFairWorld all test left
fair_lost test w left all c s is fine fair =
    let e : Event = events.Close s.link.stream in
    let after : Peer = record s.peer { client = unlinked s.peer.client; link = None } in
    let made = mapped_some (λ q. with_peer q.1 c after) (at_site w s.link.replica e) left is in
    let site = at_site_is w s.link.replica e made.0 made.1 in
    fair_peer w left all test c after (ap (λ y. y.peers) made.2 ∙ ap (λ y. finmap.insert y c after) (same_peers w s.link.replica e made.0 site))
    (streams_kept w left all c s e made.0 site refl (ap (λ y. y.sites) made.2) fine) (λ l z linked there. absurd (never l linked)) fair

-- ---- Change

fair_wished : (test : Test) (w left : World) (all : List TypedWrite) (c : ℕ) (p : Peer) (t : TypeName) (wish : Wish) (q : Client × Option Message) (o : Option Link) → finmap.get w.peers c ≡ Some p → p.link ≡ o → wish_taken p t wish ≡ Some q → left ≡ with_peer w c (changed p q) → Fine w all
    → IsFairWorld all test w → IsFairWorld all test left
fair_wished test w left all c p t wish q None has linked wished is fine fair =
    fair_peer w left all test c (changed p q) (ap (λ y. y.peers) is) (λ d m other at_d. ap (λ y. stream_at y m.replica m.stream) is) (λ l z link there. absurd (never l (sym (ap (option_map (with_request q.1)) linked) ∙ link))) fair
fair_wished test w left all c p t wish q (Some l) has linked wished is fine fair =
    let s = spot_by w all c p l has linked fine in
    let now : stream_at left l.replica l.stream ≡ stream_at w l.replica l.stream = ap (λ y. stream_at y l.replica l.stream) is in
    let wish_is : wish_of p.kind p true t wish ≡ Some q = ap (λ y. wish_of p.kind p (is_some y) t wish) (sym linked) ∙ wished in
    fair_peer w left all test c (changed p q) (ap (λ y. y.peers) is) (λ d m other at_d. ap (λ y. stream_at y m.replica m.stream) is)
    (λ k z link there. let is_k : with_request q.1 l ≡ k = some_is (with_request q.1 l) k (sym (ap (option_map (with_request q.1)) linked) ∙ link) in
    let same : stream_at left k.replica k.stream ≡ stream_at left l.replica l.stream =
    λ i. stream_at left ((sym (ap (λ (y : Link). y.replica) is_k) ∙ same_replica_on q.1 l) i) ((sym (ap (λ (y : Link). y.stream) is_k) ∙ same_stream_on q.1 l) i) in
    subst (λ y. FairOn all test y z) is_k
    (fair_changed p.kind all test p l z t wish q wish_is (fair c l z (ap (option_and_then (λ (y : Peer). y.link)) has ∙ linked) (sym now ∙ sym same ∙ there)))) fair

-- ---- Connect

fair_connect : (test : Test) (w left : World) (all : List TypedWrite) (c r : ℕ) (p : Peer) → option_and_then (opened c r p) (at_site w r events.Open) ≡ Some left → Fine w all → IsFairWorld all test w → IsFairWorld all test left
fair_connect test w left all c r p is fine fair =
    let e : Event = events.Open in
    let made = bound_some (opened c r p) (at_site w r e) left is in
    let q = made.0 in
    let x = at_site_is w r e q made.1 in
    let at_core = open_is x.site.core (q.0, x.core) x.stepped in
    let n : ℕ = x.site.core.opened + 1 in
    let next : Link = record { replica = r; stream = n; up = opening_requests p.kind p.client; down = [] } in
    let left_is : left ≡ with_peer q.1 c (connected_to p r n) = opened_reply c r p q.0 q.1 left n (ap (λ y. y.0) at_core) made.2 in
    let now : stream_at left r n ≡ Some opening = ap (λ y. stream_at y r n) left_is ∙ here_at w r n e q x ∙ ap (λ y. finmap.get y.1.streams n) at_core ∙ get_put x.site.core.streams n opening in
    let below : (d : ℕ) (m : Link) → link_in w d ≡ Some m → m.replica ≡ r → m.stream ≤ x.site.core.opened =
    λ d m linked same. let peer = bound_some (λ (y : Peer). y.link) (finmap.get w.peers d) m linked in
    let there = fine.ups d peer.0 m peer.1 peer.2 in
    fine.counted r x.site x.has m.stream there.0
    (ap (λ o. option_and_then (λ (s : Site). finmap.get s.core.streams m.stream) o) (sym x.has) ∙ ap (λ k. stream_at w k m.stream) (sym same) ∙ there.1) in
    fair_peer w left all test c (connected_to p r n) (ap (λ y. y.peers) left_is ∙ ap (λ y. finmap.insert y c (connected_to p r n)) (same_peers w r e q x))
    (λ d m other linked. ap (λ y. stream_at y m.replica m.stream) left_is
    ∙ frame_at w r e q x m.replica m.stream (λ same opens. let le = below d m linked same in let at_end = some_is n m.stream opens in absurd (omega (arith, le, at_end))))
    (λ l z linked there. let is_l : next ≡ l = some_is next l linked in
    let is_z : opening ≡ z = some_is opening z (sym now ∙ (λ i. stream_at left ((is_l i).replica) ((is_l i).stream)) ∙ there) in
    subst (λ k. FairOn all test k z) is_l (subst (FairOn all test next) is_z (fair_opened p.kind all test p.client r n))) fair

-- ---- replicas alone

fair_quiet : (test : Test) (w left : World) (all : List TypedWrite) (r : ℕ) (e : Event) (q : Reply × World) → ((c : Core) → stream_changed c e ≡ None) → at_site w r e ≡ Some q → left.sites ≡ q.1.sites → left.peers ≡ w.peers → IsFairWorld all test w → IsFairWorld all test left
fair_quiet test w left all r e q quiet is sites peers fair =
    let x = at_site_is w r e q is in
    fair_sites w left all test peers
    (λ k m. ap (λ (s : FinMap nat_cmp Site). option_and_then (λ (y : Site). finmap.get y.core.streams m) (finmap.get s k)) sites ∙ frame_at w r e q x k m (λ same changes. never m (sym (quiet x.site.core) ∙ changes))) fair

fair_written : (test : Test) (w left : World) (all : List TypedWrite) (r : ℕ) (e : Event) → ((c : Core) → stream_changed c e ≡ None) → happened_at w r e ≡ Some left → IsFairWorld all test w → IsFairWorld all test left
fair_written test w left all r e quiet is fair =
    let made = mapped_some (λ p. p.1) (at_site w r e) left is in
    let x = at_site_is w r e made.0 made.1 in fair_quiet test w left all r e made.0 quiet made.1 (ap (λ y. y.sites) made.2) (ap (λ y. y.peers) made.2 ∙ same_peers w r e made.0 x) fair

fair_added : (test : Test) (w left : World) (all : List TypedWrite) (r : ℕ) → finmap.get w.sites r ≡ None → left ≡ record w { sites = finmap.insert w.sites r (record { core = fresh_core r; journal = [] }) } → IsFairWorld all test w → IsFairWorld all test left
fair_added test w left all r none is fair =
    fair_sites w left all test (ap (λ y. y.peers) is)
    (λ q m. ap (λ y. stream_at y q m) is
    ∙ elim (get-inserted nat_cmp_total nat_cmp-IsAntisymmetric w.sites r (record { core = fresh_core r; journal = [] }) q) [
      | inl here ↦
          ap (λ o. option_and_then (λ (s : Site). finmap.get s.core.streams m) o) here.1 ∙ finmap.get-empty nat_cmp m ∙ ap (λ o. option_and_then (λ (s : Site). finmap.get s.core.streams m) o) (sym none) ∙ ap (λ k. stream_at w k m) here.0
      | inr there ↦ ap (λ o. option_and_then (λ (s : Site). finmap.get s.core.streams m) o) there.1
    ]) fair

fair_joined : (test : Test) (w left : World) (all : List TypedWrite) (c : ℕ) (after : Peer) → after.link ≡ None → left ≡ with_peer w c after → IsFairWorld all test w → IsFairWorld all test left
fair_joined test w left all c after down is fair = fair_peer w left all test c after (ap (λ y. y.peers) is) (λ d m other linked. ap (λ y. stream_at y m.replica m.stream) is) (λ l z linked there. absurd (never l (sym down ∙ linked))) fair

-- ---- polls without a stream

fair_rest : (test : Test) (w left : World) (all : List TypedWrite) (c r : ℕ) (t : TypeName) (answer : AnswerFate) (x : IsRestPoll test w left c r t answer) → Fine w all → IsFairWorld all test w → IsFairWorld all test left
fair_rest test w left all c r t answer x fine fair =
    let e : Event = poll_event t x.request in
    let after : Peer = record x.peer { client = x.client } in
    let site = at_site_is w r e x.reply x.answers in
    fair_peer w left all test c after (ap (λ y. y.peers) x.after ∙ ap (λ y. finmap.insert y c after) (same_peers w r e x.reply site))
    (λ d m other linked. ap (λ y. stream_at y m.replica m.stream) x.after ∙ frame_at w r e x.reply site m.replica m.stream (λ same changes. never m.stream changes))
    (λ l z linked there. absurd (polls_unlinked test w left all c r t answer x fine l linked)) fair

-- ---- whatever happens

fair_happens : (test : Test) (w left : World) (all : List TypedWrite) (h : Happening) → happens test w h ≡ Some left → AllSitesKnown w all → Fine w all → IsFairWorld all test w → IsFairWorld all test left
fair_happens test w left all (AddReplica r) is known fine fair =
    let made = if_some (is_free w r) (record w { sites = finmap.insert w.sites r (record { core = fresh_core r; journal = [] }) }) left is in
    fair_added test w left all r (none_there (finmap.get w.sites r) (both_parts _ (is_none (finmap.get w.sites r)) made.0).1) made.1 fair
fair_happens test w left all (AddClient c kind cluster) is known fine fair = fair_joined test w left all c (new_peer c kind cluster) refl (if_some (is_none (finmap.get w.peers c)) (with_peer w c (new_peer c kind cluster)) left is).1 fair
fair_happens test w left all (Put r t body groups) is known fine fair = fair_written test w left all r (events.Put t body groups) (λ c. refl) is fair
fair_happens test w left all (Delete r t name) is known fine fair = fair_written test w left all r (events.Delete t name) (λ c. refl) is fair
fair_happens test w left all (Snapshot r) is known fine fair =
    let made = bound_some (pooled r) (at_site w r events.Snapshot) left is in
    let same = pooled_is r made.0.0 made.0.1 left made.2 in
    fair_quiet test w left all r events.Snapshot made.0 (λ c. refl) made.1 same.0 (same.1 ∙ same_peers w r events.Snapshot made.0 (at_site_is w r events.Snapshot made.0 made.1)) fair
fair_happens test w left all (Merge r b) is known fine fair =
    let place = bound_some (λ x. happened_at w r (events.Merge x.1)) (placed w.pool b) left is in fair_written test w left all r (events.Merge place.0.1) (λ c. refl) place.2 fair
fair_happens test w left all (Connect c r) is known fine fair =
    let peer = bound_some (λ p. if is_to_connect p then option_and_then (opened c r p) (at_site w r events.Open) else None) (finmap.get w.peers c) left is in
    let down = if_both (is_to_connect peer.0) (option_and_then (opened c r peer.0) (at_site w r events.Open)) left peer.2 in fair_connect test w left all c r peer.0 down.1 fine fair
fair_happens test w left all (Change c t wish) is known fine fair =
    let peer = bound_some (λ p. option_map (λ q. with_peer w c (changed p q)) (wish_taken p t wish)) (finmap.get w.peers c) left is in
    let made = mapped_some (λ q. with_peer w c (changed peer.0 q)) (wish_taken peer.0 t wish) left peer.2 in fair_wished test w left all c peer.0 t wish made.0 peer.0.link peer.1 refl made.1 made.2 fine fair
fair_happens test w left all (Up c) is known fine fair =
    let there = link_there w c (λ p l. up_taken w c p l l.up) left is in
    let s = spot_by w all c there.0 there.1 there.2 there.3 fine in fair_took test w left all c s s.link.up refl (at_spot w c (λ p l. up_taken w c p l l.up) left s is) fine fair
fair_happens test w left all (Poll c which) is known fine fair =
    let there = link_there w c (λ p l. option_and_then (polled c p l) (at_site w l.replica (events.Poll l.stream which))) left is in
    let s = spot_by w all c there.0 there.1 there.2 there.3 fine in
    fair_polled test w left all c s which known (at_spot w c (λ p l. option_and_then (polled c p l) (at_site w l.replica (events.Poll l.stream which))) left s is) fine fair
fair_happens test w left all (Down c) is known fine fair =
    let there = link_there w c (λ p l. down_taken test w c p l l.down) left is in
    let s = spot_by w all c there.0 there.1 there.2 there.3 fine in fair_given test w left all c s s.link.down refl (at_spot w c (λ p l. down_taken test w c p l l.down) left s is) fine fair
fair_happens test w left all (Lose c) is known fine fair =
    let there = link_there w c (λ p l. option_map (λ q. with_peer q.1 c (record p { client = unlinked p.client; link = None })) (at_site w l.replica (events.Close l.stream))) left is in
    let s = spot_by w all c there.0 there.1 there.2 there.3 fine in
    fair_lost test w left all c s (at_spot w c (λ p l. option_map (λ q. with_peer q.1 c (record p { client = unlinked p.client; link = None })) (at_site w l.replica (events.Close l.stream))) left s is) fine fair
fair_happens test w left all (RestPoll c r t answer) is known fine fair = fair_rest test w left all c r t answer (rest_poll_is test w left c r t answer is) fine fair

pub fair_step : (test : Test) (w left : World) (all : List TypedWrite) (h : Happening) → happens test w h ≡ Some left → AllSitesKnown w all → Fine w all → IsFairWorld all test w → IsFairWorld (all ++ made_now w h) test left
fair_step test w left all h is known fine fair c l x linked there cluster t = fair_more all (made_now w h) test t _ _ (fair_happens test w left all h is known fine fair c l x linked there cluster t)

pub fair_start : (test : Test) → IsFairWorld [] test empty_world
fair_start test c l x linked = absurd (never l (sym (ap (option_and_then (λ (p : Peer). p.link)) (finmap.get-empty nat_cmp c)) ∙ linked))
