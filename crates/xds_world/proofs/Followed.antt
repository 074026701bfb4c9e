-- Where clients are linked, of which cluster they are and what they want, as the list of happenings tells it, is so.
use Rattle.std.proofs.Common.{◌≡◌, ◌≢◌, inl, inr, ℕ, List, [], ◌∷◌, ◌++◌, Bool, true, false, Option, Some, None, refl, sym, ap, ◌∙◌}
use Rattle.std.specs.Prelude.{◌==◌, if◌then◌else◌, is_none, is_some, option_map}
use Rattle.std.specs.Option.{option_and_then, option_map_or}
use Rattle.std.specs.Ordering.{nat_cmp}
use Rattle.std.specs.Cmp.{nat_cmp_total}
use Rattle.std.specs.FinMap as finmap
use Rattle.std.specs.FinMap.{nat_cmp-IsAntisymmetric}
use Rattle.std.proofs.lemmas.Bool.Decides.{eqb_tells}
use Rattle.xds_resource.specs.declared.types.TypeName.{TypeName}
use Rattle.xds_resource.specs.Types.{types, is_same_type}
use Rattle.xds_resource.specs.PerType.{at, with_at}
use Rattle.xds_resource.proofs.TypesApart.{same_type, at-with_at, at-with_at_other, at-each}
use Rattle.xds_catalogue.proofs.Lookups.{get-inserted}
use Rattle.xds_message.specs.declared.draft.Draft.{Draft}
use Rattle.xds_core.specs.Streams.{Message}
use Rattle.xds_core.specs.Events as events
use Rattle.xds_core.specs.Events.{Event, Reply}
use Rattle.xds_cache.specs.Shelves.{Wants, Shelf, bare}
use Rattle.xds_cache.specs.Faults.{Test}
use Rattle.xds_cache.specs.Clients as clients
use Rattle.xds_cache.specs.Clients.{Client, shelf, with_shelf, unlinked, shelf_after, addressing}
use Rattle.xds_cache.specs.Sends.{is_greeted}
use Rattle.xds_cache.specs.Rest.{forgetting}
use Rattle.xds_script.specs.declared.event.ClientKind.{ClientKind}
use Rattle.xds_script.specs.declared.event.ClientKind.TheVariants.{Sotw, Delta, Rest}
use Rattle.xds_script.specs.declared.event.AnswerFate.{AnswerFate}
use Rattle.xds_script.specs.Happenings.{Happening, Wish, AddReplica, AddClient, Put, Delete, Snapshot, Merge, Connect, Change, Up, Poll, Down, Lose, RestPoll}
use Rattle.xds_world.specs.Worlds.{Site, Link, Peer, World, empty_world, at_site, happened_at, placed, pooled, with_peer, new_peer, connected_to, opened, with_request, changed, wish_of, wish_taken, under_way, polled, up_taken, received, taken_down, down_taken, is_free, has_streams, is_to_connect, poll_event, happens, after}
use Rattle.xds_world.specs.Knows.{wished, wishing, wanted_after, wants, placing, cluster_after, cluster as cluster_of, linking, linked_after, link}
use Rattle.xds_world.specs.Claims.{LinksAreFollowed}
use Rattle.xds_world.proofs.Replicas.{if_then, some_is, bound_some, mapped_some, if_some, none_there, IsRestPoll, rest_poll_is}
use Rattle.xds_world.proofs.LinkTakes.{received_wants, connected_shelf, lost_shelf}
use Rattle.xds_world.proofs.ByKind.{received_stays, wished_is, rest_wished, wished_stays}
use Rattle.xds_world.proofs.RestShelves.{answers_stay}
use Rattle.xds_world.proofs.Everyone.{at_site_is}
use Rattle.xds_world.proofs.EveryEvent.{link_there, same_peers, pooled_is, same_replica_on}

-- ---- looks at one client

module _ {Y : Type 0} (look : Option Peer → Y) (w left : World) (d : ℕ) (after : Peer) (peers : left.peers ≡ finmap.insert w.peers d after) (c : ℕ) where
  -- a client that changed nothing that is looked at
  kept_look : (before : Option Peer) → finmap.get w.peers d ≡ before → look (Some after) ≡ look before → look (finmap.get left.peers c) ≡ look (finmap.get w.peers c)
  kept_look before has same =
      ap (λ m. look (finmap.get m c)) peers
      ∙ elim (get-inserted nat_cmp_total nat_cmp-IsAntisymmetric w.peers d after c) [
        | inl here ↦ ap look here.1 ∙ same ∙ ap look (sym has) ∙ ap (λ n. look (finmap.get w.peers n)) here.0
        | inr other ↦ ap look other.1
      ]

  -- and one that did
  changed_look : (g : Y → Y) (before : Option Peer) → finmap.get w.peers d ≡ before → look (Some after) ≡ g (look before) → look (finmap.get left.peers c) ≡ (if d == c then g (look (finmap.get w.peers c)) else look (finmap.get w.peers c))
  changed_look g before has now =
      ap (λ m. look (finmap.get m c)) peers
      ∙ elim (get-inserted nat_cmp_total nat_cmp-IsAntisymmetric w.peers d after c) [
        | inl here ↦
            ap look here.1 ∙ now ∙ ap (λ o. g (look o)) (sym has) ∙ ap (λ n. g (look (finmap.get w.peers n))) here.0
            ∙ ap (λ b. if b then g (look (finmap.get w.peers c)) else look (finmap.get w.peers c)) (sym (is_same here.0))
        | inr other ↦ ap look other.1 ∙ ap (λ b. if b then g (look (finmap.get w.peers c)) else look (finmap.get w.peers c)) (sym (is_other other.0))
      ]
    where
      is_same : d ≡ c → (d == c) ≡ true
      is_same e = elim (eqb_tells d c) [ inl same ↦ same.0 | inr other ↦ absurd (other.1 e) ]

      is_other : d ≢ c → (d == c) ≡ false
      is_other e = elim (eqb_tells d c) [ inl same ↦ absurd (e same.1) | inr other ↦ other.0 ]

abbrev replica_of : Peer → Option ℕ
replica_of p = option_map (λ l. l.replica) p.link

-- the replica that a client is linked to
abbrev pub linked_to : Option Peer → Option ℕ
linked_to o = option_and_then replica_of o

-- what it wants of a type
abbrev pub wanted_of : TypeName → Option Peer → Wants
wanted_of t o = option_map_or (λ p. (shelf p.client t).wants) o finmap.empty

-- of which cluster it is
abbrev pub placed_of : Option Peer → List ℕ
placed_of o = option_map_or (λ p. p.client.cluster) o []

-- ---- what stays

-- a client that is where it was and wants what it wanted
pub record Stays (w left : World) (d : ℕ) : Type 0 where
  pub before : Peer
  pub after : Peer
  pub has : finmap.get w.peers d ≡ Some before
  pub peers : left.peers ≡ finmap.insert w.peers d after
  pub kind : after.kind ≡ before.kind
  pub replica : replica_of after ≡ replica_of before
  pub cluster : after.client.cluster ≡ before.client.cluster
  pub wants : (t : TypeName) → (shelf after.client t).wants ≡ (shelf before.client t).wants

up_stays : (w left : World) (d : ℕ) (p : Peer) (l : Link) (ms : List Message) → finmap.get w.peers d ≡ Some p → p.link ≡ Some l → up_taken w d p l ms ≡ Some left → Stays w left d
up_stays w left d p l [] has at_link is = absurd cc
up_stays w left d p l (m ∷ rest) has at_link is =
    let e : Event = events.Request l.stream m in
    let after : Peer = record p { link = Some (record l { up = rest }) } in
    let made = mapped_some (λ q. with_peer q.1 d after) (at_site w l.replica e) left is in
    record {
      before = p;
      after = after;
      has = has;
      peers = ap (λ y. y.peers) made.2 ∙ ap (λ y. finmap.insert y d after) (same_peers w l.replica e made.0 (at_site_is w l.replica e made.0 made.1));
      kind = refl;
      replica = ap (option_map (λ k. k.replica)) (sym at_link);
      cluster = refl;
      wants = λ t. refl;
    }

poll_stays : (w left : World) (d : ℕ) (p : Peer) (l : Link) (which : Option TypeName) → finmap.get w.peers d ≡ Some p → p.link ≡ Some l → option_and_then (polled d p l) (at_site w l.replica (events.Poll l.stream which)) ≡ Some left → Stays w left d
poll_stays w left d p l which has at_link is =
    let e : Event = events.Poll l.stream which in
    let made = bound_some (polled d p l) (at_site w l.replica e) left is in
    let polls = poll_peer d p l made.0.0 made.0.1 left made.2 in
    record {
      before = p;
      after = record p { link = Some (record l { down = polls.0 }) };
      has = has;
      peers = ap (λ y. y.peers) polls.1 ∙ ap (λ y. finmap.insert y d (record p { link = Some (record l { down = polls.0 }) })) (same_peers w l.replica e made.0 (at_site_is w l.replica e made.0 made.1));
      kind = refl;
      replica = ap (option_map (λ k. k.replica)) (sym at_link);
      cluster = refl;
      wants = λ t. refl;
    }
  where
    poll_peer : (d : ℕ) (p : Peer) (l : Link) (reply : Reply) (x left : World) → polled d p l (reply, x) ≡ Some left → (ds : List Draft) × (left ≡ with_peer x d (record p { link = Some (record l { down = ds }) }))
    poll_peer d p l (events.Polled o) x left is = (l.down ++ under_way o, sym (some_is _ left is))
    poll_peer d p l (events.Opened n) x left is = absurd cc
    poll_peer d p l (events.Answered o) x left is = absurd cc
    poll_peer d p l (events.Owed o) x left is = absurd cc
    poll_peer d p l events.Closed x left is = absurd cc
    poll_peer d p l (events.Written n m) x left is = absurd cc
    poll_peer d p l (events.Merged n) x left is = absurd cc
    poll_peer d p l (events.Entries b) x left is = absurd cc
    poll_peer d p l (events.Rested o) x left is = absurd cc
    poll_peer d p l (events.Changed b marks) x left is = absurd cc

down_stays : (test : Test) (w left : World) (d : ℕ) (p : Peer) (l : Link) (ds : List Draft) → finmap.get w.peers d ≡ Some p → p.link ≡ Some l → down_taken test w d p l ds ≡ Some left → Stays w left d
down_stays test w left d p l [] has at_link is = absurd cc
down_stays test w left d p l (x ∷ rest) has at_link is =
    let made = mapped_some (λ q. with_peer w d (taken_down p l rest q)) (received test p x) left is in
    record {
      before = p;
      after = taken_down p l rest made.0;
      has = has;
      peers = ap (λ y. y.peers) made.2;
      kind = refl;
      replica = ap (option_map (λ k. k.replica)) (sym at_link);
      cluster = (received_stays p.kind test p.client x made.0 made.1).0;
      wants = λ t. received_wants p.kind test p.client x made.0 t made.1;
    }

rest_stays : (test : Test) (w left : World) (d r : ℕ) (t : TypeName) (answer : AnswerFate) → IsRestPoll test w left d r t answer → Stays w left d
rest_stays test w left d r t answer x =
    let e : Event = poll_event t x.request in
    let after : Peer = record x.peer { client = x.client } in
    let same = answers_stay test answer x.peer.client t x.draft x.client x.takes in
    record {
      before = x.peer;
      after = after;
      has = x.has;
      peers = ap (λ y. y.peers) x.after ∙ ap (λ y. finmap.insert y d after) (same_peers w r e x.reply (at_site_is w r e x.reply x.answers));
      kind = refl;
      replica = refl;
      cluster = same.cluster;
      wants = same.wants;
    }

-- ---- what comes

-- a client that came to a stream, or to the end of it, or wants something else
pub record Comes (w left : World) (d : ℕ) : Type 0 where
  pub before : Peer
  pub after : Peer
  pub has : finmap.get w.peers d ≡ Some before
  pub peers : left.peers ≡ finmap.insert w.peers d after
  pub kind : after.kind ≡ before.kind

pub connected_comes : (test : Test) (w left : World) (d r : ℕ) → happens test w (Connect d r) ≡ Some left → (x : Comes w left d) × (replica_of x.after ≡ Some r) × (x.after.client.cluster ≡ x.before.client.cluster) × ((t : TypeName) → (shelf x.after.client t).wants ≡ (shelf x.before.client t).wants)
connected_comes test w left d r is =
    let peer = bound_some (λ p. if is_to_connect p then option_and_then (opened d r p) (at_site w r events.Open) else None) (finmap.get w.peers d) left is in
    let p = peer.0 in
    let made = bound_some (opened d r p) (at_site w r events.Open) left (if_then (is_to_connect p) (option_and_then (opened d r p) (at_site w r events.Open)) left peer.2) in
    let opens = opened_peer p made.0.0 made.0.1 left made.2 in (
      record { before = p; after = connected_to p r opens.0; has = peer.1; peers = ap (λ y. y.peers) opens.1 ∙ ap (λ y. finmap.insert y d (connected_to p r opens.0)) (same_peers w r events.Open made.0 (at_site_is w r events.Open made.0 made.1)); kind = refl },
      refl,
      refl,
      λ t. ap (λ (f : Shelf). f.wants) (connected_shelf p.client (is_greeted p.client false types) t),
    )
  where
    opened_peer : (p : Peer) (reply : Reply) (x y : World) → opened d r p (reply, x) ≡ Some y → (n : ℕ) × (y ≡ with_peer x d (connected_to p r n))
    opened_peer p (events.Opened n) x y e = (n, sym (some_is _ y e))
    opened_peer p (events.Answered o) x y e = absurd cc
    opened_peer p (events.Polled o) x y e = absurd cc
    opened_peer p (events.Owed o) x y e = absurd cc
    opened_peer p events.Closed x y e = absurd cc
    opened_peer p (events.Written n m) x y e = absurd cc
    opened_peer p (events.Merged n) x y e = absurd cc
    opened_peer p (events.Entries b) x y e = absurd cc
    opened_peer p (events.Rested o) x y e = absurd cc
    opened_peer p (events.Changed b marks) x y e = absurd cc

pub lost_comes : (test : Test) (w left : World) (d : ℕ) → happens test w (Lose d) ≡ Some left → (x : Comes w left d) × (replica_of x.after ≡ None) × (x.after.client.cluster ≡ x.before.client.cluster) × ((t : TypeName) → (shelf x.after.client t).wants ≡ (shelf x.before.client t).wants)
lost_comes test w left d is =
    let at_link = link_there w d (λ p l. option_map (λ q. with_peer q.1 d (record p { client = unlinked p.client; link = None })) (at_site w l.replica (events.Close l.stream))) left is in
    let p = at_link.0 in
    let e : Event = events.Close at_link.1.stream in
    let after : Peer = record p { client = unlinked p.client; link = None } in
    let made = mapped_some (λ q. with_peer q.1 d after) (at_site w at_link.1.replica e) left at_link.4 in (
      record { before = p; after = after; has = at_link.2; peers = ap (λ y. y.peers) made.2 ∙ ap (λ y. finmap.insert y d after) (same_peers w at_link.1.replica e made.0 (at_site_is w at_link.1.replica e made.0 made.1)); kind = refl },
      refl,
      refl,
      λ t. ap (λ (f : Shelf). f.wants) (lost_shelf p.client t),
    )

-- what a client wants of each type once a shelf was put
put_wanted : (s : TypeName) (f : Shelf) (c : Client) (t : TypeName) → (shelf (with_shelf c s f) t).wants ≡ (if is_same_type s t then f.wants else (shelf c t).wants)
put_wanted s f c t =
    elim (same_type s t) [
      | inl equal ↦ ap (λ r. (at (with_at c.shelves s f) r).wants) (sym equal.0) ∙ ap (λ (x : Shelf). x.wants) (at-with_at c.shelves s f) ∙ ap (λ b. if b then f.wants else (shelf c t).wants) (sym equal.1)
      | inr other ↦ ap (λ (x : Shelf). x.wants) (at-with_at_other c.shelves s f t (λ e. other.0 (sym e))) ∙ ap (λ b. if b then f.wants else (shelf c t).wants) (sym other.1)
    ]

-- and after a change
wanted_changed : (up : Bool) (s : TypeName) (w : Wants) (c : Client) (t : TypeName) → (shelf (clients.changed up s w c) t).wants ≡ (if is_same_type s t then w else (shelf c t).wants)
wanted_changed up s w c t = put_wanted s (shelf_after up s w c) c t

-- a change of one list, and of two
same_wanted : (s t : TypeName) (c : Client) (wish : Wish) → (if is_same_type s t then wished wish (shelf c s).wants else (shelf c t).wants) ≡ (if is_same_type s t then wished wish (shelf c t).wants else (shelf c t).wants)
same_wanted s t c wish =
    elim (same_type s t) [
      | inl equal ↦ ap (λ r. if is_same_type s t then wished wish (shelf c r).wants else (shelf c t).wants) equal.0
      | inr other ↦ ap (λ b. if b then wished wish (shelf c s).wants else (shelf c t).wants) other.1 ∙ ap (λ b. if b then wished wish (shelf c t).wants else (shelf c t).wants) (sym other.1)
    ]

kept_wished : (k : ClientKind) → has_streams k ≡ true → (p : Peer) (up : Bool) (s : TypeName) (wish : Wish) (q : Client × Option Message) (t : TypeName) → wish_of k p up s wish ≡ Some q
    → (shelf q.0 t).wants ≡ (if is_same_type s t then wished wish (shelf p.client s).wants else (shelf p.client t).wants)
kept_wished k has p up s wish q t is = ap (λ (c : Client). (shelf c t).wants) (wished_is k has p up s wish q is).left ∙ wanted_changed up s (wished wish (shelf p.client s).wants) p.client t

wished_wants : (k : ClientKind) (p : Peer) (up : Bool) (s : TypeName) (wish : Wish) (q : Client × Option Message) (t : TypeName) → wish_of k p up s wish ≡ Some q
    → (shelf q.0 t).wants ≡ (if is_same_type s t then wished wish (shelf p.client t).wants else (shelf p.client t).wants)
wished_wants Sotw p up s wish q t is = kept_wished Sotw refl p up s wish q t is ∙ same_wanted s t p.client wish
wished_wants Delta p up s wish q t is = kept_wished Delta refl p up s wish q t is ∙ same_wanted s t p.client wish
wished_wants Rest p up s wish q t is =
    let w : Wants = wished wish (shelf p.client s).wants in
    ap (λ (x : Client × Option Message). (shelf x.0 t).wants) (rest_wished p up s wish q is) ∙ put_wanted s (forgetting s w (shelf p.client s)) p.client t ∙ same_wanted s t p.client wish

changed_comes : (test : Test) (w left : World) (d : ℕ) (s : TypeName) (wish : Wish) → happens test w (Change d s wish) ≡ Some left
    → (x : Comes w left d) × (replica_of x.after ≡ replica_of x.before) × (x.after.client.cluster ≡ x.before.client.cluster) × ((t : TypeName) → (shelf x.after.client t).wants ≡ (if is_same_type s t then wished wish (shelf x.before.client t).wants else (shelf x.before.client t).wants))
changed_comes test w left d s wish is =
    let peer = bound_some (λ p. option_map (λ q. with_peer w d (changed p q)) (wish_taken p s wish)) (finmap.get w.peers d) left is in
    let p = peer.0 in
    let made = mapped_some (λ q. with_peer w d (changed p q)) (wish_taken p s wish) left peer.2 in
    (record { before = p; after = changed p made.0; has = peer.1; peers = ap (λ y. y.peers) made.2; kind = refl }, same_place made.0.1 p.link, (wished_stays p.kind p (is_some p.link) s wish made.0 made.1).0, λ t. wished_wants p.kind p (is_some p.link) s wish made.0 t made.1)
  where
    same_place : (o : Option Message) (l : Option Link) → option_map (λ k. k.replica) (option_map (with_request o) l) ≡ option_map (λ k. k.replica) l
    same_place o None = refl
    same_place o (Some l) = ap Some (same_replica_on o l)

pub written_peers : (w left : World) (r : ℕ) (e : Event) → happened_at w r e ≡ Some left → left.peers ≡ w.peers
written_peers w left r e is = let made = mapped_some (λ p. p.1) (at_site w r e) left is in ap (λ y. y.peers) made.2 ∙ same_peers w r e made.0 (at_site_is w r e made.0 made.1)

pub pooled_peers : (w left : World) (r : ℕ) → option_and_then (pooled r) (at_site w r events.Snapshot) ≡ Some left → left.peers ≡ w.peers
pooled_peers w left r is =
    let made = bound_some (pooled r) (at_site w r events.Snapshot) left is in
    (pooled_is r made.0.0 made.0.1 left made.2).1 ∙ same_peers w r events.Snapshot made.0 (at_site_is w r events.Snapshot made.0 made.1)

pub merged_peers : (w left : World) (r b : ℕ) → option_and_then (λ x. happened_at w r (events.Merge x.1)) (placed w.pool b) ≡ Some left → left.peers ≡ w.peers
merged_peers w left r b is = let place = bound_some (λ x. happened_at w r (events.Merge x.1)) (placed w.pool b) left is in written_peers w left r (events.Merge place.0.1) place.2

pub added_peers : (w left : World) (r : ℕ) (s : Site) → (if is_free w r then Some (record w { sites = finmap.insert w.sites r s }) else None) ≡ Some left → left.peers ≡ w.peers
added_peers w left r s is = ap (λ y. y.peers) (if_some (is_free w r) (record w { sites = finmap.insert w.sites r s }) left is).1

-- ---- step by step

stays_link : (w left : World) (d c : ℕ) → Stays w left d → linked_to (finmap.get left.peers c) ≡ linked_to (finmap.get w.peers c)
stays_link w left d c x = kept_look linked_to w left d x.after x.peers c (Some x.before) x.has x.replica

stays_wants : (w left : World) (d c : ℕ) (t : TypeName) → Stays w left d → wanted_of t (finmap.get left.peers c) ≡ wanted_of t (finmap.get w.peers c)
stays_wants w left d c t x = kept_look (wanted_of t) w left d x.after x.peers c (Some x.before) x.has (x.wants t)

stays_cluster : (w left : World) (d c : ℕ) → Stays w left d → placed_of (finmap.get left.peers c) ≡ placed_of (finmap.get w.peers c)
stays_cluster w left d c x = kept_look placed_of w left d x.after x.peers c (Some x.before) x.has x.cluster

pub joined_is : (w left : World) (d : ℕ) (kind : ClientKind) (cluster : List ℕ) → (if is_none (finmap.get w.peers d) then Some (with_peer w d (new_peer d kind cluster)) else None) ≡ Some left → (finmap.get w.peers d ≡ None) × (left.peers ≡ finmap.insert w.peers d (new_peer d kind cluster))
joined_is w left d kind cluster is = let made = if_some (is_none (finmap.get w.peers d)) (with_peer w d (new_peer d kind cluster)) left is in (none_there (finmap.get w.peers d) made.0, ap (λ y. y.peers) made.1)

pub up_of : (test : Test) (w left : World) (d : ℕ) → happens test w (Up d) ≡ Some left → Stays w left d
up_of test w left d is = let at_link = link_there w d (λ p l. up_taken w d p l l.up) left is in up_stays w left d at_link.0 at_link.1 at_link.1.up at_link.2 at_link.3 at_link.4

pub poll_of : (test : Test) (w left : World) (d : ℕ) (which : Option TypeName) → happens test w (Poll d which) ≡ Some left → Stays w left d
poll_of test w left d which is = let at_link = link_there w d (λ p l. option_and_then (polled d p l) (at_site w l.replica (events.Poll l.stream which))) left is in poll_stays w left d at_link.0 at_link.1 which at_link.2 at_link.3 at_link.4

pub down_of : (test : Test) (w left : World) (d : ℕ) → happens test w (Down d) ≡ Some left → Stays w left d
down_of test w left d is = let at_link = link_there w d (λ p l. down_taken test w d p l l.down) left is in down_stays test w left d at_link.0 at_link.1 at_link.1.down at_link.2 at_link.3 at_link.4

link_step : (test : Test) (w left : World) (c : ℕ) (h : Happening) → happens test w h ≡ Some left → linked_to (finmap.get left.peers c) ≡ linking c h (linked_to (finmap.get w.peers c))
link_step test w left c (AddReplica r) is = ap (λ m. linked_to (finmap.get m c)) (added_peers w left r _ is)
link_step test w left c (AddClient d kind cluster) is = let made = joined_is w left d kind cluster is in kept_look linked_to w left d (new_peer d kind cluster) made.1 c None made.0 refl
link_step test w left c (Put r t body groups) is = ap (λ m. linked_to (finmap.get m c)) (written_peers w left r (events.Put t body groups) is)
link_step test w left c (Delete r t name) is = ap (λ m. linked_to (finmap.get m c)) (written_peers w left r (events.Delete t name) is)
link_step test w left c (Snapshot r) is = ap (λ m. linked_to (finmap.get m c)) (pooled_peers w left r is)
link_step test w left c (Merge r b) is = ap (λ m. linked_to (finmap.get m c)) (merged_peers w left r b is)
link_step test w left c (Connect d r) is = let x = connected_comes test w left d r is in changed_look linked_to w left d x.0.after x.0.peers c (λ o. Some r) (Some x.0.before) x.0.has x.1
link_step test w left c (Change d s wish) is = let x = changed_comes test w left d s wish is in kept_look linked_to w left d x.0.after x.0.peers c (Some x.0.before) x.0.has x.1
link_step test w left c (Up d) is = stays_link w left d c (up_of test w left d is)
link_step test w left c (Poll d which) is = stays_link w left d c (poll_of test w left d which is)
link_step test w left c (Down d) is = stays_link w left d c (down_of test w left d is)
link_step test w left c (RestPoll d r t answer) is = stays_link w left d c (rest_stays test w left d r t answer (rest_poll_is test w left d r t answer is))
link_step test w left c (Lose d) is = let x = lost_comes test w left d is in changed_look linked_to w left d x.0.after x.0.peers c (λ o. None) (Some x.0.before) x.0.has x.1

wants_step : (test : Test) (w left : World) (c : ℕ) (t : TypeName) (h : Happening) → happens test w h ≡ Some left → wanted_of t (finmap.get left.peers c) ≡ wishing c t h (wanted_of t (finmap.get w.peers c))
wants_step test w left c t (AddReplica r) is = ap (λ m. wanted_of t (finmap.get m c)) (added_peers w left r _ is)
wants_step test w left c t (AddClient d kind cluster) is = let made = joined_is w left d kind cluster is in kept_look (wanted_of t) w left d (new_peer d kind cluster) made.1 c None made.0 (ap (λ (f : Shelf). f.wants) (at-each bare t))
wants_step test w left c t (Put r s body groups) is = ap (λ m. wanted_of t (finmap.get m c)) (written_peers w left r (events.Put s body groups) is)
wants_step test w left c t (Delete r s name) is = ap (λ m. wanted_of t (finmap.get m c)) (written_peers w left r (events.Delete s name) is)
wants_step test w left c t (Snapshot r) is = ap (λ m. wanted_of t (finmap.get m c)) (pooled_peers w left r is)
wants_step test w left c t (Merge r b) is = ap (λ m. wanted_of t (finmap.get m c)) (merged_peers w left r b is)
wants_step test w left c t (Connect d r) is = let x = connected_comes test w left d r is in kept_look (wanted_of t) w left d x.0.after x.0.peers c (Some x.0.before) x.0.has (x.3 t)
wants_step test w left c t (Change d s wish) is = let x = changed_comes test w left d s wish is in changed_look (wanted_of t) w left d x.0.after x.0.peers c (λ before. if is_same_type s t then wished wish before else before) (Some x.0.before) x.0.has (x.3 t)
wants_step test w left c t (Up d) is = stays_wants w left d c t (up_of test w left d is)
wants_step test w left c t (Poll d which) is = stays_wants w left d c t (poll_of test w left d which is)
wants_step test w left c t (Down d) is = stays_wants w left d c t (down_of test w left d is)
wants_step test w left c t (RestPoll d r s answer) is = stays_wants w left d c t (rest_stays test w left d r s answer (rest_poll_is test w left d r s answer is))
wants_step test w left c t (Lose d) is = let x = lost_comes test w left d is in kept_look (wanted_of t) w left d x.0.after x.0.peers c (Some x.0.before) x.0.has (x.3 t)

cluster_step : (test : Test) (w left : World) (c : ℕ) (h : Happening) → happens test w h ≡ Some left → placed_of (finmap.get left.peers c) ≡ placing c h (placed_of (finmap.get w.peers c))
cluster_step test w left c (AddReplica r) is = ap (λ m. placed_of (finmap.get m c)) (added_peers w left r _ is)
cluster_step test w left c (AddClient d kind cluster) is = let made = joined_is w left d kind cluster is in changed_look placed_of w left d (new_peer d kind cluster) made.1 c (λ o. cluster) None made.0 refl
cluster_step test w left c (Put r t body groups) is = ap (λ m. placed_of (finmap.get m c)) (written_peers w left r (events.Put t body groups) is)
cluster_step test w left c (Delete r t name) is = ap (λ m. placed_of (finmap.get m c)) (written_peers w left r (events.Delete t name) is)
cluster_step test w left c (Snapshot r) is = ap (λ m. placed_of (finmap.get m c)) (pooled_peers w left r is)
cluster_step test w left c (Merge r b) is = ap (λ m. placed_of (finmap.get m c)) (merged_peers w left r b is)
cluster_step test w left c (Connect d r) is = let x = connected_comes test w left d r is in kept_look placed_of w left d x.0.after x.0.peers c (Some x.0.before) x.0.has x.2
cluster_step test w left c (Change d s wish) is = let x = changed_comes test w left d s wish is in kept_look placed_of w left d x.0.after x.0.peers c (Some x.0.before) x.0.has x.2
cluster_step test w left c (Up d) is = stays_cluster w left d c (up_of test w left d is)
cluster_step test w left c (Poll d which) is = stays_cluster w left d c (poll_of test w left d which is)
cluster_step test w left c (Down d) is = stays_cluster w left d c (down_of test w left d is)
cluster_step test w left c (RestPoll d r t answer) is = stays_cluster w left d c (rest_stays test w left d r t answer (rest_poll_is test w left d r t answer is))
cluster_step test w left c (Lose d) is = let x = lost_comes test w left d is in kept_look placed_of w left d x.0.after x.0.peers c (Some x.0.before) x.0.has x.2

-- ---- whatever list of happenings

link_or : (test : Test) (w : World) (c : ℕ) (h : Happening) (hs : List Happening) (o : Option World) → happens test w h ≡ o → ((x : World) → linked_after test x c (linked_to (finmap.get x.peers c)) hs ≡ linked_to (finmap.get (after test x hs).peers c))
    → option_map_or (λ x. linked_after test x c (linking c h (linked_to (finmap.get w.peers c))) hs) o (linked_after test w c (linked_to (finmap.get w.peers c)) hs) ≡ linked_to (finmap.get (after test (option_map_or (λ x. x) o w) hs).peers c)
link_or test w c h hs None is later = later w
link_or test w c h hs (Some x) is later = ap (λ o. linked_after test x c o hs) (sym (link_step test w x c h is)) ∙ later x

link_after : (test : Test) (hs : List Happening) (c : ℕ) (w : World) → linked_after test w c (linked_to (finmap.get w.peers c)) hs ≡ linked_to (finmap.get (after test w hs).peers c)
link_after test [] c w = refl
link_after test (h ∷ hs) c w = link_or test w c h hs (happens test w h) refl (link_after test hs c)

wants_or : (test : Test) (w : World) (c : ℕ) (t : TypeName) (h : Happening) (hs : List Happening) (o : Option World) → happens test w h ≡ o → ((x : World) → wanted_after test x c t (wanted_of t (finmap.get x.peers c)) hs ≡ wanted_of t (finmap.get (after test x hs).peers c))
    → option_map_or (λ x. wanted_after test x c t (wishing c t h (wanted_of t (finmap.get w.peers c))) hs) o (wanted_after test w c t (wanted_of t (finmap.get w.peers c)) hs) ≡ wanted_of t (finmap.get (after test (option_map_or (λ x. x) o w) hs).peers c)
wants_or test w c t h hs None is later = later w
wants_or test w c t h hs (Some x) is later = ap (λ o. wanted_after test x c t o hs) (sym (wants_step test w x c t h is)) ∙ later x

wanting_after : (test : Test) (hs : List Happening) (c : ℕ) (t : TypeName) (w : World) → wanted_after test w c t (wanted_of t (finmap.get w.peers c)) hs ≡ wanted_of t (finmap.get (after test w hs).peers c)
wanting_after test [] c t w = refl
wanting_after test (h ∷ hs) c t w = wants_or test w c t h hs (happens test w h) refl (wanting_after test hs c t)

cluster_or : (test : Test) (w : World) (c : ℕ) (h : Happening) (hs : List Happening) (o : Option World) → happens test w h ≡ o → ((x : World) → cluster_after test x c (placed_of (finmap.get x.peers c)) hs ≡ placed_of (finmap.get (after test x hs).peers c))
    → option_map_or (λ x. cluster_after test x c (placing c h (placed_of (finmap.get w.peers c))) hs) o (cluster_after test w c (placed_of (finmap.get w.peers c)) hs) ≡ placed_of (finmap.get (after test (option_map_or (λ x. x) o w) hs).peers c)
cluster_or test w c h hs None is later = later w
cluster_or test w c h hs (Some x) is later = ap (λ o. cluster_after test x c o hs) (sym (cluster_step test w x c h is)) ∙ later x

placing_after : (test : Test) (hs : List Happening) (c : ℕ) (w : World) → cluster_after test w c (placed_of (finmap.get w.peers c)) hs ≡ placed_of (finmap.get (after test w hs).peers c)
placing_after test [] c w = refl
placing_after test (h ∷ hs) c w = cluster_or test w c h hs (happens test w h) refl (placing_after test hs c)

-- where a client is linked, of which cluster it is, and what it wants
pub link_is : (test : Test) (hs : List Happening) (c : ℕ) → link test hs c ≡ linked_to (finmap.get (after test empty_world hs).peers c)
link_is test hs c = ap (λ o. linked_after test empty_world c (linked_to o) hs) (sym (finmap.get-empty nat_cmp c)) ∙ link_after test hs c empty_world

pub cluster_is : (test : Test) (hs : List Happening) (c : ℕ) → cluster_of test hs c ≡ placed_of (finmap.get (after test empty_world hs).peers c)
cluster_is test hs c = ap (λ o. cluster_after test empty_world c (placed_of o) hs) (sym (finmap.get-empty nat_cmp c)) ∙ placing_after test hs c empty_world

pub wants_are : (test : Test) (hs : List Happening) (c : ℕ) (t : TypeName) → wants test hs c t ≡ wanted_of t (finmap.get (after test empty_world hs).peers c)
wants_are test hs c t = ap (λ o. wanted_after test empty_world c t (wanted_of t o) hs) (sym (finmap.get-empty nat_cmp c)) ∙ wanting_after test hs c t empty_world

pub links_are_followed : (test : Test) (hs : List Happening) → LinksAreFollowed test hs
links_are_followed test hs c p has = (link_is test hs c ∙ ap linked_to has, cluster_is test hs c ∙ ap placed_of has, λ t. wants_are test hs c t ∙ ap (wanted_of t) has)
