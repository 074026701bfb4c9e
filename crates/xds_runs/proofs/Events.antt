-- What happens in a run happens in the one world.
use Rattle.std.proofs.Common.{◌≡◌, ℕ, zero, suc, List, [], ◌∷◌, ◌++◌, false, Option, Some, None, refl, sym, ap, subst, ◌∙◌, append_assoc}
use Rattle.std.specs.Prelude.{if◌then◌else◌, is_none, option_map}
use Rattle.std.specs.Option.{option_and_then}
use Rattle.std.specs.FinMap as finmap
use Rattle.xds_resource.specs.declared.types.TypeName.{TypeName}
use Rattle.xds_message.specs.declared.draft.Draft.{Draft}
use Rattle.xds_core.specs.Stores.{Store}
use Rattle.xds_core.specs.Streams.{Message}
use Rattle.xds_core.specs.Events as events
use Rattle.xds_core.specs.Events.{Event, Request, Reply, Opened, Answered, Polled, Owed, Closed, Written, Merged, Entries, Rested, Changed}
use Rattle.xds_cache.specs.Clients.{unlinked}
use Rattle.xds_cache.specs.Faults.{Test}
use Rattle.xds_script.specs.declared.event.ClientKind.{ClientKind}
use Rattle.xds_script.specs.declared.event.AnswerFate.{AnswerFate}
use Rattle.xds_script.specs.Happenings.{Happening, Wish, AddReplica, AddClient, Put, Delete, Snapshot, Merge, Connect, Change, Up, Poll, Down, Lose, RestPoll, PutsAResource}
use Rattle.xds_world.specs.Worlds.{Link, Peer, World, at_site, happened_at, placed, pooled, with_peer, new_peer, connected_to, opened, changed, wish_taken, under_way, polled, up_taken, received, taken_down, down_taken, on_link, is_to_connect, poll_event, rested, rest_polled, happens}
use Rattle.xds_world.proofs.Replicas.{some_is, never, mapped_some, bound_some, if_some, if_both, on_link_some, rest_poll_is}
use Rattle.xds_runs.specs.Runs.{brings_a_replica}
use Rattle.xds_runs.proofs.Within.{Sites, Pool, wide, Within, answers_there, more, placed_behind, none_at_zero}

-- what a client that is up makes happen
pub on_link_is : (w : World) (c : ℕ) (f : Peer → Link → Option World) (p : Peer) (l : Link) → finmap.get w.peers c ≡ Some p → p.link ≡ Some l → on_link w c f ≡ f p l
on_link_is w c f p l has linked = ap (option_and_then (λ q. option_and_then (f q) q.link)) has ∙ ap (option_and_then (f p)) linked

module _ (store : ℕ) (taken : List ℕ) (stored : Store) where
  -- what happens in the run as this, in the one world, and what is left there
  pub record HappensThere (test : Test) (left : World) (whole : World) : Type 0 where
    pub one : Happening
    pub puts : PutsAResource one
    pub after : Sites
    pub pool : Pool
    pub happened : happens test whole one ≡ Some (wide left after pool)
    pub inside : Within store taken stored left.sites left.pool after pool

  -- ---- events of one replica

  record EventThere (w left : World) (sites : Sites) (pool : Pool) (r : ℕ) (e : Event) : Type 0 where
    after : Sites
    happened : happened_at (wide w sites pool) r e ≡ Some (wide left after pool)
    inside : Within store taken stored left.sites left.pool after pool

  event_there : (w left : World) (sites : Sites) (pool : Pool) (r : ℕ) (e : Event) → happened_at w r e ≡ Some left → Within store taken stored w.sites w.pool sites pool → EventThere w left sites pool r e
  event_there w left sites pool r e is x =
      let made = mapped_some (λ p. p.1) (at_site w r e) left is in
      let there = answers_there store taken stored w sites pool r e made.0 made.1 x in
      subst (λ v. EventThere w v sites pool r e) (sym made.2) (record { after = there.after; happened = ap (option_map (λ p. p.1)) there.answers; inside = there.inside })

  merge_there : (test : Test) (w left : World) (sites : Sites) (pool : Pool) (r b : ℕ) → happens test w (Merge r b) ≡ Some left → Within store taken stored w.sites w.pool sites pool → HappensThere test left (wide w sites pool)
  merge_there test w left sites pool r zero is x =
      let place = bound_some (λ y. happened_at w r (events.Merge y.1)) (placed w.pool zero) left is in
      absurd (never place.0 (sym (none_at_zero w.pool) ∙ place.1))
  merge_there test w left sites pool r (suc k) is x =
      let place = bound_some (λ y. happened_at w r (events.Merge y.1)) (placed w.pool (suc k)) left is in
      let made = event_there w left sites pool r (events.Merge place.0.1) place.2 x in
      record {
        one = Merge r (suc (more x.earlier k));
        puts = tt;
        after = made.after;
        pool = pool;
        happened = ap (λ l. option_and_then (λ y. happened_at (wide w sites pool) r (events.Merge y.1)) (placed l (suc (more x.earlier k)))) x.later
            ∙ ap (option_and_then (λ y. happened_at (wide w sites pool) r (events.Merge y.1))) (placed_behind x.earlier w.pool k ∙ place.1) ∙ made.happened;
        inside = made.inside;
      }

  pooled_there : (r : ℕ) (reply : Reply) (v left : World) (sites : Sites) (pool : Pool) → pooled r (reply, v) ≡ Some left → Within store taken stored v.sites v.pool sites pool
      → (now : Pool) × (pooled r (reply, wide v sites pool) ≡ Some (wide left sites now)) × Within store taken stored left.sites left.pool sites now
  pooled_there r (Entries b) v left sites pool is x =
      subst (λ u. (now : Pool) × (pooled r (Entries b, wide v sites pool) ≡ Some (wide u sites now)) × Within store taken stored u.sites u.pool sites now) (some_is _ _ is) (
        pool ++ (r, b) ∷ [],
        refl,
        record { here = x.here; apart = x.apart; among = x.among; earlier = x.earlier; later = ap (λ l. l ++ (r, b) ∷ []) x.later ∙ append_assoc x.earlier v.pool ((r, b) ∷ []); keeper = x.keeper; keeps = x.keeps; holds = x.holds },
      )
  pooled_there r (Opened n) v left sites pool is x = absurd cc
  pooled_there r (Answered o) v left sites pool is x = absurd cc
  pooled_there r (Polled o) v left sites pool is x = absurd cc
  pooled_there r (Owed o) v left sites pool is x = absurd cc
  pooled_there r Closed v left sites pool is x = absurd cc
  pooled_there r (Written n m) v left sites pool is x = absurd cc
  pooled_there r (Merged n) v left sites pool is x = absurd cc
  pooled_there r (Rested o) v left sites pool is x = absurd cc
  pooled_there r (Changed b marks) v left sites pool is x = absurd cc

  -- ---- events of a replica that a client has a part in

  abbrev IsThere : (Reply × World → Option World) → (Reply × World → Option World) → Reply → Type 0
  IsThere f g reply = (v left : World) (sites : Sites) (pool : Pool) → f (reply, v) ≡ Some left → Within store taken stored v.sites v.pool sites pool
      → (g (reply, wide v sites pool) ≡ Some (wide left sites pool)) × Within store taken stored left.sites left.pool sites pool

  opened_there : (c r : ℕ) (p : Peer) (reply : Reply) → IsThere (opened c r p) (opened c r p) reply
  opened_there c r p (Opened n) v left sites pool is x =
      subst (λ u. (opened c r p (Opened n, wide v sites pool) ≡ Some (wide u sites pool)) × Within store taken stored u.sites u.pool sites pool) (some_is (with_peer v c (connected_to p r n)) left is) (refl, x)
  opened_there c r p (Answered o) v left sites pool is x = absurd cc
  opened_there c r p (Polled o) v left sites pool is x = absurd cc
  opened_there c r p (Owed o) v left sites pool is x = absurd cc
  opened_there c r p Closed v left sites pool is x = absurd cc
  opened_there c r p (Written n m) v left sites pool is x = absurd cc
  opened_there c r p (Merged n) v left sites pool is x = absurd cc
  opened_there c r p (Entries b) v left sites pool is x = absurd cc
  opened_there c r p (Rested o) v left sites pool is x = absurd cc
  opened_there c r p (Changed b marks) v left sites pool is x = absurd cc

  polled_there : (c : ℕ) (p : Peer) (l : Link) (reply : Reply) → IsThere (polled c p l) (polled c p l) reply
  polled_there c p l (Polled o) v left sites pool is x =
      subst (λ u. (polled c p l (Polled o, wide v sites pool) ≡ Some (wide u sites pool)) × Within store taken stored u.sites u.pool sites pool) (some_is (with_peer v c (record p { link = Some (record l { down = l.down ++ under_way o }) })) left is) (refl, x)
  polled_there c p l (Opened n) v left sites pool is x = absurd cc
  polled_there c p l (Answered o) v left sites pool is x = absurd cc
  polled_there c p l (Owed o) v left sites pool is x = absurd cc
  polled_there c p l Closed v left sites pool is x = absurd cc
  polled_there c p l (Written n m) v left sites pool is x = absurd cc
  polled_there c p l (Merged n) v left sites pool is x = absurd cc
  polled_there c p l (Entries b) v left sites pool is x = absurd cc
  polled_there c p l (Rested o) v left sites pool is x = absurd cc
  polled_there c p l (Changed b marks) v left sites pool is x = absurd cc

  -- ---- what happens to a client

  connect_there : (test : Test) (w left : World) (sites : Sites) (pool : Pool) (c r : ℕ) → happens test w (Connect c r) ≡ Some left → Within store taken stored w.sites w.pool sites pool → HappensThere test left (wide w sites pool)
  connect_there test w left sites pool c r is x =
      let peer = bound_some (λ p. if is_to_connect p then option_and_then (opened c r p) (at_site w r events.Open) else None) (finmap.get w.peers c) left is in
      let down = if_both (is_to_connect peer.0) (option_and_then (opened c r peer.0) (at_site w r events.Open)) left peer.2 in
      let made = bound_some (opened c r peer.0) (at_site w r events.Open) left down.1 in
      let there = answers_there store taken stored w sites pool r events.Open made.0 made.1 x in
      let now = opened_there c r peer.0 made.0.0 made.0.1 left there.after pool made.2 there.inside in
      record {
        one = Connect c r;
        puts = tt;
        after = there.after;
        pool = pool;
        happened = ap (option_and_then (λ p. if is_to_connect p then option_and_then (opened c r p) (at_site (wide w sites pool) r events.Open) else None)) peer.1
            ∙ ap (λ b. if b then option_and_then (opened c r peer.0) (at_site (wide w sites pool) r events.Open) else None) down.0 ∙ ap (option_and_then (opened c r peer.0)) there.answers ∙ now.0;
        inside = now.1;
      }

  change_there : (test : Test) (w left : World) (sites : Sites) (pool : Pool) (c : ℕ) (t : TypeName) (wish : Wish) → happens test w (Change c t wish) ≡ Some left → Within store taken stored w.sites w.pool sites pool → HappensThere test left (wide w sites pool)
  change_there test w left sites pool c t wish is x =
      let peer = bound_some (λ p. option_map (λ q. with_peer w c (changed p q)) (wish_taken p t wish)) (finmap.get w.peers c) left is in
      let made = mapped_some (λ q. with_peer w c (changed peer.0 q)) (wish_taken peer.0 t wish) left peer.2 in
      subst (λ u. HappensThere test u (wide w sites pool)) (sym made.2) (record {
        one = Change c t wish;
        puts = tt;
        after = sites;
        pool = pool;
        happened = ap (option_and_then (λ p. option_map (λ q. with_peer (wide w sites pool) c (changed p q)) (wish_taken p t wish))) peer.1 ∙ ap (option_map (λ q. with_peer (wide w sites pool) c (changed peer.0 q))) made.1;
        inside = x;
      })

  added_there : (test : Test) (w left : World) (sites : Sites) (pool : Pool) (c : ℕ) (kind : ClientKind) (cluster : List ℕ) → happens test w (AddClient c kind cluster) ≡ Some left → Within store taken stored w.sites w.pool sites pool
      → HappensThere test left (wide w sites pool)
  added_there test w left sites pool c kind cluster is x =
      let made = if_some (is_none (finmap.get w.peers c)) (with_peer w c (new_peer c kind cluster)) left is in
      subst (λ u. HappensThere test u (wide w sites pool)) (sym made.1) (record {
        one = AddClient c kind cluster;
        puts = tt;
        after = sites;
        pool = pool;
        happened = ap (λ b. if b then Some (with_peer (wide w sites pool) c (new_peer c kind cluster)) else None) made.0;
        inside = x;
      })

  -- ---- what happens on a stream

  up_there : (w left : World) (sites : Sites) (pool : Pool) (c : ℕ) (p : Peer) (l : Link) (ms : List Message) → up_taken w c p l ms ≡ Some left → Within store taken stored w.sites w.pool sites pool
      → (after : Sites) × (up_taken (wide w sites pool) c p l ms ≡ Some (wide left after pool)) × Within store taken stored left.sites left.pool after pool
  up_there w left sites pool c p l [] is x = absurd cc
  up_there w left sites pool c p l (m ∷ rest) is x =
      let made = mapped_some (λ q. with_peer q.1 c (record p { link = Some (record l { up = rest }) })) (at_site w l.replica (Request l.stream m)) left is in
      let there = answers_there store taken stored w sites pool l.replica (Request l.stream m) made.0 made.1 x in
      subst (λ u. (after : Sites) × (up_taken (wide w sites pool) c p l (m ∷ rest) ≡ Some (wide u after pool)) × Within store taken stored u.sites u.pool after pool) (sym made.2)
      (there.after, ap (option_map (λ q. with_peer q.1 c (record p { link = Some (record l { up = rest }) }))) there.answers, there.inside)

  down_there : (test : Test) (w left : World) (sites : Sites) (pool : Pool) (c : ℕ) (p : Peer) (l : Link) (ds : List Draft) → down_taken test w c p l ds ≡ Some left → Within store taken stored w.sites w.pool sites pool
      → (down_taken test (wide w sites pool) c p l ds ≡ Some (wide left sites pool)) × Within store taken stored left.sites left.pool sites pool
  down_there test w left sites pool c p l [] is x = absurd cc
  down_there test w left sites pool c p l (d ∷ rest) is x =
      let made = mapped_some (λ q. with_peer w c (taken_down p l rest q)) (received test p d) left is in
      subst (λ u. (down_taken test (wide w sites pool) c p l (d ∷ rest) ≡ Some (wide u sites pool)) × Within store taken stored u.sites u.pool sites pool) (sym made.2)
      (ap (option_map (λ q. with_peer (wide w sites pool) c (taken_down p l rest q))) made.1, x)

  poll_there : (test : Test) (w left : World) (sites : Sites) (pool : Pool) (c : ℕ) (which : Option TypeName) → happens test w (Poll c which) ≡ Some left → Within store taken stored w.sites w.pool sites pool → HappensThere test left (wide w sites pool)
  poll_there test w left sites pool c which is x =
      let at_link = on_link_some w c (λ p l. option_and_then (polled c p l) (at_site w l.replica (events.Poll l.stream which))) left is in
      let p : Peer = at_link.0 in
      let l : Link = at_link.1 in
      let made = bound_some (polled c p l) (at_site w l.replica (events.Poll l.stream which)) left at_link.2 in
      let there = answers_there store taken stored w sites pool l.replica (events.Poll l.stream which) made.0 made.1 x in
      let now = polled_there c p l made.0.0 made.0.1 left there.after pool made.2 there.inside in
      record {
        one = Poll c which;
        puts = tt;
        after = there.after;
        pool = pool;
        happened = on_link_is (wide w sites pool) c (λ q k. option_and_then (polled c q k) (at_site (wide w sites pool) k.replica (events.Poll k.stream which))) p l at_link.3 at_link.4 ∙ ap (option_and_then (polled c p l)) there.answers ∙ now.0;
        inside = now.1;
      }

  lose_there : (test : Test) (w left : World) (sites : Sites) (pool : Pool) (c : ℕ) → happens test w (Lose c) ≡ Some left → Within store taken stored w.sites w.pool sites pool → HappensThere test left (wide w sites pool)
  lose_there test w left sites pool c is x =
      let at_link = on_link_some w c (λ p l. option_map (λ q. with_peer q.1 c (record p { client = unlinked p.client; link = None })) (at_site w l.replica (events.Close l.stream))) left is in
      let p : Peer = at_link.0 in
      let l : Link = at_link.1 in
      let made = mapped_some (λ q. with_peer q.1 c (record p { client = unlinked p.client; link = None })) (at_site w l.replica (events.Close l.stream)) left at_link.2 in
      let there = answers_there store taken stored w sites pool l.replica (events.Close l.stream) made.0 made.1 x in
      subst (λ u. HappensThere test u (wide w sites pool)) (sym made.2) (record {
        one = Lose c;
        puts = tt;
        after = there.after;
        pool = pool;
        happened = on_link_is (wide w sites pool) c (λ q k. option_map (λ y. with_peer y.1 c (record q { client = unlinked q.client; link = None })) (at_site (wide w sites pool) k.replica (events.Close k.stream))) p l at_link.3 at_link.4
            ∙ ap (option_map (λ q. with_peer q.1 c (record p { client = unlinked p.client; link = None }))) there.answers;
        inside = there.inside;
      })

  -- a poll without a stream happens there as itself
  pub record PolledThere (test : Test) (w left : World) (sites : Sites) (pool : Pool) (c r : ℕ) (t : TypeName) (answer : AnswerFate) : Type 0 where
    pub after : Sites
    pub happened : happens test (wide w sites pool) (RestPoll c r t answer) ≡ Some (wide left after pool)
    pub inside : Within store taken stored left.sites left.pool after pool

  pub rest_there : (test : Test) (w left : World) (sites : Sites) (pool : Pool) (c r : ℕ) (t : TypeName) (answer : AnswerFate) → happens test w (RestPoll c r t answer) ≡ Some left → Within store taken stored w.sites w.pool sites pool
      → PolledThere test w left sites pool c r t answer
  rest_there test w left sites pool c r t answer is x =
      let y = rest_poll_is test w left c r t answer is in
      let there = answers_there store taken stored w sites pool r (poll_event t y.request) y.reply y.answers x in
      subst (λ u. PolledThere test w u sites pool c r t answer) (sym y.after) (record {
        after = there.after;
        happened = ap (option_and_then (λ p. rest_polled test (wide w sites pool) c r t answer p)) y.has
            ∙ ap (option_and_then (λ q. option_and_then (rested test answer c t y.peer) (at_site (wide w sites pool) r (poll_event t q)))) y.asks ∙ ap (option_and_then (rested test answer c t y.peer)) there.answers
            ∙ ap (λ a. rested test answer c t y.peer (a, wide y.reply.1 there.after pool)) y.says ∙ ap (option_map (λ z. with_peer (wide y.reply.1 there.after pool) c (record y.peer { client = z }))) y.takes;
        inside = there.inside;
      })

  -- ---- whatever happens

  pub happens_there : (test : Test) (w left : World) (sites : Sites) (pool : Pool) (h : Happening) → brings_a_replica h ≡ false → PutsAResource h → happens test w h ≡ Some left → Within store taken stored w.sites w.pool sites pool
      → HappensThere test left (wide w sites pool)
  happens_there test w left sites pool (AddReplica r) brings puts is x = absurd cc
  happens_there test w left sites pool (AddClient c kind cluster) brings puts is x = added_there test w left sites pool c kind cluster is x
  happens_there test w left sites pool (Put r t body groups) brings puts is x =
      let made = event_there w left sites pool r (events.Put t body groups) is x in
      record { one = Put r t body groups; puts = puts; after = made.after; pool = pool; happened = made.happened; inside = made.inside }
  happens_there test w left sites pool (Delete r t name) brings puts is x =
      let made = event_there w left sites pool r (events.Delete t name) is x in
      record { one = Delete r t name; puts = tt; after = made.after; pool = pool; happened = made.happened; inside = made.inside }
  happens_there test w left sites pool (Snapshot r) brings puts is x =
      let made = bound_some (pooled r) (at_site w r events.Snapshot) left is in
      let there = answers_there store taken stored w sites pool r events.Snapshot made.0 made.1 x in
      let now = pooled_there r made.0.0 made.0.1 left there.after pool made.2 there.inside in
      record { one = Snapshot r; puts = tt; after = there.after; pool = now.0; happened = ap (option_and_then (pooled r)) there.answers ∙ now.1; inside = now.2 }
  happens_there test w left sites pool (Merge r b) brings puts is x = merge_there test w left sites pool r b is x
  happens_there test w left sites pool (Connect c r) brings puts is x = connect_there test w left sites pool c r is x
  happens_there test w left sites pool (Change c t wish) brings puts is x = change_there test w left sites pool c t wish is x
  happens_there test w left sites pool (Up c) brings puts is x =
      let at_link = on_link_some w c (λ p l. up_taken w c p l l.up) left is in
      let made = up_there w left sites pool c at_link.0 at_link.1 at_link.1.up at_link.2 x in
      record { one = Up c; puts = tt; after = made.0; pool = pool; happened = on_link_is (wide w sites pool) c (λ q k. up_taken (wide w sites pool) c q k k.up) at_link.0 at_link.1 at_link.3 at_link.4 ∙ made.1; inside = made.2 }
  happens_there test w left sites pool (Poll c which) brings puts is x = poll_there test w left sites pool c which is x
  happens_there test w left sites pool (Down c) brings puts is x =
      let at_link = on_link_some w c (λ p l. down_taken test w c p l l.down) left is in
      let made = down_there test w left sites pool c at_link.0 at_link.1 at_link.1.down at_link.2 x in
      record { one = Down c; puts = tt; after = sites; pool = pool; happened = on_link_is (wide w sites pool) c (λ q k. down_taken test (wide w sites pool) c q k k.down) at_link.0 at_link.1 at_link.3 at_link.4 ∙ made.0; inside = made.1 }
  happens_there test w left sites pool (Lose c) brings puts is x = lose_there test w left sites pool c is x
  happens_there test w left sites pool (RestPoll c r t answer) brings puts is x =
      let made = rest_there test w left sites pool c r t answer is x in
      record { one = RestPoll c r t answer; puts = tt; after = made.after; pool = pool; happened = made.happened; inside = made.inside }
