-- What is kept of clients that poll, whatever happens: a version that one keeps is of what it shows, wherever its replica still is at
-- that count of changes.
use Rattle.std.proofs.Common.{◌≡◌, ◌⊎◌, inl, inr, ℕ, ◌≤◌, List, [], Bool, true, false, Option, Some, None, refl, sym, ap, subst, ◌∙◌, arith}
use Rattle.std.specs.Prelude.{if◌then◌else◌, is_none, is_some, option_map}
use Rattle.std.specs.Option.{option_and_then, option_map_or}
use Rattle.std.specs.Ordering.{nat_cmp}
use Rattle.std.specs.Cmp.{nat_cmp_total}
use Rattle.std.specs.FinMap as finmap
use Rattle.std.specs.FinMap.{FinMap, nat_cmp-IsAntisymmetric}
use Rattle.xds_resource.specs.declared.types.TypeName.{TypeName}
use Rattle.xds_resource.specs.PerType.{at}
use Rattle.xds_resource.specs.Stamps.{max_counter, max_writer}
use Rattle.xds_resource.proofs.TypesApart.{at-each}
use Rattle.xds_catalogue.specs.Holdings.{Holdings, IsCatalogue}
use Rattle.xds_catalogue.proofs.Catalogues.{catalogue_of-IsCatalogue}
use Rattle.xds_catalogue.proofs.Lookups.{get-inserted}
use Rattle.xds_ledger.specs.Texts.{interest_version}
use Rattle.xds_sessions.specs.Rest.{asked_once, whole, unless_present}
use Rattle.xds_message.specs.Drafts.{Drafted, message_of}
use Rattle.xds_message.specs.Messages.{Request}
use Rattle.xds_ledger.specs.declared.variant.VariantName.TheVariants.{StateOfTheWorld}
use Rattle.xds_core.specs.Streams.{Message, cluster_in}
use Rattle.xds_core.specs.Events as events
use Rattle.xds_core.specs.Events.{Event, Reply}
use Rattle.xds_core.specs.Steps.{Core, rested as core_rested}
use Rattle.xds_cache.specs.Shelves.{Shelf, bare, interest, wants_some}
use Rattle.xds_cache.specs.Faults.{Test}
use Rattle.xds_cache.specs.Deliveries.{sotw_delivery, fault_in}
use Rattle.xds_cache.specs.Clients.{Client, shelf, with_shelf, unlinked}
use Rattle.xds_cache.specs.Rest.{rest_asking, forgetting, rest_taking, rest_delivered}
use Rattle.xds_script.specs.declared.event.AnswerFate.{AnswerFate}
use Rattle.xds_script.specs.declared.event.AnswerFate.TheVariants.{Arrives}
use Rattle.xds_script.specs.declared.event.ClientKind.{ClientKind}
use Rattle.xds_script.specs.declared.event.ClientKind.TheVariants.{Sotw, Delta, Rest}
use Rattle.xds_script.specs.Happenings.{Happening, Wish, AddReplica, AddClient, Put, Delete, Snapshot, Merge, Connect, Change, Up, Poll, Down, Lose, RestPoll}
use Rattle.xds_world.specs.Worlds.{Site, Link, Peer, World, empty_world, at_site, with_peer, new_peer, opened, changed, wish_taken, wish_of, polled, up_taken, down_taken, has_streams, is_to_connect, asked_by, poll_event, answer_taken, happens}
use Rattle.xds_world.specs.Knows.{TypedWrite, Knowledge, wished}
use Rattle.xds_world.specs.Journal.{event_at}
use Rattle.xds_world.proofs.Replicas.{Kept, IsRestPoll, rest_poll_is, some_is, ok_is, never, bound_some, mapped_some, if_some, if_both, both_parts}
use Rattle.xds_world.proofs.Origins.{Stamped, sites_come}
use Rattle.xds_world.proofs.Ranges.{Ranged, sites_known}
use Rattle.xds_world.proofs.Delivering.{AllKnown}
use Rattle.xds_world.proofs.Settled.{Shows}
use Rattle.xds_world.proofs.ByKind.{rest_wished}
use Rattle.xds_world.proofs.RestShelves.{each_shelf, answer_leaves}
use Rattle.xds_world.proofs.Everyone.{at_site_is, Fine}
use Rattle.xds_world.proofs.EveryEvent.{AllSitesKnown, link_there, same_peers, linked_never}
use Rattle.xds_world.proofs.Followed.{Stays, added_peers, written_peers, pooled_peers, merged_peers, joined_is, connected_comes, lost_comes, up_of, poll_of, down_of}
use Rattle.xds_world.proofs.Growing.{version_tells, version_is_there, SitesGrow, sites_grow, AllWithin, within_come}
use Rattle.xds_world.proofs.RestAnswers.{asked_is_interest, answers_whole, taken_shows}

-- ---- a version that is kept

-- Of a client that kept a version of a replica at a count of changes: the replica is there, and its count isn't below that; where it
-- is that, the client shows what the replica holds.
abbrev pub IsPresent : FinMap nat_cmp Site → List ℕ → TypeName → Shelf → Type 0
IsPresent sites cluster t f =
    (r k : ℕ) → r ≤ max_writer → k ≤ max_counter → f.accepted ≡ interest_version r k (interest t cluster f.wants)
    → (s : Site) × (finmap.get sites r ≡ Some s) × (k ≤ (at s.core.store t).changes) × (k ≡ (at s.core.store t).changes → Shows StateOfTheWorld cluster t f (at s.core.store t).entries)

-- the entries of every replica are those of a catalogue
abbrev AllCatalogues : FinMap nat_cmp Site → Type 0
AllCatalogues sites = (r : ℕ) (s : Site) (t : TypeName) → finmap.get sites r ≡ Some s → IsCatalogue (at s.core.store t).entries

both_equal : (k a b : ℕ) → k ≤ a → a ≤ b → k ≡ b → (k ≡ a) × (a ≡ b)
both_equal k a b below rises equal = (omega (arith, below, rises, equal), omega (arith, below, rises, equal))

at_most : (k a b : ℕ) → k ≤ a → a ≤ b → k ≤ b
at_most k a b below rises = omega (arith, below, rises)

-- replicas that grow keep it
grown_present : (before after : FinMap nat_cmp Site) (cluster : List ℕ) (t : TypeName) (f : Shelf) → SitesGrow before after → AllCatalogues before → IsPresent before cluster t f → IsPresent after cluster t f
grown_present before after cluster t f grow catalogues present r k r_to k_to is =
    let was = present r k r_to k_to is in
    let now = grow r was.0 was.1 in
    let grows = now.2 t in (
      now.0,
      now.1,
      at_most k (at was.0.core.store t).changes (at now.0.core.store t).changes was.2 grows.from,
      λ equal. let both = both_equal k (at was.0.core.store t).changes (at now.0.core.store t).changes was.2 grows.from equal in
          subst (Shows StateOfTheWorld cluster t f) (sym (grows.same both.1 (catalogues r was.0 t was.1))) (was.3 both.0),
    )

-- who keeps no version keeps it
unversioned : (sites : FinMap nat_cmp Site) (cluster : List ℕ) (t : TypeName) (f : Shelf) → f.accepted ≡ [] → IsPresent sites cluster t f
unversioned sites cluster t f none r k r_to k_to is = absurd (version_is_there r k (interest t cluster f.wants) (sym none ∙ is))

-- ---- what a poll is answered

pub asked_is : (k : ClientKind) (c : Client) (t : TypeName) (q : Request) → asked_by k c t ≡ Some q → (wants_some (shelf c t).wants ≡ true) × (q ≡ rest_asking c t)
asked_is Rest c t q is = if_some (wants_some (shelf c t).wants) (rest_asking c t) q is
asked_is Sotw c t q is = absurd (never q is)
asked_is Delta c t q is = absurd (never q is)

-- rule: not-modified
rested_same : (a b : Option Drafted) → events.Rested a ≡ events.Rested b → a ≡ b
rested_same a b e = cc

-- the replica that answers, and what it answers: all that the client is to show, unless the version that it keeps is the present one
pub record IsAnswered (w : World) (r : ℕ) (t : TypeName) (c : Client) (draft : Option Drafted) : Type 0 where
  pub site : Site
  pub there : finmap.get w.sites r ≡ Some site
  pub wants : wants_some (shelf c t).wants ≡ true
  pub says : draft ≡ unless_present r t (at site.core.store t) (interest t c.cluster (shelf c t).wants) (shelf c t).accepted

abbrev pub poll_reply : Core → TypeName → Request → Option Drafted
poll_reply k t q = core_rested k t q.resource_names q.version_info (cluster_in q.node)

pub poll_answered : (test : Test) (w left : World) (c r : ℕ) (t : TypeName) (answer : AnswerFate) (x : IsRestPoll test w left c r t answer) → ((k : ℕ) (s : Site) → finmap.get w.sites k ≡ Some s → s.core.replica ≡ k) → IsAnswered w r t x.peer.client x.draft
poll_answered test w left c r t answer x numbers =
    let at_r = at_site_is w r (poll_event t x.request) x.reply x.answers in
    let asked = asked_is x.peer.kind x.peer.client t x.request x.asks in
    let f : Shelf = shelf x.peer.client t in
    let k : Core = at_r.site.core in
    let made = ok_is (events.Rested (poll_reply k t x.request), k) (x.reply.0, at_r.core) at_r.stepped in
    let told : poll_reply k t x.request ≡ x.draft = rested_same (poll_reply k t x.request) x.draft (ap (λ y. y.0) made ∙ x.says) in
    record {
      site = at_r.site;
      there = at_r.has;
      wants = asked.0;
      says = sym told ∙ ap (poll_reply k t) asked.1 ∙ ap (λ s. unless_present k.replica t (at k.store t) s f.accepted) (asked_is_interest t f.wants x.peer.client.cluster asked.0)
          ∙ ap (λ n. unless_present n t (at k.store t) (interest t x.peer.client.cluster f.wants) f.accepted) (numbers r at_r.site at_r.has);
    }

-- what a poll is answered, whoever asks
pub poll_says : (w : World) (r : ℕ) (t : TypeName) (q : Request) (y : Reply) (w1 : World) → at_site w r (poll_event t q) ≡ Some (y, w1) → (d : Option Drafted) × (y ≡ events.Rested d)
poll_says w r t q y w1 is =
    let x = at_site_is w r (poll_event t q) (y, w1) is in
    (poll_reply x.site.core t q, sym (ap (λ p. p.0) (ok_is (events.Rested (poll_reply x.site.core t q), x.site.core) (y, x.core) x.stepped)))

-- and of which type a body is
pub answer_kind : (w : World) (r : ℕ) (t : TypeName) (q : Request) (d : Option Drafted) (w1 : World) → at_site w r (poll_event t q) ≡ Some (events.Rested d, w1) → (y : Drafted) → d ≡ Some y → y.kind ≡ t
answer_kind w r t q d w1 is y body =
    let x = at_site_is w r (poll_event t q) (events.Rested d, w1) is in
    let k : Core = x.site.core in
    let told : poll_reply k t q ≡ d = rested_same (poll_reply k t q) d (ap (λ p. p.0) (ok_is (events.Rested (poll_reply k t q), k) (events.Rested d, x.core) x.stepped)) in
    ap (λ (z : Drafted). z.kind) (answers_whole k.replica t (at k.store t) (asked_once t q.resource_names (cluster_in q.node)) q.version_info y (told ∙ body))

-- what is taken is kept with its version
taken_present : (sites : FinMap nat_cmp Site) (all : List TypedWrite) (cluster : List ℕ) (r : ℕ) (t : TypeName) (f : Shelf) (s : Site) → finmap.get sites r ≡ Some s → r ≤ max_writer → (at s.core.store t).changes ≤ max_counter → AllKnown all t (at s.core.store t).entries
    → IsPresent sites cluster t (rest_taking t f (sotw_delivery t (message_of (whole r t (at s.core.store t) (interest t cluster f.wants)))))
taken_present sites all cluster r t f s there r_to h_to known q j q_to j_to is =
    let h : Holdings = at s.core.store t in
    let same = version_tells r h.changes q j (interest t cluster f.wants) r_to h_to q_to j_to is in
    (s, ap (finmap.get sites) (sym same.0) ∙ there, subst (λ n. n ≤ h.changes) same.1 (omega arith), λ equal. taken_shows cluster all t f r h known)

delivered_present : (sites : FinMap nat_cmp Site) (all : List TypedWrite) (cluster : List ℕ) (r : ℕ) (t : TypeName) (f : Shelf) (s : Site) (fault : Option (List ℕ)) → finmap.get sites r ≡ Some s → r ≤ max_writer → (at s.core.store t).changes ≤ max_counter
    → AllKnown all t (at s.core.store t).entries → IsPresent sites cluster t f → IsPresent sites cluster t (option_map_or (λ x. f) fault (rest_taking t f (sotw_delivery t (message_of (whole r t (at s.core.store t) (interest t cluster f.wants))))))
delivered_present sites all cluster r t f s None there r_to h_to known present = taken_present sites all cluster r t f s there r_to h_to known
delivered_present sites all cluster r t f s (Some x) there r_to h_to known present = present

-- what an answer leaves of a client keeps it
answered_present : (test : Test) (answer : AnswerFate) (w : World) (all : List TypedWrite) (r : ℕ) (t : TypeName) (c x : Client) (draft : Option Drafted) → (is : IsAnswered w r t c draft) → answer_taken test answer c t draft ≡ Some x → r ≤ max_writer → (at is.site.core.store t).changes ≤ max_counter
    → AllKnown all t (at is.site.core.store t).entries → ((u : TypeName) → IsPresent w.sites c.cluster u (shelf c u)) → (u : TypeName) → IsPresent w.sites x.cluster u (shelf x u)
answered_present test answer w all r t c x draft is takes r_to h_to known present = by_what (answer_leaves test answer c t draft x takes)
  where
    by_what : (x ≡ c) ⊎ ((d : Drafted) × (draft ≡ Some d) × (answer ≡ Arrives) × (x ≡ with_shelf c t (rest_delivered t test (shelf c t) (sotw_delivery t (message_of d))))) → (u : TypeName) → IsPresent w.sites x.cluster u (shelf x u)
    by_what (inl same) u = subst (λ (y : Client). IsPresent w.sites y.cluster u (shelf y u)) (sym same) (present u)
    by_what (inr made) u =
        let h : Holdings = at is.site.core.store t in
        let d : Drafted = made.0 in
        let whole_is : d ≡ whole r t h (interest t c.cluster (shelf c t).wants) = answers_whole r t h (interest t c.cluster (shelf c t).wants) (shelf c t).accepted d (sym is.says ∙ made.1) in
        let given = sotw_delivery t (message_of (whole r t h (interest t c.cluster (shelf c t).wants))) in
        let left : x ≡ with_shelf c t (rest_delivered t test (shelf c t) given) = made.3 ∙ ap (λ y. with_shelf c t (rest_delivered t test (shelf c t) (sotw_delivery t (message_of y)))) whole_is in
        subst (λ (y : Client). IsPresent w.sites y.cluster u (shelf y u)) (sym left)
        (each_shelf (IsPresent w.sites c.cluster) c t (rest_delivered t test (shelf c t) given) (delivered_present w.sites all c.cluster r t (shelf c t) is.site (fault_in t test given) is.there r_to h_to known (present t)) present u)

-- ---- of all clients that poll

abbrev pub AllPresent : FinMap nat_cmp Peer → FinMap nat_cmp Site → Type 0
AllPresent peers sites = (c : ℕ) (p : Peer) → finmap.get peers c ≡ Some p → p.kind ≡ Rest → (t : TypeName) → IsPresent sites p.client.cluster t (shelf p.client t)

pub record Polls (w : World) : Type 0 where
  pub within : AllWithin w.sites
  pub present : AllPresent w.peers w.sites

grown : (w left : World) (k : Knowledge) (o : Option (ℕ × Event)) → SitesGrow w.sites left.sites → Kept w k → AllPresent w.peers w.sites → AllPresent w.peers left.sites
grown w left k o grow kept present c p has kind t =
    grown_present w.sites left.sites p.client.cluster t (shelf p.client t) grow (λ r s u at_r. subst IsCatalogue (sym (kept.holds r s u at_r)) (catalogue_of-IsCatalogue _)) (present c p has kind t)

-- one client changed
put_peer : (w left : World) (d : ℕ) (after : Peer) → left.peers ≡ finmap.insert w.peers d after → (after.kind ≡ Rest → (t : TypeName) → IsPresent left.sites after.client.cluster t (shelf after.client t)) → AllPresent w.peers left.sites → AllPresent left.peers left.sites
put_peer w left d after peers here present c p has =
    elim (get-inserted nat_cmp_total nat_cmp-IsAntisymmetric w.peers d after c) [
      | inl same ↦ subst (λ (y : Peer). y.kind ≡ Rest → (t : TypeName) → IsPresent left.sites y.client.cluster t (shelf y.client t)) (some_is after p (sym same.1 ∙ ap (λ m. finmap.get m c) (sym peers) ∙ has)) here
      | inr other ↦ present c p (sym other.1 ∙ ap (λ m. finmap.get m c) (sym peers) ∙ has)
    ]

still : (w left : World) → left.peers ≡ w.peers → AllPresent w.peers left.sites → AllPresent left.peers left.sites
still w left same present = subst (λ m. AllPresent m left.sites) (sym same) present

streams_only : (k : ClientKind) → k ≡ Rest → has_streams k ≡ true → ⊥
streams_only k is has = let never : false ≡ true = ap has_streams (sym is) ∙ has in absurd cc

-- rule: not-modified
-- a client that has a link
stays_present : (w left : World) (all : List TypedWrite) (d : ℕ) (p : Peer) (l : Link) → finmap.get w.peers d ≡ Some p → p.link ≡ Some l → Stays w left d → Fine w all → AllPresent w.peers left.sites → AllPresent left.peers left.sites
stays_present w left all d p l has linked x fine present =
    let same : x.before ≡ p = some_is x.before p (sym x.has ∙ has) in
    put_peer w left d x.after x.peers (λ kind. absurd (linked_never w all d p l fine has linked (sym (ap (λ (y : Peer). y.kind) same) ∙ sym x.kind ∙ kind))) present

connect_present : (test : Test) (w left : World) (d r : ℕ) → happens test w (Connect d r) ≡ Some left → AllPresent w.peers left.sites → AllPresent left.peers left.sites
connect_present test w left d r is present =
    let peer = bound_some (λ p. if is_to_connect p then option_and_then (opened d r p) (at_site w r events.Open) else None) (finmap.get w.peers d) left is in
    let down = if_both (is_to_connect peer.0) (option_and_then (opened d r peer.0) (at_site w r events.Open)) left peer.2 in
    let streams = (both_parts (has_streams peer.0.kind) (is_none peer.0.link) down.0).0 in
    let x = (connected_comes test w left d r is).0 in
    let same : x.before ≡ peer.0 = some_is x.before peer.0 (sym x.has ∙ peer.1) in
    put_peer w left d x.after x.peers (λ kind. absurd (streams_only peer.0.kind (sym (ap (λ (y : Peer). y.kind) same) ∙ sym x.kind ∙ kind) streams)) present

lose_present : (test : Test) (w left : World) (all : List TypedWrite) (d : ℕ) → happens test w (Lose d) ≡ Some left → Fine w all → AllPresent w.peers left.sites → AllPresent left.peers left.sites
lose_present test w left all d is fine present =
    let at_link = link_there w d (λ p l. option_map (λ q. with_peer q.1 d (record p { client = unlinked p.client; link = None })) (at_site w l.replica (events.Close l.stream))) left is in
    let x = (lost_comes test w left d is).0 in
    let same : x.before ≡ at_link.0 = some_is x.before at_link.0 (sym x.has ∙ at_link.2) in
    put_peer w left d x.after x.peers (λ kind. absurd (linked_never w all d at_link.0 at_link.1 fine at_link.2 at_link.3 (sym (ap (λ (y : Peer). y.kind) same) ∙ sym x.kind ∙ kind))) present

-- a change forgets the version
wished_present : (sites : FinMap nat_cmp Site) (k : ClientKind) (p : Peer) (up : Bool) (t : TypeName) (wish : Wish) (q : Client × Option Message) → k ≡ Rest → wish_of k p up t wish ≡ Some q → ((u : TypeName) → IsPresent sites p.client.cluster u (shelf p.client u))
    → (u : TypeName) → IsPresent sites q.0.cluster u (shelf q.0 u)
wished_present sites Rest p up t wish q kind is present u =
    let f : Shelf = forgetting t (wished wish (shelf p.client t).wants) (shelf p.client t) in
    subst (λ (y : Client × Option Message). IsPresent sites y.0.cluster u (shelf y.0 u)) (sym (rest_wished p up t wish q is)) (each_shelf (IsPresent sites p.client.cluster) p.client t f (unversioned sites p.client.cluster t f refl) present u)
wished_present sites Sotw p up t wish q kind is present u = absurd cc
wished_present sites Delta p up t wish q kind is present u = absurd cc

change_present : (test : Test) (w left : World) (d : ℕ) (t : TypeName) (wish : Wish) → happens test w (Change d t wish) ≡ Some left → AllPresent w.peers left.sites → AllPresent left.peers left.sites
change_present test w left d t wish is present =
    let peer = bound_some (λ p. option_map (λ q. with_peer w d (changed p q)) (wish_taken p t wish)) (finmap.get w.peers d) left is in
    let p : Peer = peer.0 in
    let made = mapped_some (λ q. with_peer w d (changed p q)) (wish_taken p t wish) left peer.2 in
    put_peer w left d (changed p made.0) (ap (λ y. y.peers) made.2) (λ kind. wished_present left.sites p.kind p (is_some p.link) t wish made.0 kind made.1 (present d p peer.1 kind)) present

join_present : (w left : World) (d : ℕ) (kind : ClientKind) (cluster : List ℕ) → (if is_none (finmap.get w.peers d) then Some (with_peer w d (new_peer d kind cluster)) else None) ≡ Some left → AllPresent w.peers left.sites → AllPresent left.peers left.sites
join_present w left d kind cluster is present =
    put_peer w left d (new_peer d kind cluster) (joined_is w left d kind cluster is).1 (λ polls t. unversioned left.sites cluster t (shelf (new_peer d kind cluster).client t) (ap (λ (f : Shelf). f.accepted) (at-each bare t))) present

poll_present : (test : Test) (w left : World) (k : Knowledge) (all : List TypedWrite) (d r : ℕ) (t : TypeName) (answer : AnswerFate) → happens test w (RestPoll d r t answer) ≡ Some left → SitesGrow w.sites left.sites → Kept w k → Stamped w k all → Ranged w all → Polls w → AllPresent w.peers left.sites
    → AllPresent left.peers left.sites
poll_present test w left k all d r t answer is grow kept stamped ranged polls present =
    let x = rest_poll_is test w left d r t answer is in
    let after : Peer = record x.peer { client = x.client } in
    let answered = poll_answered test w left d r t answer x stamped.numbers in
    let known : AllSitesKnown w all = sites_known w k all kept stamped ranged in
    put_peer w left d after (ap (λ y. y.peers) x.after ∙ ap (λ y. finmap.insert y d after) (same_peers w r (poll_event t x.request) x.reply (at_site_is w r (poll_event t x.request) x.reply x.answers)))
    (λ kind u. grown_present w.sites left.sites x.client.cluster u (shelf x.client u) grow (λ q s v at_q. subst IsCatalogue (sym (kept.holds q s v at_q)) (catalogue_of-IsCatalogue _))
    (answered_present test answer w all r t x.peer.client x.client x.draft answered x.takes (ranged.sites r answered.site answered.there).1 (polls.within r answered.site t answered.there) (known r answered.site t answered.there) (polls.present d x.peer x.has kind) u))
    present

-- ---- whatever happens

peers_present : (test : Test) (w left : World) (k : Knowledge) (all : List TypedWrite) (h : Happening) → happens test w h ≡ Some left → SitesGrow w.sites left.sites → Kept w k → Stamped w k all → Ranged w all → Fine w all → Polls w → AllPresent w.peers left.sites → AllPresent left.peers left.sites
peers_present test w left k all (AddReplica r) is grow kept stamped ranged fine polls present = still w left (added_peers w left r _ is) present
peers_present test w left k all (AddClient d kind cluster) is grow kept stamped ranged fine polls present = join_present w left d kind cluster is present
peers_present test w left k all (Put r t body groups) is grow kept stamped ranged fine polls present = still w left (written_peers w left r (events.Put t body groups) is) present
peers_present test w left k all (Delete r t name) is grow kept stamped ranged fine polls present = still w left (written_peers w left r (events.Delete t name) is) present
peers_present test w left k all (Snapshot r) is grow kept stamped ranged fine polls present = still w left (pooled_peers w left r is) present
peers_present test w left k all (Merge r b) is grow kept stamped ranged fine polls present = still w left (merged_peers w left r b is) present
peers_present test w left k all (Connect d r) is grow kept stamped ranged fine polls present = connect_present test w left d r is present
peers_present test w left k all (Change d t wish) is grow kept stamped ranged fine polls present = change_present test w left d t wish is present
peers_present test w left k all (Up d) is grow kept stamped ranged fine polls present =
    let l = link_there w d (λ p l. up_taken w d p l l.up) left is in stays_present w left all d l.0 l.1 l.2 l.3 (up_of test w left d is) fine present
peers_present test w left k all (Poll d which) is grow kept stamped ranged fine polls present =
    let l = link_there w d (λ p l. option_and_then (polled d p l) (at_site w l.replica (events.Poll l.stream which))) left is in stays_present w left all d l.0 l.1 l.2 l.3 (poll_of test w left d which is) fine present
peers_present test w left k all (Down d) is grow kept stamped ranged fine polls present =
    let l = link_there w d (λ p l. down_taken test w d p l l.down) left is in stays_present w left all d l.0 l.1 l.2 l.3 (down_of test w left d is) fine present
peers_present test w left k all (Lose d) is grow kept stamped ranged fine polls present = lose_present test w left all d is fine present
peers_present test w left k all (RestPoll d r t answer) is grow kept stamped ranged fine polls present = poll_present test w left k all d r t answer is grow kept stamped ranged polls present

pub polls_step : (test : Test) (w left : World) (k : Knowledge) (all : List TypedWrite) (h : Happening) → happens test w h ≡ Some left → Kept w k → Stamped w k all → Ranged w all → Fine w all → Polls w → Polls left
polls_step test w left k all h is kept stamped ranged fine polls =
    let come = sites_come test w left h is in
    let grow = sites_grow w left (event_at w h) come in
    record { within = within_come w left (event_at w h) come polls.within; present = peers_present test w left k all h is grow kept stamped ranged fine polls (grown w left k (event_at w h) grow kept polls.present) }

pub polls_start : Polls empty_world
polls_start = record { within = λ r s t has. absurd (never s (sym (finmap.get-empty nat_cmp r) ∙ has)); present = λ c p has. absurd (never p (sym (finmap.get-empty nat_cmp c) ∙ has)) }
