-- What keeps the link of a client, whichever variant it speaks.
use Rattle.std.proofs.Common.{◌≡◌, ℕ, List, [], ◌∷◌, ◌++◌, Bool, true, false, ◌&&◌, Option, Some, None, Ok, Err, refl, sym, ap, subst, ◌∙◌, append-nil}
use Rattle.std.specs.Prelude.{if◌then◌else◌, option_map}
use Rattle.std.specs.FinMap as finmap
use Rattle.xds_resource.specs.declared.types.TypeName.{TypeName}
use Rattle.xds_resource.specs.declared.refusal.Refusal.TheVariants.{NoStream}
use Rattle.xds_resource.specs.PerType.{at}
use Rattle.xds_resource.specs.Types.{types}
use Rattle.xds_message.specs.declared.draft.Draft.{Draft}
use Rattle.xds_ledger.specs.declared.outcome.Outcome.{Outcome}
use Rattle.xds_ledger.specs.declared.variant.VariantName.{VariantName}
use Rattle.xds_core.specs.Stores.{Store}
use Rattle.xds_core.specs.Streams as streams
use Rattle.xds_core.specs.Streams.{Stream, Message, variant_of, cluster_in, cluster_of, opening, requested, polled_first}
use Rattle.xds_cache.specs.Shelves.{wanting, Wants, Shelf, bare, wants_of}
use Rattle.xds_cache.specs.Faults.{Test}
use Rattle.xds_cache.specs.Clients as clients
use Rattle.xds_cache.specs.Clients.{Client, shelf, shelf_after, identity, node, is_sent, unlinked}
use Rattle.xds_cache.specs.Sends.{delta_request, sotw_request, sotw_first, delta_first, is_greeted}
use Rattle.xds_cache.specs.Rest.{rest_changed}
use Rattle.xds_cache.specs.Receives.{Outcome as ClientOutcome}
use Rattle.xds_script.specs.declared.event.ClientKind.{ClientKind}
use Rattle.xds_script.specs.declared.event.ClientKind.TheVariants.{Sotw, Delta, Rest}
use Rattle.xds_script.specs.Happenings.{Wish, Names, Edits}
use Rattle.xds_world.specs.Worlds.{Link, Peer, opening_requests, has_streams, with_request, changed_by, wish_of, under_way, received_in}
use Rattle.xds_world.specs.Knows.{TypedWrite, wished}
use Rattle.xds_world.proofs.Replicas.{some_is, never}
use Rattle.xds_world.proofs.Folding.{rejects_in}
use Rattle.xds_world.proofs.LaneSteps.{IsChange, sotw_changes, delta_changes}
use Rattle.xds_world.proofs.Queues.{Linked, started}
use Rattle.xds_world.proofs.Starting.{started_decided, requested_started, requested_decides, polled_variant, polled_started, IsGreeting, Greets, oldest_greets, greeting_more, first_greets}
use Rattle.xds_world.proofs.LinkSteps.{poll_sent, poll_quiet, linked_up, linked_polled}
use Rattle.xds_world.proofs.LinkTakes as takes
use Rattle.xds_world.proofs.LinkTakes.{received_is, linked_down, linked_changed, Rests, linked_opened, rests_lost, rests_changed, rests_fresh, spoken}
use Rattle.xds_world.proofs.Delivering.{AllKnown}
use Rattle.xds_world.proofs.RestShelves.{rests_forgotten}

-- The link of a client of each variant, by the stream as it is for its client; and what the client keeps without a link. One that
-- polls has no link, and keeps what one of the state of the world does.
abbrev pub LinkedAs : ClientKind → List TypedWrite → Client → Link → Stream → Type 0
LinkedAs k all c l x = (has_streams k ≡ true) × Linked (spoken k) all c l x

abbrev pub RestsAs : ClientKind → List TypedWrite → TypeName → Shelf → Type 0
RestsAs k all t f = Rests (spoken k) all t f

-- and by the stream as its replica has it: while the variant isn't decided, the next request that comes says the client's cluster
abbrev pub LinkedTo : ClientKind → List TypedWrite → Client → Link → Stream → Type 0
LinkedTo k all c l x = Greets c x l.up × LinkedAs k all c l (started c.cluster x)

-- a client that takes a response stays of its cluster, and of use
pub received_stays : (k : ClientKind) (test : Test) (c : Client) (d : Draft) (q : Client × Message) → received_in test k c d ≡ Some q → (q.0.cluster ≡ c.cluster) × (q.0.broken ≡ c.broken)
received_stays k test c d q is = let left = received_is k test c d q is in (ap (λ p. p.0.cluster) left, ap (λ p. p.0.broken) left)

module _ (all : List TypedWrite) where
  -- the replica took the oldest request
  pub up_to : (k : ClientKind) (c : Client) (l : Link) (x : Stream) (m : Message) (rest : List Message) (z : Outcome × Stream) → l.up ≡ m ∷ rest → requested x m ≡ Ok z → LinkedTo k all c l x → LinkedTo k all c (record l { up = rest }) z.1
  up_to k c l x m rest z up is linked =
      let decided = requested_decides x m z is in (
        λ none. absurd (never (variant_of m) (sym none ∙ decided)),
        (
          linked.1.0,
          subst (Linked (spoken k) all c (record l { up = rest })) (sym (started_decided c.cluster z.1 (variant_of m) decided))
              (linked_up (spoken k) all c l (started c.cluster x) m rest z up (oldest_greets c x l.up m rest up linked.0) (requested_started c.cluster x m ∙ is) linked.1.1),
        ),
      )

  poll_as : (v : VariantName) (replica : ℕ) (store : Store) (c : Client) (l : Link) (x y : Stream) (ts : List TypeName) (o : Option Draft) → ((t : TypeName) → AllKnown all t (at store t).entries) → polled_first replica store x ts ≡ Ok (o, y) → Linked v all c l x
      → Linked v all c (record l { down = l.down ++ under_way o }) y
  poll_as v replica store c l x y ts None known is linked =
      subst (Linked v all c (record l { down = l.down ++ [] })) (sym (poll_quiet replica store x y ts is)) (subst (λ ds. Linked v all c (record l { down = ds }) x) (sym (append-nil l.down)) linked)
  poll_as v replica store c l x y ts (Some d) known is linked = linked_polled v all replica store c l x y d known (poll_sent replica store x y ts d is) linked

  -- a response was sent, or none
  pub poll_to : (k : ClientKind) (replica : ℕ) (store : Store) (c : Client) (l : Link) (x y : Stream) (ts : List TypeName) (o : Option Draft) → ((t : TypeName) → AllKnown all t (at store t).entries) → polled_first replica store x ts ≡ Ok (o, y) → LinkedTo k all c l x
      → LinkedTo k all c (record l { down = l.down ++ under_way o }) y
  poll_to k replica store c l x y ts o known is linked = (
    λ none. linked.0 (sym (polled_variant replica store x y ts o is) ∙ none),
    (linked.1.0, poll_as (spoken k) replica store c l (started c.cluster x) (started c.cluster y) ts o known (polled_started replica store c.cluster x y ts o is) linked.1.1),
  )

  -- while the stream's variant isn't decided, no response is under way
  pub none_brought : (k : ClientKind) (c : Client) (l : Link) (x : Stream) (d : Draft) (rest : List Draft) → l.down ≡ d ∷ rest → x.variant ≡ None → LinkedAs k all c l x → ⊥
  none_brought k c l x d rest down none linked = takes.none_brought (spoken k) all c l x d rest down none linked.1

  -- the client took the oldest response
  pub down_to : (k : ClientKind) (test : Test) (c : Client) (l : Link) (x : Stream) (d : Draft) (rest : List Draft) (q : Client × Message) → l.down ≡ d ∷ rest → received_in test k c d ≡ Some q → LinkedTo k all c l x
      → LinkedTo k all q.0 (record l { up = l.up ++ q.1 ∷ []; down = rest }) x
  down_to k test c l x d rest q down is linked = (
    λ none. absurd (none_brought k c l (started c.cluster x) d rest down none linked.1),
    (
      linked.1.0,
      subst (λ (p : Client × Message). Linked (spoken k) all p.0 (record l { up = l.up ++ p.1 ∷ []; down = rest }) (started p.0.cluster x)) (sym (received_is k test c d q is)) (linked_down (spoken k) all test c l (started c.cluster x) d rest down linked.1.1),
    ),
  )

  opening_greets : (k : ClientKind) (c : Client) → has_streams k ≡ true → IsGreeting (clients.linked (is_greeted c false types) c) (opening_requests k c)
  opening_greets Sotw c has = first_greets streams.Sotw (sotw_first c) c (λ t. refl) types
  opening_greets Delta c has = first_greets streams.Delta (delta_first c) c (λ t. refl) types
  opening_greets Rest c has = absurd cc

  -- the client connected
  pub opened_to : (k : ClientKind) (c : Client) (r n : ℕ) → has_streams k ≡ true → ((t : TypeName) → RestsAs k all t (shelf c t))
      → LinkedTo k all (clients.linked (is_greeted c false types) c) (record { replica = r; stream = n; up = opening_requests k c; down = [] }) opening
  opened_to k c r n has rests = (λ none. opening_greets k c has, (has, linked_opened k all c r n (is_greeted c false types) has rests))

  pub lost_to : (k : ClientKind) (c : Client) (l : Link) (x : Stream) → LinkedTo k all c l x → (t : TypeName) → RestsAs k all t (shelf (unlinked c) t)
  lost_to k c l x linked = rests_lost (spoken k) all c l (started c.cluster x) linked.1.1

  pub fresh_as : (k : ClientKind) (t : TypeName) → RestsAs k all t bare
  fresh_as k t = rests_fresh (spoken k) all t

-- ---- Change

changed_ok : {X : Type 0} (tag : X → Message) (r : ClientOutcome (Option X)) (q : Client × Option Message) → changed_by tag r ≡ Some q → (y : Client × Option X) × (r ≡ Ok y) × (q ≡ (y.0, option_map tag y.1))
changed_ok tag (Ok y) q is = (y, refl, sym (some_is (y.0, option_map tag y.1) q is))
changed_ok tag (Err e) q is = absurd cc

changed_once : {X : Type 0} (broken : Bool) (y z : Client × Option X) → ◌≡◌ {A = ClientOutcome (Option X)} (if broken then Err NoStream else Ok y) (Ok z) → z ≡ y
changed_once true y z is = absurd cc
changed_once false y z is = cc

tagged_if : {X : Type 0} (tag : X → Message) (b : Bool) (m : X) → option_map tag (if b then Some m else None) ≡ (if b then Some (tag m) else None)
tagged_if tag true m = refl
tagged_if tag false m = refl

sent_on : (l : Link) (b : Bool) (m : Message) → with_request (if b then Some m else None) l ≡ record l { up = l.up ++ (if b then m ∷ [] else []) }
sent_on l true m = refl
sent_on l false m = λ i. record l { up = sym (append-nil l.up) i }

-- what a client on streams is after a change, and what it sends
pub record IsWished (k : ClientKind) (p : Peer) (up : Bool) (t : TypeName) (wish : Wish) (q : Client × Option Message) : Type 0 where
  pub message : Message
  pub left : q.0 ≡ clients.changed up t (wished wish (shelf p.client t).wants) p.client
  pub sent : q.1 ≡ (if is_sent up (shelf p.client t) (wished wish (shelf p.client t).wants) then Some message else None)
  pub greets : p.client.greeted ≡ false → cluster_of message ≡ p.client.cluster
  pub accepts : rejects_in message ≡ false
  pub change : IsChange (spoken k) t (shelf p.client t) (wished wish (shelf p.client t).wants) message

greets_by : (c : Client) → c.greeted ≡ false → cluster_in (node c.greeted c) ≡ c.cluster
greets_by c new = ap (λ b. cluster_in (node b c)) new

wished_by : {X : Type 0} (tag : X → Message) (k : ClientKind) (p : Peer) (up : Bool) (t : TypeName) (wish : Wish) (m : X) (q : Client × Option Message)
    → let w = wished wish (shelf p.client t).wants in
    changed_by tag (if up && p.client.broken then Err NoStream else Ok (clients.changed up t w p.client, if is_sent up (shelf p.client t) w then Some m else None)) ≡ Some q → (p.client.greeted ≡ false → cluster_of (tag m) ≡ p.client.cluster) → rejects_in (tag m) ≡ false
    → IsChange (spoken k) t (shelf p.client t) w (tag m) → IsWished k p up t wish q
wished_by {X} tag k p up t wish m q is greets accepts change =
    let w : Wants = wished wish (shelf p.client t).wants in
    let y : Client × Option X = (clients.changed up t w p.client, if is_sent up (shelf p.client t) w then Some m else None) in
    let made = changed_ok tag (if up && p.client.broken then Err NoStream else Ok y) q is in
    let once = changed_once (up && p.client.broken) y made.0 made.1 in
    record {
      message = tag m;
      left = ap (λ z. z.0) made.2 ∙ ap (λ z. z.0) once;
      sent = ap (λ z. z.1) made.2 ∙ ap (λ z. option_map tag z.1) once ∙ tagged_if tag (is_sent up (shelf p.client t) w) m;
      greets = greets;
      accepts = accepts;
      change = change;
    }

pub wished_is : (k : ClientKind) → has_streams k ≡ true → (p : Peer) (up : Bool) (t : TypeName) (wish : Wish) (q : Client × Option Message) → wish_of k p up t wish ≡ Some q → IsWished k p up t wish q
wished_is Sotw has p up t (Names names) q is =
    let who = node p.client.greeted p.client in
    let w : Wants = wants_of names in
    let asked : Bool = if is_sent up (shelf p.client t) w then true else (shelf p.client t).asked in
    wished_by streams.Sotw Sotw p up t (Names names) (sotw_request t who (wanting t w asked (shelf p.client t)) None) q is (greets_by p.client) refl (sotw_changes t who w asked (shelf p.client t))
wished_is Sotw has p up t (Edits subscribe unsubscribe) q is = absurd cc
wished_is Delta has p up t (Names names) q is = absurd cc
wished_is Delta has p up t (Edits subscribe unsubscribe) q is =
    let who = node p.client.greeted p.client in
    let s : Wants = wants_of subscribe in
    let u : Wants = wants_of unsubscribe in
    wished_by streams.Delta Delta p up t (Edits subscribe unsubscribe) (delta_request t who s u finmap.empty) q is (greets_by p.client) refl (delta_changes t who s u (shelf p.client t))
wished_is Rest has p up t wish q is = absurd cc

-- a client that polls sends nothing
pub rest_wished : (p : Peer) (up : Bool) (t : TypeName) (wish : Wish) (q : Client × Option Message) → wish_of Rest p up t wish ≡ Some q → q ≡ (rest_changed t (wished wish (shelf p.client t).wants) p.client, None)
rest_wished p up t (Names names) q is = sym (some_is (rest_changed t (wants_of names) p.client, None) q is)
rest_wished p up t (Edits subscribe unsubscribe) q is = absurd (never q is)

-- whatever a client is told to want, it stays of its cluster, and of use
pub wished_stays : (k : ClientKind) (p : Peer) (up : Bool) (t : TypeName) (wish : Wish) (q : Client × Option Message) → wish_of k p up t wish ≡ Some q → (q.0.cluster ≡ p.client.cluster) × (q.0.broken ≡ p.client.broken)
wished_stays Sotw p up t wish q is = let left = (wished_is Sotw refl p up t wish q is).left in (ap (λ (c : Client). c.cluster) left, ap (λ (c : Client). c.broken) left)
wished_stays Delta p up t wish q is = let left = (wished_is Delta refl p up t wish q is).left in (ap (λ (c : Client). c.cluster) left, ap (λ (c : Client). c.broken) left)
wished_stays Rest p up t wish q is = let made = rest_wished p up t wish q is in (ap (λ (y : Client × Option Message). y.0.cluster) made, ap (λ (y : Client × Option Message). y.0.broken) made)

module _ (all : List TypedWrite) where
  -- the client wants something else of a type
  pub changed_to : (k : ClientKind) (p : Peer) (l : Link) (x : Stream) (t : TypeName) (wish : Wish) (q : Client × Option Message) → wish_of k p true t wish ≡ Some q → LinkedTo k all p.client l x → LinkedTo k all q.0 (with_request q.1 l) x
  changed_to k p l x t wish q is linked =
      let made = wished_is k linked.1.0 p true t wish q is in
      let w : Wants = wished wish (shelf p.client t).wants in
      let sent : Bool = is_sent true (shelf p.client t) w in
      let same : q.0.cluster ≡ p.client.cluster = ap (λ (c : Client). c.cluster) made.left in (
        λ none. subst (λ (m : Link). IsGreeting q.0 m.up) (sym (sent_on l sent made.message) ∙ ap (λ o. with_request o l) (sym made.sent))
            (greeting_more p.client q.0 l.up sent made.message same (λ unsent. ap (λ (c : Client). c.greeted) made.left ∙ ap (λ b. if b then true else p.client.greeted) unsent) made.greets (linked.0 none)),
        (
          linked.1.0,
          subst (λ y. Linked (spoken k) all q.0 y (started q.0.cluster x)) (sym (sent_on l sent made.message) ∙ ap (λ o. with_request o l) (sym made.sent))
              (subst (λ y. Linked (spoken k) all y (record l { up = l.up ++ (if sent then made.message ∷ [] else []) }) (started y.cluster x)) (sym made.left)
              (linked_changed (spoken k) all p.client l (started p.client.cluster x) t w made.message made.change linked.1.1)),
        ),
      )

  wished_rests : (k : ClientKind) → has_streams k ≡ true → (p : Peer) (t : TypeName) (wish : Wish) (q : Client × Option Message) → wish_of k p false t wish ≡ Some q → ((u : TypeName) → RestsAs k all u (shelf p.client u)) → (u : TypeName) → RestsAs k all u (shelf q.0 u)
  wished_rests k has p t wish q is rests u = let made = wished_is k has p false t wish q is in subst (λ y. RestsAs k all u (shelf y u)) (sym made.left) (rests_changed (spoken k) all p.client t (wished wish (shelf p.client t).wants) rests u)

  pub rests_as : (k : ClientKind) (p : Peer) (t : TypeName) (wish : Wish) (q : Client × Option Message) → wish_of k p false t wish ≡ Some q → ((u : TypeName) → RestsAs k all u (shelf p.client u)) → (u : TypeName) → RestsAs k all u (shelf q.0 u)
  rests_as Sotw p t wish q is rests u = wished_rests Sotw refl p t wish q is rests u
  rests_as Delta p t wish q is rests u = wished_rests Delta refl p t wish q is rests u
  rests_as Rest p t wish q is rests u =
      let made = rest_wished p false t wish q is in
      subst (λ (y : Client × Option Message). RestsAs Rest all u (shelf y.0 u)) (sym made) (record { within = rests_forgotten p.client t (wished wish (shelf p.client t).wants) (λ s. (rests s).within) u; made = λ name h held. tt })
