-- A step of a replica, and a change of a client after it.
use Rattle.std.proofs.Common.{◌≡◌, ℕ, ◌+◌, List, [], ◌∷◌, ◌++◌, Bool, true, false, Option, Some, None, Result, Ok, Err, refl, sym, ap, subst, ◌∙◌}
use Rattle.std.specs.Prelude.{◌==◌, IfOk, option_map, is_some, if◌then◌else◌}
use Rattle.std.specs.Option.{option_and_then, option_map_or}
use Rattle.std.specs.FinMap as finmap
use Rattle.xds_resource.specs.declared.refusal.Refusal.{Refusal}
use Rattle.xds_resource.specs.declared.refusal.Refusal.TheVariants.{CounterSpent, NoStream}
use Rattle.xds_resource.specs.declared.types.TypeName.{TypeName}
use Rattle.xds_resource.specs.Stamps.{max_counter}
use Rattle.xds_resource.proofs.BoolsAndLists.{option_map-twice}
use Rattle.xds_message.specs.declared.draft.Draft.{Draft}
use Rattle.xds_core.specs.Stores.{Batch, if_done, all_entries}
use Rattle.xds_core.specs.Streams.{Message, Stream, opening, looked_at, polled_first}
use Rattle.xds_core.specs.Events as events
use Rattle.xds_core.specs.Events.{Event, Reply}
use Rattle.xds_core.specs.Steps.{Core, with_stream}
use Rattle.xds_cache.specs.Faults.{Test}
use Rattle.xds_script.specs.Happenings as happenings
use Rattle.xds_world.specs.Worlds.{Peer, Link, World, at_site, happened_at, happens, with_peer, on_link, connected_to, opened, polled, under_way, up_taken, down_taken, taken_down, received, changed, wish_taken, is_to_connect}
use Rattle.xds_world.specs.Settling.{link_in}
use Rattle.xds_world.proofs.Replicas.{answered, some_is, ok_is}
use Rattle.xds_world.specs.Calls.{Gave, Happened}
use Rattle.xds_world.specs.Journal.{oldest}
use Rattle.xds_world.specs.Links.{link_up}
use Rattle.xds_world.specs.Peers.{peer_up, peer_polled, peer_connected, peer_down, peer_changed, link_down}
use Rattle.xds_world.specs.Parts.{peer_event, leads, draft_in, stream_in, batch_in}

-- ---- replies

polled_done : (c : Core) (n : ℕ) (q : Reply × Core) (r : Result (Option Draft × Stream) Refusal) → if_done (λ p. (events.Polled p.0, with_stream c n p.1)) r ≡ Ok q → (d : Option Draft) × (q.0 ≡ events.Polled d)
polled_done c n q (Ok p) is = (p.0, sym (ap (λ x. x.0) (ok_is (events.Polled p.0, with_stream c n p.1) q is)))
polled_done c n q (Err e) is = absurd cc

polled_by : (c : Core) (n : ℕ) (which : Option TypeName) (q : Reply × Core) (o : Option Stream)
    → option_map_or (λ s. if_done (λ p. (events.Polled p.0, with_stream c n p.1)) (polled_first c.replica c.store s (looked_at which))) o (Err NoStream) ≡ Ok q → (d : Option Draft) × (q.0 ≡ events.Polled d)
polled_by c n which q None is = absurd cc
polled_by c n which q (Some s) is = polled_done c n q (polled_first c.replica c.store s (looked_at which)) is

opened_by : (q : Reply × Core) (b : Bool) (n : ℕ) (left : Core) → (if b then Err CounterSpent else Ok (events.Opened n, left)) ≡ Ok q → (k : ℕ) × (q.0 ≡ events.Opened k)
opened_by q true n left is = absurd cc
opened_by q false n left is = (n, sym (ap (λ x. x.0) (ok_is (events.Opened n, left) q is)))

-- what a poll, an opening and a snapshot are answered
poll_says : (w : World) (r n : ℕ) (which : Option TypeName) (y : Reply) (w1 : World) → at_site w r (events.Poll n which) ≡ Some (y, w1) → (d : Option Draft) × (y ≡ events.Polled d)
poll_says w r n which y w1 is =
    let made = answered w r (events.Poll n which) (y, w1) is in
    let says = polled_by made.0.core n which made.1 (finmap.get made.0.core.streams n) made.3 in
    (says.0, ap (λ p. p.0) made.4 ∙ says.1)

open_says : (w : World) (r : ℕ) (y : Reply) (w1 : World) → at_site w r events.Open ≡ Some (y, w1) → (n : ℕ) × (y ≡ events.Opened n)
open_says w r y w1 is =
    let made = answered w r events.Open (y, w1) is in
    let c = made.0.core in
    let says = opened_by made.1 (c.opened == max_counter) (c.opened + 1) (record c { opened = c.opened + 1; streams = finmap.insert c.streams (c.opened + 1) opening }) made.3 in
    (says.0, ap (λ p. p.0) made.4 ∙ says.1)

snapshot_says : (w : World) (r : ℕ) (y : Reply) (w1 : World) → at_site w r events.Snapshot ≡ Some (y, w1) → (b : Batch) × (y ≡ events.Entries b)
snapshot_says w r y w1 is =
    let made = answered w r events.Snapshot (y, w1) is in
    (all_entries made.0.core.store, ap (λ p. p.0) made.4 ∙ sym (ap (λ x. x.0) (ok_is (events.Entries (all_entries made.0.core.store), made.0.core) made.1 made.3)))

-- what a call answers that reads a reply of the one form that it may have
module _ {X Y : Type 0} (seen : X → Reply) (tag : Y → Reply) (read : Reply → Option Y) (reads : (y : Y) → read (tag y) ≡ Some y) (w w1 : World) (given : Option (Reply × World)) (says : (y : Reply) → given ≡ Some (y, w1) → (d : Y) × (y ≡ tag d)) where
  read_done : (x : X) (d : Y) → seen x ≡ tag d → given ≡ Some (seen x, w1) → Gave tag w (read (seen x)) w1 given
  read_done x d is gave = subst (λ o. Gave tag w o w1 given) (sym (ap read is ∙ reads d)) (gave ∙ (λ i. Some (is i, w1)))

  read_gave : (o : Option X) → Gave seen w o w1 given → Gave tag w (option_and_then (λ x. read (seen x)) o) w1 given
  read_gave None gave = gave
  read_gave (Some x) gave = let says_so = says (seen x) gave in read_done x says_so.0 says_so.1 gave

  pub read_reply : (o : Option X) (r : Option Y) → r ≡ option_and_then (λ x. read (seen x)) o → Gave seen w o w1 given → Gave tag w r w1 given
  read_reply o r is gave = subst (λ y. Gave tag w y w1 given) (sym is) (read_gave o gave)

pub poll_read : {X : Type 0} (seen : X → Reply) (w w1 : World) (r n : ℕ) (which : Option TypeName) (o : Option X) (d : Option (Option Draft)) → d ≡ option_and_then (λ x. draft_in (seen x)) o
    → Gave seen w o w1 (at_site w r (events.Poll n which)) → Gave events.Polled w d w1 (at_site w r (events.Poll n which))
poll_read seen w w1 r n which o d is gave = read_reply seen events.Polled draft_in (λ y. refl) w w1 (at_site w r (events.Poll n which)) (λ y says. poll_says w r n which y w1 says) o d is gave

pub open_read : {X : Type 0} (seen : X → Reply) (w w1 : World) (r : ℕ) (o : Option X) (d : Option ℕ) → d ≡ option_and_then (λ x. stream_in (seen x)) o
    → Gave seen w o w1 (at_site w r events.Open) → Gave events.Opened w d w1 (at_site w r events.Open)
open_read seen w w1 r o d is gave = read_reply seen events.Opened stream_in (λ y. refl) w w1 (at_site w r events.Open) (λ y says. open_says w r y w1 says) o d is gave

pub snapshot_read : {X : Type 0} (seen : X → Reply) (w w1 : World) (r : ℕ) (o : Option X) (d : Option Batch) → d ≡ option_and_then (λ x. batch_in (seen x)) o
    → Gave seen w o w1 (at_site w r events.Snapshot) → Gave events.Entries w d w1 (at_site w r events.Snapshot)
snapshot_read seen w w1 r o d is gave = read_reply seen events.Entries batch_in (λ y. refl) w w1 (at_site w r events.Snapshot) (λ y says. snapshot_says w r y w1 says) o d is gave

-- whether a replica answered
pub site_happened : {X : Type 0} (seen : X → Reply) (w w1 : World) (r : ℕ) (e : Event) (o : Option X) (b : Bool) → b ≡ is_some o → Gave seen w o w1 (at_site w r e) → Happened w b w1 (happened_at w r e)
site_happened seen w w1 r e None b is gave = subst (λ b. Happened w b w1 (happened_at w r e)) (sym is) (ap (option_map (λ p. p.1)) gave.0, gave.1)
site_happened seen w w1 r e (Some x) b is gave = subst (λ b. Happened w b w1 (happened_at w r e)) (sym is) (ap (option_map (λ p. p.1)) gave)

-- ---- a client after a step

-- a step of a replica leaves all clients
pub peers_stay : (w : World) (r : ℕ) (e : Event) (y : Reply) (w1 : World) → at_site w r e ≡ Some (y, w1) → w1.peers ≡ w.peers
peers_stay w r e y w1 is = ap (λ p. p.1.peers) (answered w r e (y, w1) is).4

never : {S : Type 0} (v : S) → None ≡ Some v → ⊥
never v e = absurd cc

-- what happened is what was to happen
sure : {S : Type 0} (w w2 v : S) (b : Bool) (o x : Option S) → o ≡ Some v → x ≡ Some v → Happened w b w2 o → (w0 : S) → Happened w0 b w2 x
sure w w2 v true o x is gives happened w0 = gives ∙ sym is ∙ happened
sure w w2 v false o x is gives happened w0 = absurd (never v (sym happened.0 ∙ is))

-- a client is changed after a step
pub edited : (w w1 w2 : World) (c r : ℕ) (e : Event) (y : Reply) (p left : Peer) (f : Peer → Option Peer) (b : Bool) (x : Option World) → finmap.get w.peers c ≡ Some p → f p ≡ Some left → at_site w r e ≡ Some (y, w1)
    → Happened w1 b w2 (peer_event w1 c f) → x ≡ Some (with_peer w1 c left) → Happened w b w2 x
edited w w1 w2 c r e y p left f b x has makes is happened gives =
    sure w1 w2 (with_peer w1 c left) b (peer_event w1 c f) x
    (ap (option_and_then (λ p. option_map (with_peer w1 c) (f p))) (ap (λ m. finmap.get m c) (peers_stay w r e y w1 is) ∙ has) ∙ ap (option_map (with_peer w1 c)) makes)
    gives happened w

-- the link of a client, if there is one
abbrev link_of : Option Peer → Option Link
link_of o = option_and_then (λ p. p.link) o

-- a client that is up, and its link
abbrev pub Found : World → ℕ → ℕ → ℕ → Type 0
Found w c r n = (p : Peer) × (l : Link) × (finmap.get w.peers c ≡ Some p) × (p.link ≡ Some l) × (l.replica ≡ r) × (l.stream ≡ n)

found_link : (w : World) (c r n : ℕ) (p : Peer) (o : Option Link) → finmap.get w.peers c ≡ Some p → p.link ≡ o → Some (r, n) ≡ option_map leads o → Found w c r n
found_link w c r n p None has up is = absurd cc
found_link w c r n p (Some l) has up is = let same = some_is (r, n) (leads l) is in (p, l, has, up, sym (ap (λ x. x.0) same), sym (ap (λ x. x.1) same))

found_peer : (w : World) (c r n : ℕ) (o : Option Peer) → finmap.get w.peers c ≡ o → Some (r, n) ≡ option_map leads (link_of o) → Found w c r n
found_peer w c r n None has is = absurd cc
found_peer w c r n (Some p) has is = found_link w c r n p p.link has refl is

found : (w : World) (c r n : ℕ) → Some (r, n) ≡ option_map leads (link_in w c) → Found w c r n
found w c r n is = found_peer w c r n (finmap.get w.peers c) refl is

-- what f makes of a client that is up
on_found : (w : World) (c r n : ℕ) (at : Found w c r n) (f : Peer → Link → Option World) → on_link w c f ≡ f at.0 at.1
on_found w c r n at f = ap (option_and_then (λ p. option_and_then (f p) p.link)) at.2 ∙ ap (option_and_then (f at.0)) at.3

-- ---- up

-- the replica takes the oldest request
up_rest : (w : World) (l : Link) (m : Message) (up : List Message) → l.up ≡ up → Some m ≡ oldest up → (rest : List Message) × (l.up ≡ m ∷ rest)
up_rest w l m [] is old = absurd cc
up_rest w l m (x ∷ rest) is old = (rest, is ∙ ap (λ z. z ∷ rest) (sym (some_is m x old)))

-- what was answered, where something was
happened_is : (o : Option (Reply × World)) (w1 : World) → option_map (λ p. p.1) o ≡ Some w1 → (y : Reply) × (o ≡ Some (y, w1))
happened_is None w1 is = absurd cc
happened_is (Some p) w1 is = (p.0, ap (λ v. Some (p.0, v)) (some_is p.1 w1 is))

-- the oldest request of a client that is up
old_at : (w : World) (c r n : ℕ) (at : Found w c r n) (o : Option Message) → o ≡ option_and_then (λ l. oldest l.up) (link_in w c) → o ≡ oldest at.1.up
old_at w c r n at o is = is ∙ ap (λ q. option_and_then (λ l. oldest l.up) (link_of q)) at.2 ∙ ap (option_and_then (λ l. oldest l.up)) at.3

up_taken_is : (test : Test) (w : World) (c r n : ℕ) (at : Found w c r n) (m : Message) (rest : List Message) → at.1.up ≡ m ∷ rest
    → happens test w (happenings.Up c) ≡ option_map (λ q. with_peer q.1 c (record at.0 { link = Some (record at.1 { up = rest }) })) (at_site w r (events.Request n m))
up_taken_is test w c r n at m rest is =
    on_found w c r n at (λ p l. up_taken w c p l l.up) ∙ ap (up_taken w c at.0 at.1) is
    ∙ (λ i. option_map (λ q. with_peer q.1 c (record at.0 { link = Some (record at.1 { up = rest }) })) (at_site w (at.4 i) (events.Request (at.5 i) m)))

pub up_done : (test : Test) (w w1 w2 : World) (c r n : ℕ) (m : Message) (b : Bool) → Some (r, n) ≡ option_map leads (link_in w c) → Some m ≡ option_and_then (λ l. oldest l.up) (link_in w c)
    → Happened w true w1 (happened_at w r (events.Request n m)) → Happened w1 b w2 (peer_event w1 c peer_up) → Happened w b w2 (happens test w (happenings.Up c))
up_done test w w1 w2 c r n m b led old done dropped =
    let at = found w c r n led in
    let rest = up_rest w at.1 m at.1.up refl (old_at w c r n at (Some m) old) in
    let says = happened_is (at_site w r (events.Request n m)) w1 done in
    edited w w1 w2 c r (events.Request n m) says.0 at.0 (record at.0 { link = Some (record at.1 { up = rest.0 }) }) peer_up b (happens test w (happenings.Up c)) at.2
    (ap (option_and_then (λ l. option_map (λ k. record at.0 { link = Some k }) (link_up l l.up))) at.3 ∙ ap (λ up. option_map (λ k. record at.0 { link = Some k }) (link_up at.1 up)) rest.1)
    says.1 dropped (up_taken_is test w c r n at m rest.0 rest.1 ∙ ap (option_map (λ q. with_peer q.1 c (record at.0 { link = Some (record at.1 { up = rest.0 }) }))) says.1)

-- ---- poll

poll_is : (test : Test) (w : World) (c r n : ℕ) (at : Found w c r n) (which : Option TypeName) → happens test w (happenings.Poll c which) ≡ option_and_then (polled c at.0 at.1) (at_site w r (events.Poll n which))
poll_is test w c r n at which =
    on_found w c r n at (λ p l. option_and_then (polled c p l) (at_site w l.replica (events.Poll l.stream which)))
    ∙ (λ i. option_and_then (polled c at.0 at.1) (at_site w (at.4 i) (events.Poll (at.5 i) which)))

pub poll_done : (test : Test) (w w1 w2 : World) (c r n : ℕ) (which : Option TypeName) (o : Option Draft) (b : Bool) → Some (r, n) ≡ option_map leads (link_in w c) → Gave events.Polled w (Some o) w1 (at_site w r (events.Poll n which))
    → Happened w1 b w2 (peer_event w1 c (peer_polled o)) → Happened w b w2 (happens test w (happenings.Poll c which))
poll_done test w w1 w2 c r n which o b led gave responded =
    let at = found w c r n led in
    edited w w1 w2 c r (events.Poll n which) (events.Polled o) at.0 (record at.0 { link = Some (record at.1 { down = at.1.down ++ under_way o }) }) (peer_polled o) b (happens test w (happenings.Poll c which)) at.2
    (ap (option_and_then (λ l. Some (record at.0 { link = Some (record l { down = l.down ++ under_way o }) }))) at.3)
    gave responded (poll_is test w c r n at which ∙ ap (option_and_then (polled c at.0 at.1)) gave)

-- ---- connect

abbrev pub is_idle : Option Peer → Bool
is_idle o = option_map_or is_to_connect o false

idle_peer : (o : Option Peer) → true ≡ is_idle o → (p : Peer) × (o ≡ Some p) × (true ≡ is_to_connect p)
idle_peer None is = absurd cc
idle_peer (Some p) is = (p, refl, is)

connect_is : (test : Test) (w : World) (c r : ℕ) (p : Peer) → finmap.get w.peers c ≡ Some p → true ≡ is_to_connect p → happens test w (happenings.Connect c r) ≡ option_and_then (opened c r p) (at_site w r events.Open)
connect_is test w c r p has idle =
    ap (option_and_then (λ p. if is_to_connect p then option_and_then (opened c r p) (at_site w r events.Open) else None)) has ∙ ap (λ b. if b then option_and_then (opened c r p) (at_site w r events.Open) else None) (sym idle)

pub connect_done : (test : Test) (w w1 w2 : World) (c r n : ℕ) (b : Bool) → true ≡ is_idle (finmap.get w.peers c) → Gave events.Opened w (Some n) w1 (at_site w r events.Open) → Happened w1 b w2 (peer_event w1 c (peer_connected r n))
    → Happened w b w2 (happens test w (happenings.Connect c r))
connect_done test w w1 w2 c r n b idle gave connected =
    let at = idle_peer (finmap.get w.peers c) idle in
    edited w w1 w2 c r events.Open (events.Opened n) at.0 (connected_to at.0 r n) (peer_connected r n) b (happens test w (happenings.Connect c r)) at.1
    (ap (λ b. if b then Some (connected_to at.0 r n) else None) (sym at.2)) gave connected (connect_is test w c r at.0 at.1 at.2 ∙ ap (option_and_then (opened c r at.0)) gave)

-- ---- down

down_either : (test : Test) (w : World) (c : ℕ) (p : Peer) (l : Link) (ds : List Draft) → down_taken test w c p l ds ≡ option_map (with_peer w c) (link_down test p l ds)
down_either test w c p l [] = refl
down_either test w c p l (d ∷ rest) = option_map-twice (taken_down p l rest) (with_peer w c) (received test p d)

down_of : (test : Test) (w : World) (c : ℕ) (p : Peer) (o : Option Link) → option_and_then (λ l. down_taken test w c p l l.down) o ≡ option_map (with_peer w c) (option_and_then (λ l. link_down test p l l.down) o)
down_of test w c p None = refl
down_of test w c p (Some l) = down_either test w c p l l.down

down_is : (test : Test) (w : World) (c : ℕ) (o : Option Peer) → option_and_then (λ p. option_and_then (λ l. down_taken test w c p l l.down) p.link) o ≡ option_and_then (λ p. option_map (with_peer w c) (peer_down test p)) o
down_is test w c None = refl
down_is test w c (Some p) = down_of test w c p p.link

happened_same : {S : Type 0} (w w2 : S) (b : Bool) (o x : Option S) → x ≡ o → Happened w b w2 o → Happened w b w2 x
happened_same w w2 b o x same is = subst (Happened w b w2) (sym same) is

pub down_done : (test : Test) (w w2 : World) (c : ℕ) (b : Bool) → Happened w b w2 (peer_event w c (peer_down test)) → Happened w b w2 (happens test w (happenings.Down c))
down_done test w w2 c b is = happened_same w w2 b (peer_event w c (peer_down test)) (happens test w (happenings.Down c)) (down_is test w c (finmap.get w.peers c)) is

-- ---- change

change_is : (w : World) (c : ℕ) (t : TypeName) (wish : happenings.Wish) (o : Option Peer)
    → option_and_then (λ p. option_map (λ q. with_peer w c (changed p q)) (wish_taken p t wish)) o ≡ option_and_then (λ p. option_map (with_peer w c) (peer_changed t wish p)) o
change_is w c t wish None = refl
change_is w c t wish (Some p) = option_map-twice (changed p) (with_peer w c) (wish_taken p t wish)

pub change_done : (test : Test) (w w2 : World) (c : ℕ) (t : TypeName) (wish : happenings.Wish) (b : Bool) → Happened w b w2 (peer_event w c (peer_changed t wish)) → Happened w b w2 (happens test w (happenings.Change c t wish))
change_done test w w2 c t wish b is = happened_same w w2 b (peer_event w c (peer_changed t wish)) (happens test w (happenings.Change c t wish)) (change_is w c t wish (finmap.get w.peers c)) is

-- the same where the change may find no memory
pub poll_within : (test : Test) (w w1 w2 : World) (c r n : ℕ) (which : Option TypeName) (o : Option Draft) → Some (r, n) ≡ option_map leads (link_in w c) → Gave events.Polled w (Some o) w1 (at_site w r (events.Poll n which))
    → (q : Result Bool Refusal) → IfOk q (λ b. Happened w1 b w2 (peer_event w1 c (peer_polled o))) → IfOk q (λ b. Happened w b w2 (happens test w (happenings.Poll c which)))
poll_within test w w1 w2 c r n which o led gave (Ok b) responded = poll_done test w w1 w2 c r n which o b led gave responded
poll_within test w w1 w2 c r n which o led gave (Err e) responded = responded

pub connect_within : (test : Test) (w w1 w2 : World) (c r n : ℕ) → true ≡ is_idle (finmap.get w.peers c) → Gave events.Opened w (Some n) w1 (at_site w r events.Open)
    → (q : Result Bool Refusal) → IfOk q (λ b. Happened w1 b w2 (peer_event w1 c (peer_connected r n))) → IfOk q (λ b. Happened w b w2 (happens test w (happenings.Connect c r)))
connect_within test w w1 w2 c r n idle gave (Ok b) connected = connect_done test w w1 w2 c r n b idle gave connected
connect_within test w w1 w2 c r n idle gave (Err e) connected = connected

-- the same where they may find no memory
pub down_within : (test : Test) (w w2 : World) (c : ℕ) (q : Result Bool Refusal) → IfOk q (λ b. Happened w b w2 (peer_event w c (peer_down test))) → IfOk q (λ b. Happened w b w2 (happens test w (happenings.Down c)))
down_within test w w2 c (Ok b) is = down_done test w w2 c b is
down_within test w w2 c (Err e) is = is

pub change_within : (test : Test) (w w2 : World) (c : ℕ) (t : TypeName) (wish : happenings.Wish) (q : Result Bool Refusal) → IfOk q (λ b. Happened w b w2 (peer_event w c (peer_changed t wish)))
    → IfOk q (λ b. Happened w b w2 (happens test w (happenings.Change c t wish)))
change_within test w w2 c t wish (Ok b) is = change_done test w w2 c t wish b is
change_within test w w2 c t wish (Err e) is = is
