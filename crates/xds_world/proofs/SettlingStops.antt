-- Where settling a client of a type gets no further: the responses on its stream are spent, and one of the type is due.
use Rattle.std.proofs.Common.{◌≡◌, inl, inr, ℕ, List, [], ◌∷◌, ◌++◌, ◌+◌, Bool, true, false, ◌&&◌, not, Option, Some, None, Result, Ok, Err, refl, sym, ap, subst, ◌∙◌, length}
use Rattle.std.specs.Prelude.{◌==◌, if◌then◌else◌, is_some, option_map}
use Rattle.std.specs.Option.{option_map_or, option_and_then}
use Rattle.std.specs.FinMap as finmap
use Rattle.xds_resource.specs.declared.types.TypeName.{TypeName}
use Rattle.xds_resource.specs.declared.types.TypeName.TheVariants.{Cluster, Endpoint, Listener, Route, Secret}
use Rattle.xds_resource.specs.declared.refusal.Refusal.{Refusal}
use Rattle.xds_resource.specs.declared.refusal.Refusal.TheVariants.{BadMessage, WrongVariant, NoStream, NonceSpent}
use Rattle.xds_resource.specs.Refusals.{unless_refused}
use Rattle.xds_resource.specs.Stamps.{max_counter}
use Rattle.xds_resource.specs.Types.{row, type_of_url}
use Rattle.xds_resource.specs.PerType.{PerType, at}
use Rattle.xds_message.specs.declared.draft.Draft.{Draft}
use Rattle.xds_message.specs.declared.draft.Draft.TheVariants as drafts
use Rattle.xds_message.specs.Drafts.{message_of, delta_message_of}
use Rattle.xds_message.specs.DraftTexts.{kind_of}
use Rattle.xds_ledger.specs.declared.outcome.Outcome.{Outcome}
use Rattle.xds_ledger.specs.declared.variant.VariantName.{VariantName}
use Rattle.xds_ledger.specs.declared.variant.VariantName.TheVariants as variants
use Rattle.xds_ledger.specs.Offers.{Offer}
use Rattle.xds_ledger.specs.Sessions.{Session}
use Rattle.xds_core.specs.Stores.{if_done}
use Rattle.xds_core.specs.Streams as streams
use Rattle.xds_core.specs.Streams.{Stream, Message, url_of, variant_of, is_same_variant, is_foreign, sessions_for, answered_by, requested, to_send, response_of, sent, polled_first, looked_at}
use Rattle.xds_core.specs.Events as events
use Rattle.xds_core.specs.Events.{Event, Reply, Answered, Polled}
use Rattle.xds_core.specs.Steps.{Core, step, with_stream, stream_step}
use Rattle.xds_cache.specs.Faults.{Test}
use Rattle.xds_cache.specs.Clients.{Client, shelf, addressing, addressed_or, if_asked}
use Rattle.xds_cache.specs.Receives.{if_addressed, sotw_answered, delta_answered}
use Rattle.xds_script.specs.declared.event.ClientKind.{ClientKind}
use Rattle.xds_script.specs.declared.event.ClientKind.TheVariants.{Sotw, Delta, Rest}
use Rattle.xds_script.specs.Happenings.{Happening, Up, Poll, Down}
use Rattle.xds_world.specs.Worlds.{Site, Link, Peer, World, recorded, answered_at, at_site, with_peer, under_way, polled, up_taken, has_streams, received_in, received_by, taken_down, down_taken, on_link, happens, world}
use Rattle.xds_world.specs.Knows.{TypedWrite}
use Rattle.xds_world.specs.Claims.{PutResources}
use Rattle.xds_world.specs.Settling.{brings, next_on, polls_unless, next_to_settle, lacks_number, is_spent_for, IsAtStop, StopsWhereSpent}
use Rattle.xds_world.proofs.Replicas.{some_is}
use Rattle.xds_world.proofs.Lanes.{variant_in, asks_if_sent, awaited}
use Rattle.xds_world.proofs.Folding.{folded}
use Rattle.xds_world.proofs.Queues.{lane_up, AllOf, Speaks, Linked, started}
use Rattle.xds_world.proofs.LinkTakes.{brought, spoken}
use Rattle.xds_world.proofs.ByKind.{LinkedAs, LinkedTo}
use Rattle.xds_world.proofs.SettlingSteps.{Spot, link_at, linked_at, own_stream, poll_one}
use Rattle.xds_world.proofs.SettlingMoves.{next_is}
use Rattle.xds_world.proofs.SettlingPolls.{IsSure, world_sure, next_there}
use Rattle.xds_message.proofs.StampedWriteLemmas.{type_of_url-url}

-- ---- the replica takes each request

long_url : (t : TypeName) → (length (row t).url == 0) ≡ false
long_url Cluster = refl
long_url Endpoint = refl
long_url Listener = refl
long_url Route = refl
long_url Secret = refl

same_variant : (v : VariantName) → is_same_variant v v ≡ true
same_variant variants.StateOfTheWorld = refl
same_variant variants.Delta = refl

own_variant : (v : VariantName) (cluster : List ℕ) (x : Stream) (m : Message) → Speaks v cluster x → is_same_variant v (variant_of m) ≡ true → is_foreign x m ≡ false
own_variant v cluster x m (inl fresh) same = ap (λ o. option_map_or (λ k. not (is_same_variant k (variant_of m))) o false) fresh.0
own_variant v cluster x m (inr is) same = ap (λ o. option_map_or (λ k. not (is_same_variant k (variant_of m))) o false) is ∙ ap not same

takes_request : (v : VariantName) (all : List TypedWrite) (c : Client) (l : Link) (x : Stream) (m : Message) (rest : List Message) → l.up ≡ m ∷ rest → Linked v all c l (started c.cluster x) → (z : Outcome × Stream) × (requested x m ≡ Ok z)
takes_request v all c l x m rest up linked =
    let ss : PerType Session = sessions_for x m in
    let made : Outcome × PerType Session = answered_by ss m (type_of_url (url_of m)) in
    let named = (subst (AllOf v) up linked.requests).0 in
    let own : is_foreign x m ≡ false = own_variant v c.cluster (started c.cluster x) m linked.variant (ap (is_same_variant v) named.1 ∙ same_variant v) in
    let long : (length (url_of m) == 0) ≡ false = ap (λ u. length u == 0) named.2 ∙ long_url named.0 in (
      (made.0, record { variant = Some (variant_of m); count = x.count; sessions = made.1 }),
      (λ i. if own i then Err WrongVariant else if_done (λ p. (p.0, record { variant = Some (variant_of m); count = x.count; sessions = p.1 })) (unless_refused ((long i, BadMessage) ∷ []) made)),
    )

-- ---- the client takes each response

addressed_to : (c : Client) (t : TypeName) → c.broken ≡ false → (shelf c t).asked ≡ true → addressing c (row t).url ≡ Ok t
addressed_to c t usable asked =
    (λ i. if usable i then Err NoStream else addressed_or (option_and_then (if_asked c) (type_of_url-url t i))) ∙ ap (λ b. addressed_or (if b then Some t else None)) asked

takes_by : (k : ClientKind) (test : Test) (c : Client) (d : Draft) → has_streams k ≡ true → variant_in d ≡ spoken k → c.broken ≡ false → (shelf c (kind_of d)).asked ≡ true → (q : Client × Message) × (received_in test k c d ≡ Some q)
takes_by Sotw test c (drafts.Sotw e) has speaks usable asked =
    let made = sotw_answered test c (message_of e) e.kind in ((made.0, streams.Sotw made.1), ap (λ r. received_by streams.Sotw (if_addressed (sotw_answered test c (message_of e)) r)) (addressed_to c e.kind usable asked))
takes_by Sotw test c (drafts.Delta e) has speaks usable asked = absurd cc
takes_by Delta test c (drafts.Sotw e) has speaks usable asked = absurd cc
takes_by Delta test c (drafts.Delta e) has speaks usable asked =
    let made = delta_answered test c (delta_message_of e) e.kind in ((made.0, streams.Delta made.1), ap (λ r. received_by streams.Delta (if_addressed (delta_answered test c (delta_message_of e)) r)) (addressed_to c e.kind usable asked))
takes_by Rest test c d has speaks usable asked = absurd cc

takes_response : (k : ClientKind) (all : List TypedWrite) (test : Test) (c : Client) (l : Link) (x : Stream) (d : Draft) (rest : List Draft) → l.down ≡ d ∷ rest → c.broken ≡ false → LinkedAs k all c l x → (q : Client × Message) × (received_in test k c d ≡ Some q)
takes_response k all test c l x d rest down usable linked =
    let t : TypeName = kind_of d in
    let s : Session = folded t (at x.sessions t) (lane_up t l.up) in
    let abreast = brought (spoken k) all c l x d rest down linked.1 in
    let sent = awaited (spoken k) all t s.account.nonce s.account.sent (shelf c t).wants (shelf c t).nonce d abreast.awaits in
    takes_by k test c d linked.0 sent.2.speaks usable (asks_if_sent (spoken k) c.cluster t s (shelf c t) sent.0 sent.1 abreast.asks).0

-- ---- what is possible at a spot

on_spot : (w : World) (c : ℕ) (f : Peer → Link → Option World) (s : Spot w c) → on_link w c f ≡ f s.peer s.link
on_spot w c f s = ap (option_and_then (λ (p : Peer). option_and_then (f p) p.link)) s.has ∙ ap (option_and_then (f s.peer)) s.linked

-- what the replica answers to an event of the client's stream
answers_at : {X : Type 0} (w : World) (c : ℕ) (s : Spot w c) (e : Event) (reply : X → Reply) (f : Core → Stream → Result (X × Stream) Refusal) (a : X × Stream) → ((k : Core) → step k e ≡ stream_step k s.link.stream reply (f k)) → f s.site.core s.stream ≡ Ok a
    → (y : World) × (at_site w s.link.replica e ≡ Some (reply a.0, y))
answers_at w c s e reply f a is_step made =
    let k : Core = s.site.core in
    let n : ℕ = s.link.stream in
    let stepped : step k e ≡ Ok (reply a.0, with_stream k n a.1) =
    is_step k ∙ ap (λ o. option_map_or (λ z. if_done (λ p. (reply p.0, with_stream k n p.1)) (f k z)) o (Err NoStream)) s.opened ∙ ap (if_done (λ p. (reply p.0, with_stream k n p.1))) made in (
      record w { sites = finmap.insert w.sites s.link.replica (recorded s.site e (reply a.0, with_stream k n a.1)) },
      ap (option_and_then (λ (z : Site). answered_at w s.link.replica z e (step z.core e))) s.there ∙ ap (answered_at w s.link.replica s.site e) stepped,
    )

up_happens : (test : Test) (w : World) (all : List TypedWrite) (c : ℕ) (s : Spot w c) (m : Message) (rest : List Message) → s.link.up ≡ m ∷ rest → LinkedTo s.peer.kind all s.peer.client s.link s.stream → happens test w (Up c) ≡ None → ⊥
up_happens test w all c s m rest up linked none =
    let e : Event = events.Request s.link.stream m in
    let taken = takes_request (spoken s.peer.kind) all s.peer.client s.link s.stream m rest up linked.1.1 in
    let answer = answers_at w c s e Answered (λ k z. requested z m) taken.0 (λ k. refl) taken.1 in
    let after : Peer = record s.peer { link = Some (record s.link { up = rest }) } in
    let happened : happens test w (Up c) ≡ Some (with_peer answer.0 c after) =
    on_spot w c (λ p l. up_taken w c p l l.up) s ∙ ap (up_taken w c s.peer s.link) up ∙ ap (option_map (λ q. with_peer q.1 c after)) answer.1 in
    let never : Some (with_peer answer.0 c after) ≡ None = sym happened ∙ none in absurd cc

down_happens : (test : Test) (w : World) (all : List TypedWrite) (c : ℕ) (t : TypeName) (s : Spot w c) (ds : List Draft) → s.link.down ≡ ds → brings t (record s.link { down = ds }) ≡ true → s.peer.client.broken ≡ false → LinkedTo s.peer.kind all s.peer.client s.link s.stream
    → happens test w (Down c) ≡ None → ⊥
down_happens test w all c t s [] down under usable linked none = absurd cc
down_happens test w all c t s (d ∷ rest) down under usable linked none =
    let taken = takes_response s.peer.kind all test s.peer.client s.link (own_stream w c s) d rest down usable linked.1 in
    let left : World = with_peer w c (taken_down s.peer s.link rest taken.0) in
    let happened : happens test w (Down c) ≡ Some left =
    on_spot w c (λ p l. down_taken test w c p l l.down) s ∙ ap (down_taken test w c s.peer s.link) down ∙ ap (option_map (λ q. with_peer w c (taken_down s.peer s.link rest q))) taken.1 in
    let never : Some left ≡ None = sym happened ∙ none in absurd cc

-- ---- a poll that isn't possible

spent_at : (w : World) (c : ℕ) (t : TypeName) (s : Spot w c) → lacks_number t s.site.core.store s.stream ≡ true → is_spent_for w c t ≡ true
spent_at w c t s lacks =
    ap (λ o. option_map_or (λ (l : Link). option_map_or (λ (z : Site). option_map_or (lacks_number t z.core.store) (finmap.get z.core.streams l.stream) false) (finmap.get w.sites l.replica) false) o false) (link_at w c s)
    ∙ ap (λ o. option_map_or (λ (z : Site). option_map_or (lacks_number t z.core.store) (finmap.get z.core.streams s.link.stream) false) o false) s.there
    ∙ ap (λ o. option_map_or (lacks_number t s.site.core.store) o false) s.opened ∙ lacks

polls_at : (test : Test) (w : World) (c : ℕ) (t : TypeName) (s : Spot w c) (a : Option Draft × Stream) → polled_first s.site.core.replica s.site.core.store s.stream (looked_at (Some t)) ≡ Ok a → happens test w (Poll c (Some t)) ≡ None → ⊥
polls_at test w c t s a made none =
    let e : Event = events.Poll s.link.stream (Some t) in
    let answer = answers_at w c s e Polled (λ k z. polled_first k.replica k.store z (looked_at (Some t))) a (λ k. refl) made in
    let left : World = with_peer answer.0 c (record s.peer { link = Some (record s.link { down = s.link.down ++ under_way a.0 }) }) in
    let happened : happens test w (Poll c (Some t)) ≡ Some left =
    on_spot w c (λ p l. option_and_then (polled c p l) (at_site w l.replica (events.Poll l.stream (Some t)))) s ∙ ap (option_and_then (polled c s.peer s.link)) answer.1 in
    let never : Some left ≡ None = sym happened ∙ none in absurd cc

poll_spent : (test : Test) (w : World) (c : ℕ) (t : TypeName) (s : Spot w c) (o : Option Offer) (full : Bool) → to_send s.site.core.store s.stream t ≡ o → (s.stream.count == max_counter) ≡ full → happens test w (Poll c (Some t)) ≡ None → is_spent_for w c t ≡ true
poll_spent test w c t s None full due counted none =
    let k : Core = s.site.core in
    absurd (polls_at test w c t s (None, s.stream) (poll_one k.replica k.store s.stream t None due) none)
poll_spent test w c t s (Some o) true due counted none = spent_at w c t s (λ i. counted i && is_some (due i))
poll_spent test w c t s (Some o) false due counted none =
    let k : Core = s.site.core in
    let x : Stream = s.stream in
    let a : Option Draft × Stream = (option_map (response_of k.replica k.store x.sessions t o (x.count + 1)) x.variant, sent x t o) in
    absurd (polls_at test w c t s a (poll_one k.replica k.store x t (Some o) due ∙ ap (λ b. unless_refused ((b, NonceSpent) ∷ []) a) counted) none)

-- ---- where settling stops

stops_by : (test : Test) (w : World) (all : List TypedWrite) (c : ℕ) (t : TypeName) (h : Happening) (s : Spot w c) (ms : List Message) (b : Bool) → s.link.up ≡ ms → brings t s.link ≡ b → h ≡ next_on c t s.link ms → s.peer.client.broken ≡ false
    → LinkedTo s.peer.kind all s.peer.client s.link s.stream → next_to_settle w c t ≡ Some h → happens test w h ≡ None → IsAtStop test c t false w
stops_by test w all c t h s (m ∷ rest) b up under is usable linked next none = absurd (up_happens test w all c s m rest up linked (ap (happens test w) (sym is) ∙ none))
stops_by test w all c t h s [] true up under is usable linked next none =
    absurd (down_happens test w all c t s s.link.down refl under usable linked (ap (happens test w) (sym (is ∙ ap (λ x. polls_unless x c t) under)) ∙ none))
stops_by test w all c t h s [] false up under is usable linked next none =
    let poll : h ≡ Poll c (Some t) = is ∙ ap (λ x. polls_unless x c t) under in
    let polled_none : happens test w (Poll c (Some t)) ≡ None = ap (happens test w) (sym poll) ∙ none in
    (refl, next ∙ ap Some poll, polled_none, poll_spent test w c t s (to_send s.site.core.store s.stream t) (s.stream.count == max_counter) refl refl polled_none)

stops_sure : (test : Test) (w : World) (c : ℕ) (t : TypeName) (h : Happening) → IsSure w → next_to_settle w c t ≡ Some h → happens test w h ≡ None → IsAtStop test c t false w
stops_sure test w c t h sure next none =
    let s = (next_there test w c t h sure next).spot in
    stops_by test w sure.1 c t h s s.link.up (brings t s.link) refl refl (next_is w c t h s next) (sure.2.fine.usable c s.peer s.has) (linked_at w sure.1 c s sure.2.fine) next none

-- In a world as it comes, what is to be done next is possible, unless it is a poll of a stream whose responses are spent.
pub stops_where_spent : (test : Test) (hs : List Happening) (w : World) (c : ℕ) (t : TypeName) (h : Happening) → PutResources hs → w ≡ world test hs → next_to_settle w c t ≡ Some h → happens test w h ≡ None → IsAtStop test c t false w
stops_where_spent test hs w c t h put is next none = stops_sure test w c t h (subst IsSure (sym is) (world_sure test hs put)) next none

stopped_poll : (test : Test) (w : World) (c : ℕ) (t : TypeName) (h : Happening) → next_to_settle w c t ≡ Some h → IsAtStop test c t false w → (h ≡ Poll c (Some t)) × (is_spent_for w c t ≡ true)
stopped_poll test w c t h next stop = (some_is h (Poll c (Some t)) (sym next ∙ stop.1), stop.3)

pub what_stops_is_spent : (test : Test) (hs : List Happening) → PutResources hs → StopsWhereSpent test hs
what_stops_is_spent test hs put c t h next none = stopped_poll test (world test hs) c t h next (stops_where_spent test hs (world test hs) c t h put refl next none)
