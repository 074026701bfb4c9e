-- What is done next to settle a client of a type, and what that does to the session of the type.
use Rattle.std.proofs.Common.{◌≡◌, ◌⊎◌, inl, inr, ℕ, List, [], ◌∷◌, ◌++◌, Bool, true, false, ◌||◌, ◌&&◌, not, Option, Some, None, refl, sym, ap, subst, ◌∙◌}
use Rattle.std.specs.Prelude.{if◌then◌else◌, option_map}
use Rattle.std.specs.Option.{option_and_then, option_map_or}
use Rattle.std.specs.List.{list_any}
use Rattle.std.specs.FinMap as finmap
use Rattle.xds_resource.specs.declared.types.TypeName.{TypeName}
use Rattle.xds_resource.specs.Types.{is_same_type}
use Rattle.xds_resource.specs.PerType.{at}
use Rattle.xds_catalogue.specs.Holdings.{Entries}
use Rattle.xds_message.specs.declared.draft.Draft.{Draft}
use Rattle.xds_message.specs.DraftTexts.{kind_of}
use Rattle.xds_ledger.specs.Offers.{Offer}
use Rattle.xds_ledger.specs.Sessions as sessions
use Rattle.xds_ledger.specs.Sessions.{Session, send}
use Rattle.xds_core.specs.Stores.{Store}
use Rattle.xds_core.specs.Streams.{Stream, Message, session_after, requested, polled_first, looked_at}
use Rattle.xds_core.specs.Events as events
use Rattle.xds_core.specs.Events.{Answered, Polled}
use Rattle.xds_cache.specs.Faults.{Test}
use Rattle.xds_cache.specs.Clients.{Client, shelf}
use Rattle.xds_script.specs.Happenings.{Happening, Up, Poll, Down, PutsAResource}
use Rattle.xds_world.specs.Worlds.{Link, Peer, World, at_site, with_peer, up_taken, under_way, polled, received, taken_down, down_taken, happens}
use Rattle.xds_world.specs.Knows.{TypedWrite}
use Rattle.xds_world.specs.Claims.{asks_for, is_quiet, is_settled}
use Rattle.xds_world.specs.Settling.{brings, polls_unless, next_on, link_in, next_to_settle, gave_nothing, takes_one, taken_now}
use Rattle.xds_world.proofs.Replicas.{some_is, bound_some, mapped_some}
use Rattle.xds_world.proofs.ByKind.{received_stays}
use Rattle.xds_world.proofs.LinkTakes.{received_wants, spoken}
use Rattle.xds_world.proofs.Queues.{Linked, started}
use Rattle.xds_world.proofs.Starting.{polled_started}
use Rattle.xds_world.proofs.Everyone.{Fine}
use Rattle.xds_world.proofs.Lanes.{HasAnswer}
use Rattle.xds_world.proofs.SettlingSteps.{Spot, link_at, linked_at, own_stream, at_spot, moved, at_stream, ahead, ahead_more, up_home, poll_is, among, none_more, one_more, none_behind, answer_asks, down_answers}
use Rattle.xds_world.proofs.EveryEvent.{polled_reply, get_put}

-- ---- what is done next

if_not : {X : Type 0} (b : Bool) (o : Option X) (x : X) → (if b then None else o) ≡ Some x → (b ≡ false) × (o ≡ Some x)
if_not true o x is = absurd cc
if_not false o x is = (refl, is)

-- a client that is to be settled has a stream
pub next_links : (w : World) (c : ℕ) (t : TypeName) (h : Happening) → next_to_settle w c t ≡ Some h → (is_settled w c t ≡ false) × ((l : Link) × (link_in w c ≡ Some l) × (h ≡ next_on c t l l.up))
next_links w c t h is =
    let unsettled = if_not (is_settled w c t) (option_map (λ l. next_on c t l l.up) (link_in w c)) h is in
    let made = mapped_some (λ l. next_on c t l l.up) (link_in w c) h unsettled.1 in
    (unsettled.0, (made.0, made.1, made.2))

pub next_is : (w : World) (c : ℕ) (t : TypeName) (h : Happening) (s : Spot w c) → next_to_settle w c t ≡ Some h → h ≡ next_on c t s.link s.link.up
next_is w c t h s is =
    let made = (next_links w c t h is).1 in
    let same : made.0 ≡ s.link = some_is made.0 s.link (sym made.1 ∙ link_at w c s) in
    made.2 ∙ ap (λ l. next_on c t l l.up) same

-- the three of which it is one
abbrev pub OneOfThree : ℕ → TypeName → Link → Happening → Type 0
OneOfThree c t l h =
    ((m : Message) × (rest : List Message) × (l.up ≡ m ∷ rest) × (h ≡ Up c)) ⊎ (((l.up ≡ []) × (h ≡ Down c)) ⊎ ((l.up ≡ []) × (brings t l ≡ false) × (h ≡ Poll c (Some t))))

pub one_of_three : (c : ℕ) (t : TypeName) (l : Link) (h : Happening) (ms : List Message) (b : Bool) → l.up ≡ ms → brings t l ≡ b → h ≡ next_on c t l ms → OneOfThree c t l h
one_of_three c t l h (m ∷ rest) b up under is = inl (m, rest, up, is)
one_of_three c t l h [] true up under is = inr (inl (up, is ∙ ap (λ x. polls_unless x c t) under))
one_of_three c t l h [] false up under is = inr (inr (up, under, is ∙ ap (λ x. polls_unless x c t) under))

-- it puts nothing
pub puts_nothing : (c : ℕ) (t : TypeName) (l : Link) (h : Happening) → OneOfThree c t l h → PutsAResource h
puts_nothing c t l h (inl is) = subst PutsAResource (sym is.3) tt
puts_nothing c t l h (inr (inl is)) = subst PutsAResource (sym is.1) tt
puts_nothing c t l h (inr (inr is)) = subst PutsAResource (sym is.2) tt

abbrev pub is_poll : Happening → Bool
is_poll (Poll c which) = true
is_poll h = false

-- ---- what it does

-- the session of the type once all requests under way are taken, and what the replica holds of it
abbrev pub session_at : (w : World) (c : ℕ) → TypeName → Spot w c → Session
session_at w c t s = ahead t (at (own_stream w c s).sessions t) s.link.up

abbrev pub held_at : (w : World) (c : ℕ) → TypeName → Spot w c → Entries
held_at w c t s = (at s.site.core.store t).entries

-- nothing of the type
abbrev pub Stays : (w y : World) (c : ℕ) → TypeName → Happening → Spot w c → Spot y c → Type 0
Stays w y c t h s z = (is_poll h ≡ false) × (taken_now c t w h ≡ 0) × (session_at y c t z ≡ session_at w c t s) × (brings t z.link ≡ brings t s.link) × (gave_nothing t h (link_in y c) ≡ false)

-- the client takes the response of the type
abbrev pub Takes : (w y : World) (c : ℕ) → TypeName → Happening → Spot w c → Spot y c → Type 0
Takes w y c t h s z = (is_poll h ≡ false) × (taken_now c t w h ≡ 1) × HasAnswer (spoken s.peer.kind) t (session_at w c t s) (session_at y c t z) × (brings t s.link ≡ true) × (brings t z.link ≡ false) × (gave_nothing t h (link_in y c) ≡ false)

-- the replica sends one
pub record Sends (w y : World) (c : ℕ) (t : TypeName) (h : Happening) (s : Spot w c) (z : Spot y c) : Type 0 where
  pub takes : taken_now c t w h ≡ 0
  pub offer : Offer
  pub number : ℕ
  pub due : sessions.sending (spoken s.peer.kind) t (session_at w c t s) (held_at w c t s) ≡ Some offer
  pub left : session_at y c t z ≡ send (session_at w c t s) offer number
  pub before : brings t s.link ≡ false
  pub after : brings t z.link ≡ true
  pub gave : gave_nothing t h (link_in y c) ≡ false

-- or is polled and sends none
abbrev pub Ends : (w y : World) (c : ℕ) → TypeName → Happening → Spot w c → Spot y c → Type 0
Ends w y c t h s z =
    (taken_now c t w h ≡ 0) × (gave_nothing t h (link_in y c) ≡ true) × (is_quiet t z.link ≡ true) × (session_at y c t z ≡ session_at w c t s)
    × (sessions.sending (spoken s.peer.kind) t (session_at w c t s) (held_at w c t s) ≡ None)

pub record Moved (w y : World) (c : ℕ) (t : TypeName) (h : Happening) (s : Spot w c) : Type 0 where
  pub spot : Spot y c
  pub kind : spot.peer.kind ≡ s.peer.kind
  pub held : held_at y c t spot ≡ held_at w c t s
  pub cluster : spot.peer.client.cluster ≡ s.peer.client.cluster
  pub wants : (shelf spot.peer.client t).wants ≡ (shelf s.peer.client t).wants
  pub how : Stays w y c t h s spot ⊎ (Takes w y c t h s spot ⊎ (Sends w y c t h s spot ⊎ Ends w y c t h s spot))

-- ---- Up

up_moved : (test : Test) (w y : World) (all : List TypedWrite) (c : ℕ) (t : TypeName) (s : Spot w c) (m : Message) (rest : List Message) → s.link.up ≡ m ∷ rest → happens test w (Up c) ≡ Some y → Fine w all → Moved w y c t (Up c) s
up_moved test w y all c t s m rest up is fine =
    let after : Peer = record s.peer { link = Some (record s.link { up = rest }) } in
    let took : up_taken w c s.peer s.link (m ∷ rest) ≡ Some y = ap (up_taken w c s.peer s.link) (sym up) ∙ at_spot w c (λ p l. up_taken w c p l l.up) y s is in
    let made = mapped_some (λ q. with_peer q.1 c after) (at_site w s.link.replica (events.Request s.link.stream m)) y took in
    let x = at_stream w c s (events.Request s.link.stream m) Answered (λ k z. requested z m) made.0 (λ k. refl) made.1 in
    let left : y ≡ with_peer (record w { sites = finmap.insert w.sites s.link.replica x.site }) c after = made.2 ∙ ap (λ k. with_peer k c after) x.left in
    subst (λ k. Moved w k c t (Up c) s) (sym left)
    (record {
      spot = moved w c s.link.replica x.site x.stream after (record s.link { up = rest }) refl refl x.opened;
      kind = refl;
      held = ap (λ (p : Store). (at p t).entries) x.store;
      cluster = refl;
      wants = refl;
      how = inl (refl, refl, up_home s.peer.kind all s.peer.client s.link s.stream s.peer.client.cluster t m rest (x.answer, x.stream) up x.made (linked_at w all c s fine), refl, refl);
    })

-- ---- Poll

pub poll_moved : (test : Test) (w y : World) (all : List TypedWrite) (c : ℕ) (t : TypeName) (s : Spot w c) → s.link.up ≡ [] → brings t s.link ≡ false → happens test w (Poll c (Some t)) ≡ Some y → Fine w all → Moved w y c t (Poll c (Some t)) s
poll_moved test w y all c t s up none is fine =
    let asked : option_and_then (polled c s.peer s.link) (at_site w s.link.replica (events.Poll s.link.stream (Some t))) ≡ Some y = at_spot w c (λ p l. option_and_then (polled c p l) (at_site w l.replica (events.Poll l.stream (Some t)))) y s is in
    let made = bound_some (polled c s.peer s.link) (at_site w s.link.replica (events.Poll s.link.stream (Some t))) y asked in
    let x = at_stream w c s (events.Poll s.link.stream (Some t)) Polled (λ k z. polled_first k.replica k.store z (looked_at (Some t))) made.0 (λ k. refl) made.1 in
    let next : Link = record s.link { down = s.link.down ++ under_way x.answer } in
    let after : Peer = record s.peer { link = Some next } in
    let left : y ≡ with_peer (record w { sites = finmap.insert w.sites s.link.replica x.site }) c after = polled_reply c s.peer s.link made.0.0 made.0.1 y x.answer x.told made.2 ∙ ap (λ k. with_peer k c after) x.left in
    let spot = moved w c s.link.replica x.site x.stream after next refl refl x.opened in
    let told : gave_nothing t (Poll c (Some t)) (link_in (with_peer (record w { sites = finmap.insert w.sites s.link.replica x.site }) c after) c) ≡ not (brings t next) =
    ap (gave_nothing t (Poll c (Some t))) (link_at (with_peer (record w { sites = finmap.insert w.sites s.link.replica x.site }) c after) c spot) in
    let cluster : List ℕ = s.peer.client.cluster in
    let own : Stream = own_stream w c s in
    let left_own : Stream = started cluster x.stream in
    let here : session_at w c t s ≡ at own.sessions t = ap (ahead t (at own.sessions t)) up in
    let behind : ahead t (at left_own.sessions t) s.link.up ≡ at left_own.sessions t = ap (ahead t (at left_own.sessions t)) up in
    let own_made = polled_started s.site.core.replica s.site.core.store cluster s.stream x.stream (looked_at (Some t)) x.answer x.made in
    subst (λ k. Moved w k c t (Poll c (Some t)) s) (sym left)
    (record {
      spot = spot;
      kind = refl;
      held = ap (λ (p : Store). (at p t).entries) x.store;
      cluster = refl;
      wants = refl;
      how = inr (inr
          (elim (poll_is (spoken s.peer.kind) cluster s.site.core.replica s.site.core.store own t (x.answer, left_own) (linked_at w all c s fine).1.1.variant own_made) [
            | inl sent ↦
                inl (record {
                  takes = refl;
                  offer = sent.offer;
                  number = sent.number;
                  due = ap (λ a. sessions.sending (spoken s.peer.kind) t a (at s.site.core.store t).entries) here ∙ sent.due;
                  left = behind ∙ sent.left ∙ ap (λ a. send a sent.offer sent.number) (sym here);
                  before = none;
                  after = one_more t s.link.down x.answer sent.draft sent.gave sent.kind;
                  gave = told ∙ ap not (one_more t s.link.down x.answer sent.draft sent.gave sent.kind);
                })
            | inr quiet ↦
                (let none_under : brings t next ≡ false = none_more t s.link.down x.answer quiet.0 ∙ none in
                inr (
                  refl,
                  told ∙ ap not none_under,
                  (λ i. not (list_any (asks_for t) (up i)) && not (none_under i)),
                  behind ∙ ap (λ (z : Stream). at z.sessions t) quiet.1 ∙ sym here,
                  ap (λ a. sessions.sending (spoken s.peer.kind) t a (at s.site.core.store t).entries) here ∙ quiet.2,
                ))
          ]));
    })

-- ---- Down

abbrev down_spot : (w : World) (c : ℕ) (s : Spot w c) (rest : List Draft) (q : Client × Message) → Spot (with_peer w c (taken_down s.peer s.link rest q)) c
down_spot w c s rest q = record {
  peer = taken_down s.peer s.link rest q;
  link = record s.link { up = s.link.up ++ q.1 ∷ []; down = rest };
  site = s.site;
  stream = s.stream;
  has = get_put w.peers c (taken_down s.peer s.link rest q);
  linked = refl;
  there = s.there;
  opened = s.opened;
}

down_how : (test : Test) (w : World) (all : List TypedWrite) (c : ℕ) (t : TypeName) (s : Spot w c) (d : Draft) (rest : List Draft) (q : Client × Message) (own : Bool) → s.link.down ≡ d ∷ rest → received test s.peer d ≡ Some q → is_same_type (kind_of d) t ≡ own
    → taken_now c t w (Down c) ≡ (if own then 1 else 0) → ahead t (at (started q.0.cluster s.stream).sessions t) (s.link.up ++ q.1 ∷ []) ≡ (if own then session_after t (session_at w c t s) q.1 else session_at w c t s) → brings t s.link ≡ (own || among t rest)
    → Linked (spoken s.peer.kind) all s.peer.client s.link (own_stream w c s)
    → let y = with_peer w c (taken_down s.peer s.link rest q) in
    let z = down_spot w c s rest q in
    Stays w y c t (Down c) s z ⊎ (Takes w y c t (Down c) s z ⊎ (Sends w y c t (Down c) s z ⊎ Ends w y c t (Down c) s z))
down_how test w all c t s d rest q true down is kind takes after before linked =
    inr (inl (
      refl,
      takes,
      subst (HasAnswer (spoken s.peer.kind) t (session_at w c t s)) (sym after) (down_answers s.peer.kind all test s.peer.client s.link (own_stream w c s) d rest q t down is kind linked).0,
      before,
      none_behind (spoken s.peer.kind) all s.peer.client s.link (own_stream w c s) t d rest down kind linked,
      refl,
    ))
down_how test w all c t s d rest q false down is kind takes after before linked = inl (refl, takes, after, sym before, refl)

down_by : (test : Test) (w : World) (all : List TypedWrite) (c : ℕ) (t : TypeName) (s : Spot w c) (d : Draft) (rest : List Draft) (q : Client × Message) (own : Bool) → s.link.down ≡ d ∷ rest → received test s.peer d ≡ Some q → is_same_type (kind_of d) t ≡ own → Fine w all
    → Moved w (with_peer w c (taken_down s.peer s.link rest q)) c t (Down c) s
down_by test w all c t s d rest q own down is kind fine =
    let asks : asks_for t q.1 ≡ own = answer_asks s.peer.kind test s.peer.client d q t is ∙ kind in
    let after : ahead t (at (started q.0.cluster s.stream).sessions t) (s.link.up ++ q.1 ∷ []) ≡ (if own then session_after t (session_at w c t s) q.1 else session_at w c t s) =
    ap (λ k. ahead t (at (started k s.stream).sessions t) (s.link.up ++ q.1 ∷ [])) (received_stays s.peer.kind test s.peer.client d q is).0 ∙ ahead_more t (at (own_stream w c s).sessions t) s.link.up q.1 ∙ ap (λ b. if b then session_after t (session_at w c t s) q.1 else session_at w c t s) asks in
    let takes : taken_now c t w (Down c) ≡ (if own then 1 else 0) = ap (λ o. option_map_or (λ (l : Link). takes_one t l.down) o 0) (link_at w c s) ∙ ap (takes_one t) down ∙ ap (λ b. if b then 1 else 0) kind in
    let before : brings t s.link ≡ (own || among t rest) = ap (among t) down ∙ ap (λ b. b || among t rest) kind in
    record { spot = down_spot w c s rest q; kind = refl; held = refl; cluster = (received_stays s.peer.kind test s.peer.client d q is).0; wants = received_wants s.peer.kind test s.peer.client d q t is; how = down_how test w all c t s d rest q own down is kind takes after before (linked_at w all c s fine).1.1 }

down_moved : (test : Test) (w y : World) (all : List TypedWrite) (c : ℕ) (t : TypeName) (s : Spot w c) (ds : List Draft) → s.link.down ≡ ds → down_taken test w c s.peer s.link ds ≡ Some y → Fine w all → Moved w y c t (Down c) s
down_moved test w y all c t s [] down is fine = absurd cc
down_moved test w y all c t s (d ∷ rest) down is fine =
    let made = mapped_some (λ q. with_peer w c (taken_down s.peer s.link rest q)) (received test s.peer d) y is in
    subst (λ k. Moved w k c t (Down c) s) (sym made.2) (down_by test w all c t s d rest made.0 (is_same_type (kind_of d) t) down made.1 refl fine)

-- ---- each of the three

pub next_moved : (test : Test) (w y : World) (all : List TypedWrite) (c : ℕ) (t : TypeName) (h : Happening) (s : Spot w c) → OneOfThree c t s.link h → happens test w h ≡ Some y → Fine w all → Moved w y c t h s
next_moved test w y all c t h s (inl up) is fine = subst (λ k. Moved w y c t k s) (sym up.3) (up_moved test w y all c t s up.0 up.1 up.2 (ap (happens test w) (sym up.3) ∙ is) fine)
next_moved test w y all c t h s (inr (inl down)) is fine =
    subst (λ k. Moved w y c t k s) (sym down.1)
    (down_moved test w y all c t s s.link.down refl (at_spot w c (λ p l. down_taken test w c p l l.down) y s (ap (happens test w) (sym down.1) ∙ is)) fine)
next_moved test w y all c t h s (inr (inr poll)) is fine = subst (λ k. Moved w y c t k s) (sym poll.2) (poll_moved test w y all c t s poll.0 poll.1 (ap (happens test w) (sym poll.2) ∙ is) fine)
