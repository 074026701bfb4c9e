-- Where writes come from: each was made once, at the replica that its stamp names, and no two have the same stamp.
use Rattle.std.proofs.Common.{◌≡◌, ◌⊎◌, inl, inr, ℕ, ◌+◌, ◌≤◌, zero, suc, List, [], ◌∷◌, ◌++◌, map, Bool, true, false, Option, Some, None, Ok, refl, sym, ap, subst, ◌∙◌, append-nil, arith}
use Rattle.std.specs.Prelude.{◌==◌, if◌then◌else◌, is_none, option_map}
use Rattle.std.specs.Option.{option_and_then, option_map_or}
use Rattle.std.specs.List.{Contains, filter}
use Rattle.std.specs.Ordering.{nat_cmp}
use Rattle.std.specs.Cmp.{nat_cmp_total}
use Rattle.std.specs.FinMap as finmap
use Rattle.std.specs.FinMap.{FinMap, nat_cmp-IsAntisymmetric}
use Rattle.std.proofs.lemmas.List.Elements.{Contains-append_left, Contains-append_right, Contains-append_cases}
use Rattle.std.proofs.lemmas.Bool.{eq-eqb}
use Rattle.xds_resource.specs.declared.types.TypeName.{TypeName}
use Rattle.xds_resource.specs.Types.{is_same_type}
use Rattle.xds_resource.specs.PerType.{at}
use Rattle.xds_resource.specs.Resources.{NamedBody, written, deleted}
use Rattle.xds_resource.specs.Writes.{StampedWrite}
use Rattle.xds_resource.proofs.TypesApart.{is_same_type-same}
use Rattle.xds_resource.proofs.BestWrites.{Contains-cons_cases, Contains-tail, Contains-head}
use Rattle.xds_resource.proofs.BoolsAndLists.{none_in}
use Rattle.xds_catalogue.specs.Holdings.{Holdings}
use Rattle.xds_catalogue.specs.Local.{greatest_counter}
use Rattle.xds_catalogue.proofs.Counters.{counter-le, greatest_counter-held}
use Rattle.xds_catalogue.proofs.Lookups.{get-inserted}
use Rattle.xds_core.specs.Events as events
use Rattle.xds_core.specs.Events.{Event, Request, Reply, Opened, Answered, Polled, Owed, Closed, Written, Merged, Entries, Rested, Changed}
use Rattle.xds_core.specs.Streams.{Message}
use Rattle.xds_message.specs.declared.draft.Draft.{Draft}
use Rattle.xds_cache.specs.Clients.{unlinked}
use Rattle.xds_core.specs.Steps.{Core, step, fresh as fresh_core}
use Rattle.xds_core.specs.Stores.{putting_at, deleting_at}
use Rattle.xds_core.specs.Legal.{left_by}
use Rattle.xds_core.proofs.StepLaws.{done_with, put_is, delete_is, number_stays}
use Rattle.xds_cache.specs.Faults.{Test}
use Rattle.xds_script.specs.Happenings.{Happening, AddReplica, AddClient, Put, Delete, Snapshot, Merge, Connect, Change, Up, Poll, Down, Lose, RestPoll}
use Rattle.xds_world.specs.Worlds.{Site, Link, Peer, World, empty_world, recorded, at_site, happened_at, placed, pooled, with_peer, new_peer, opened, changed, wish_taken, polled, up_taken, received, taken_down, down_taken, is_free, is_to_connect, poll_of, poll_event, happens, after}
use Rattle.xds_world.specs.Knows.{TypedWrite, Knowledge, nothing_known, learning, learned, known_after, made_now, made_after, made as made_of}
use Rattle.xds_world.specs.Journal.{oldest, on_stream, event_at}
use Rattle.xds_world.specs.Claims.{writes_of, OneWriteAStamp}
use Rattle.xds_world.proofs.Replicas.{Kept, kept_start, kept_step, answered, some_is, never, mapped_some, bound_some, if_some, if_then, on_link_some, IsOf, opened_is, polled_is, rest_poll_is}

-- ---- lists

pub alone : {X : Type 0} (x y : X) → Contains (x ∷ []) y → x ≡ y
alone x y h = elim (Contains-cons_cases x y [] h) [ inl same ↦ same | inr rest ↦ absurd (none_in y rest) ]

kept_front : (b : Bool) (x : TypedWrite) (ws : List TypedWrite) → b ≡ true → Contains (map (λ y. y.1) (if b then x ∷ ws else ws)) x.1
kept_front true x ws e = Contains-head x.1 (map (λ y. y.1) ws)
kept_front false x ws e = absurd cc

kept_behind : (b : Bool) (x : TypedWrite) (ws : List TypedWrite) (w : StampedWrite) → Contains (map (λ y. y.1) ws) w → Contains (map (λ y. y.1) (if b then x ∷ ws else ws)) w
kept_behind true x ws w h = Contains-tail x.1 w (map (λ y. y.1) ws) h
kept_behind false x ws w h = h

-- a write among the writes of its type
pub among_its_type : (ws : List TypedWrite) (x : TypedWrite) → Contains ws x → Contains (writes_of x.0 ws) x.1
among_its_type [] x h = absurd (none_in x h)
among_its_type (y ∷ ws) x h =
    elim (Contains-cons_cases y x ws h) [
      | inl same ↦ subst (λ z. Contains (writes_of x.0 (z ∷ ws)) x.1) (sym same) (kept_front (is_same_type x.0 x.0) x (filter (λ z. is_same_type z.0 x.0) ws) (is_same_type-same x.0))
      | inr rest ↦ kept_behind (is_same_type y.0 x.0) y (filter (λ z. is_same_type z.0 x.0) ws) x.1 (among_its_type ws x rest)
    ]

-- ---- stamps

pub record Stamped (w : World) (k : Knowledge) (all : List TypedWrite) : Type 0 where
  -- what is known was made
  pub known_made : (r : ℕ) (x : TypedWrite) → Contains (k.at r) x → Contains all x
  pub batched : (ws : List TypedWrite) (x : TypedWrite) → Contains k.batches ws → Contains ws x → Contains all x
  -- a replica knows its own writes
  pub own : (x : TypedWrite) → Contains all x → Contains (k.at x.1.writer) x
  -- a stamp names one write of a type
  pub unique : (x y : TypedWrite) → Contains all x → Contains all y → x.0 ≡ y.0 → x.1.counter ≡ y.1.counter → x.1.writer ≡ y.1.writer → x ≡ y
  pub numbers : (r : ℕ) (s : Site) → finmap.get w.sites r ≡ Some s → s.core.replica ≡ r

-- a write that is known has no greater counter than the replica that knows it holds of its type
known_below : (w : World) (k : Knowledge) (r : ℕ) (s : Site) (x : TypedWrite) → Kept w k → finmap.get w.sites r ≡ Some s → Contains (k.at r) x → x.1.counter ≤ greatest_counter (at s.core.store x.0).entries
known_below w k r s x kept has known =
    subst (λ n. x.1.counter ≤ n) (sym (ap greatest_counter (kept.holds r s x.0 has) ∙ greatest_counter-held (writes_of x.0 (k.at r)))) (counter-le (writes_of x.0 (k.at r)) x.1 (among_its_type (k.at r) x known))

not_twice : (n g : ℕ) → n ≡ g + 1 → n ≤ g → ⊥
not_twice n g is within = omega (arith, is, within)

learned_cases : (k : Knowledge) (r q : ℕ) (b : Bool) (wr x : TypedWrite) → (q == r) ≡ b → Contains (if b then k.at q ++ wr ∷ [] else k.at q) x → (Contains (k.at q) x) ⊎ (wr ≡ x)
learned_cases k r q true wr x is h =
    elim (Contains-append_cases (k.at q) (wr ∷ []) x h) [
      | inl old ↦ inl old
      | inr new ↦ inr (alone wr x new)
    ]
learned_cases k r q false wr x is h = inl h

still_known : (k : Knowledge) (r q : ℕ) (b : Bool) (wr x : TypedWrite) → Contains (k.at q) x → Contains (if b then k.at q ++ wr ∷ [] else k.at q) x
still_known k r q true wr x h = Contains-append_left (k.at q) (wr ∷ []) x h
still_known k r q false wr x h = h

-- no write has such a counter yet
no_such : (w : World) (k : Knowledge) (all : List TypedWrite) (r : ℕ) (s : Site) (wr x : TypedWrite) → finmap.get w.sites r ≡ Some s → wr.1.writer ≡ r → wr.1.counter ≡ greatest_counter (at s.core.store wr.0).entries + 1
    → Kept w k → Stamped w k all → Contains all x → x.0 ≡ wr.0 → x.1.counter ≡ wr.1.counter → x.1.writer ≡ wr.1.writer → ⊥
no_such w k all r s wr x has writer counter kept stamped made same_type same_counter same_writer =
    let known : Contains (k.at r) x = subst (λ q. Contains (k.at q) x) (same_writer ∙ writer) (stamped.own x made) in
    let below : x.1.counter ≤ greatest_counter (at s.core.store wr.0).entries = subst (λ t. x.1.counter ≤ greatest_counter (at {X = Holdings} s.core.store t).entries) same_type (known_below w k r s x kept has known) in
    not_twice x.1.counter (greatest_counter (at s.core.store wr.0).entries) (same_counter ∙ counter) below

-- one more write, with a counter above all that its replica holds of the type
pub stamped_more : (w left : World) (k : Knowledge) (all : List TypedWrite) (r : ℕ) (s : Site) (wr : TypedWrite) → finmap.get w.sites r ≡ Some s → wr.1.writer ≡ r → wr.1.counter ≡ greatest_counter (at s.core.store wr.0).entries + 1
    → ((q : ℕ) (x : Site) → finmap.get left.sites q ≡ Some x → x.core.replica ≡ q) → Kept w k → Stamped w k all → Stamped left (learning k r (wr ∷ [])) (all ++ wr ∷ [])
stamped_more w left k all r s wr has writer counter numbers kept stamped = record {
  known_made = λ q x known.
      elim (learned_cases k r q (q == r) wr x refl known) [
        | inl old ↦ Contains-append_left all (wr ∷ []) x (stamped.known_made q x old)
        | inr new ↦ subst (λ y. Contains (all ++ wr ∷ []) y) new (Contains-append_right all (wr ∷ []) wr (Contains-head wr []))
      ];
  batched = λ ws x among known. Contains-append_left all (wr ∷ []) x (stamped.batched ws x among known);
  own = λ x made.
      elim (Contains-append_cases all (wr ∷ []) x made) [
        | inl old ↦ still_known k r x.1.writer (x.1.writer == r) wr x (stamped.own x old)
        | inr new ↦
            let is = alone wr x new in
            subst (λ y. Contains ((learning k r (wr ∷ [])).at y.1.writer) y) is
            (subst (λ q. Contains ((learning k r (wr ∷ [])).at q) wr) (sym writer) (subst (λ b. Contains (if b then k.at r ++ wr ∷ [] else k.at r) wr) (sym (eq-eqb r r refl)) (Contains-append_right (k.at r) (wr ∷ []) wr (Contains-head wr []))))
      ];
  unique = λ x y made_x made_y same_type same_counter same_writer.
      elim (Contains-append_cases all (wr ∷ []) x made_x) [
        | inl old_x ↦
            elim (Contains-append_cases all (wr ∷ []) y made_y) [
              | inl old_y ↦ stamped.unique x y old_x old_y same_type same_counter same_writer
              | inr new_y ↦ let is = alone wr y new_y in absurd (no_such w k all r s wr x has writer counter kept stamped old_x (same_type ∙ ap (λ z. z.0) (sym is)) (same_counter ∙ ap (λ z. z.1.counter) (sym is)) (same_writer ∙ ap (λ z. z.1.writer) (sym is)))
            ]
        | inr new_x ↦
            elim (Contains-append_cases all (wr ∷ []) y made_y) [
              | inl old_y ↦ let is = alone wr x new_x in absurd (no_such w k all r s wr y has writer counter kept stamped old_y (sym same_type ∙ ap (λ z. z.0) (sym is)) (sym same_counter ∙ ap (λ z. z.1.counter) (sym is)) (sym same_writer ∙ ap (λ z. z.1.writer) (sym is)))
              | inr new_y ↦ sym (alone wr x new_x) ∙ alone wr y new_y
            ]
      ];
  numbers = numbers;
}

-- ---- whatever happens

abbrev Numbered : World → Type 0
Numbered w = (r : ℕ) (s : Site) → finmap.get w.sites r ≡ Some s → s.core.replica ≡ r

put_numbered : (sites : FinMap nat_cmp Site) (r : ℕ) (site : Site) → site.core.replica ≡ r → ((q : ℕ) (s : Site) → finmap.get sites q ≡ Some s → s.core.replica ≡ q) → (q : ℕ) (s : Site) → finmap.get (finmap.insert sites r site) q ≡ Some s → s.core.replica ≡ q
put_numbered sites r site is numbered q s has =
    elim (get-inserted nat_cmp_total nat_cmp-IsAntisymmetric sites r site q) [
      | inl same ↦ ap (λ (x : Site). x.core.replica) (some_is s site (sym has ∙ same.1)) ∙ is ∙ same.0
      | inr other ↦ numbered q s (sym other.1 ∙ has)
    ]

stays : (c : Core) (e : Event) (q : Reply × Core) → step c e ≡ Ok q → q.1.replica ≡ c.replica
stays c e q is = sym (ap (λ r. (left_by c r).replica) is) ∙ number_stays c e

site_numbered : (w : World) (r : ℕ) (e : Event) (p : Reply × World) → at_site w r e ≡ Some p → Numbered w → Numbered p.1
site_numbered w r e p is numbered =
    let made = answered w r e p is in
    subst Numbered (sym (ap (λ x. x.1) made.4)) (put_numbered w.sites r (recorded made.0 e made.1) (stays made.0.core e made.1 made.3 ∙ numbered r made.0 made.2) numbered)

-- nothing is learned
stamped_quiet : (w left : World) (k : Knowledge) (all : List TypedWrite) → Numbered left → Stamped w k all → Stamped left k (all ++ [])
stamped_quiet w left k all numbered stamped =
    subst (Stamped left k) (sym (append-nil all))
    (record { known_made = stamped.known_made; batched = stamped.batched; own = stamped.own; unique = stamped.unique; numbers = numbered })

-- writes that were made before are learned
learned_many : (k : Knowledge) (r q : ℕ) (b : Bool) (ws : List TypedWrite) (x : TypedWrite) → Contains (if b then k.at q ++ ws else k.at q) x → (Contains (k.at q) x) ⊎ (Contains ws x)
learned_many k r q true ws x h = Contains-append_cases (k.at q) ws x h
learned_many k r q false ws x h = inl h

known_still : (k : Knowledge) (q : ℕ) (b : Bool) (ws : List TypedWrite) (x : TypedWrite) → Contains (k.at q) x → Contains (if b then k.at q ++ ws else k.at q) x
known_still k q true ws x h = Contains-append_left (k.at q) ws x h
known_still k q false ws x h = h

stamped_learned : (w left : World) (k : Knowledge) (all : List TypedWrite) (r : ℕ) (ws : List TypedWrite) → Numbered left → ((x : TypedWrite) → Contains ws x → Contains all x) → Stamped w k all → Stamped left (learning k r ws) (all ++ [])
stamped_learned w left k all r ws numbered made stamped =
    subst (Stamped left (learning k r ws)) (sym (append-nil all)) (record {
      known_made = λ q x known.
          elim (learned_many k r q (q == r) ws x known) [
            | inl old ↦ stamped.known_made q x old
            | inr new ↦ made x new
          ];
      batched = stamped.batched;
      own = λ x among. known_still k x.1.writer (x.1.writer == r) ws x (stamped.own x among);
      unique = stamped.unique;
      numbers = numbered;
    })

-- a batch has what its sender knows
stamped_batch : (w left : World) (k : Knowledge) (all : List TypedWrite) (r : ℕ) → Numbered left → Stamped w k all → Stamped left (record k { batches = k.batches ++ k.at r ∷ [] }) (all ++ [])
stamped_batch w left k all r numbered stamped =
    subst (Stamped left (record k { batches = k.batches ++ k.at r ∷ [] })) (sym (append-nil all)) (record {
      known_made = stamped.known_made;
      batched = λ ws x among known.
          elim (Contains-append_cases k.batches (k.at r ∷ []) ws among) [
            | inl old ↦ stamped.batched ws x old known
            | inr new ↦ stamped.known_made r x (subst (λ vs. Contains vs x) (sym (alone (k.at r) ws new)) known)
          ];
      own = stamped.own;
      unique = stamped.unique;
      numbers = numbered;
    })

placed_among : {X : Type 0} (xs : List X) (n : ℕ) (x : X) → placed xs n ≡ Some x → Contains xs x
placed_among [] n x is = absurd cc
placed_among (y ∷ xs) zero x is = absurd cc
placed_among (y ∷ xs) (suc zero) x is = subst (λ z. Contains (y ∷ xs) z) (some_is y x is) (Contains-head y xs)
placed_among (y ∷ xs) (suc (suc n)) x is = Contains-tail y x xs (placed_among xs (suc n) x is)

put_stamped : (w : World) (k : Knowledge) (all : List TypedWrite) (r : ℕ) (t : TypeName) (body : NamedBody) (groups : List (List ℕ)) (p : Reply × World) → at_site w r (events.Put t body groups) ≡ Some p → Kept w k → Stamped w k all
    → Stamped p.1 (learned w (Put r t body groups) k) (all ++ made_now w (Put r t body groups))
put_stamped w k all r t body groups p is kept stamped =
    let made = answered w r (events.Put t body groups) p is in
    let c = made.0.core in
    let done = done_with (λ x. (Written x.0 c.replica, record c { store = x.1 })) (putting_at c.store t body groups c.replica) made.1 made.3 in
    let x = done.0 in
    let which = put_is c.store t body groups c.replica x done.1 in
    let told : at_site w r (events.Put t body groups) ≡ Some (Written x.0 c.replica, p.1) = is ∙ (λ i. Some ((ap (λ y. y.0) made.4 ∙ ap (λ y. y.0) done.2) i, p.1)) in
    subst (λ o. Stamped p.1 (learning k r (made_of (λ counter writer. written counter writer body groups) t o)) (all ++ made_of (λ counter writer. written counter writer body groups) t o)) (sym told)
    (stamped_more w p.1 k all r made.0 (t, written x.0 c.replica body groups) made.2 (stamped.numbers r made.0 made.2) which.0 (site_numbered w r (events.Put t body groups) p is stamped.numbers) kept stamped)

delete_stamped : (w : World) (k : Knowledge) (all : List TypedWrite) (r : ℕ) (t : TypeName) (name : List ℕ) (p : Reply × World) → at_site w r (events.Delete t name) ≡ Some p → Kept w k → Stamped w k all
    → Stamped p.1 (learned w (Delete r t name) k) (all ++ made_now w (Delete r t name))
delete_stamped w k all r t name p is kept stamped =
    let made = answered w r (events.Delete t name) p is in
    let c = made.0.core in
    let done = done_with (λ x. (Written x.0 c.replica, record c { store = x.1 })) (deleting_at c.store t name c.replica) made.1 made.3 in
    let x = done.0 in
    let which = delete_is c.store t name c.replica x done.1 in
    let told : at_site w r (events.Delete t name) ≡ Some (Written x.0 c.replica, p.1) = is ∙ (λ i. Some ((ap (λ y. y.0) made.4 ∙ ap (λ y. y.0) done.2) i, p.1)) in
    subst (λ o. Stamped p.1 (learning k r (made_of (λ counter writer. deleted counter writer name) t o)) (all ++ made_of (λ counter writer. deleted counter writer name) t o)) (sym told)
    (stamped_more w p.1 k all r made.0 (t, deleted x.0 c.replica name) made.2 (stamped.numbers r made.0 made.2) which.0 (site_numbered w r (events.Delete t name) p is stamped.numbers) kept stamped)

merged_stamped : (w left : World) (k : Knowledge) (all : List TypedWrite) (r b : ℕ) (o : Option (List TypedWrite)) → placed k.batches b ≡ o → Numbered left → Stamped w k all → Stamped left (option_map_or (learning k r) o k) (all ++ [])
merged_stamped w left k all r b None is numbered stamped = stamped_quiet w left k all numbered stamped
merged_stamped w left k all r b (Some ws) is numbered stamped = stamped_learned w left k all r ws numbered (λ x among. stamped.batched ws x (placed_among k.batches b ws is) among) stamped

-- what happened to the replicas, by the event that was at one of them: one was added, one answered the event, or nothing
abbrev pub SitesCome : World → World → Option (ℕ × Event) → Type 0
SitesCome w left o =
    ((r : ℕ) × (is_free w r ≡ true) × (left.sites ≡ finmap.insert w.sites r (record { core = fresh_core r; journal = [] })) × (o ≡ None))
    ⊎ ((r : ℕ) × (e : Event) × (p : Reply × World) × (at_site w r e ≡ Some p) × (left.sites ≡ p.1.sites) × (o ≡ Some (r, e))) ⊎ ((left.sites ≡ w.sites) × (o ≡ None))

same_sites : (w left : World) → IsOf left w → left.sites ≡ w.sites
same_sites w left is = ap (λ x. x.sites) is.1

pooled_sites : (r : ℕ) (reply : Reply) (w left : World) → pooled r (reply, w) ≡ Some left → left.sites ≡ w.sites
pooled_sites r (Entries b) w left is = ap (λ x. x.sites) (sym (some_is _ _ is))
pooled_sites r (Opened n) w left is = absurd cc
pooled_sites r (Answered o) w left is = absurd cc
pooled_sites r (Polled o) w left is = absurd cc
pooled_sites r (Owed o) w left is = absurd cc
pooled_sites r Closed w left is = absurd cc
pooled_sites r (Written n m) w left is = absurd cc
pooled_sites r (Merged n) w left is = absurd cc
pooled_sites r (Rested o) w left is = absurd cc
pooled_sites r (Changed b marks) w left is = absurd cc

-- the event of a stream
stream_event : (w : World) (c : ℕ) (p : Peer) (l : Link) (f : Link → Option Event) → finmap.get w.peers c ≡ Some p → p.link ≡ Some l → on_stream w c f ≡ option_map (λ e. (l.replica, e)) (f l)
stream_event w c p l f has at_link = ap (option_and_then (λ q. option_and_then (λ k. option_map (λ e. (k.replica, e)) (f k)) q.link)) has ∙ ap (option_and_then (λ k. option_map (λ e. (k.replica, e)) (f k))) at_link

up_come : (w left : World) (c : ℕ) (p : Peer) (l : Link) (ms : List Message) → up_taken w c p l ms ≡ Some left → SitesCome w left (option_map (λ e. (l.replica, e)) (option_map (Request l.stream) (oldest ms)))
up_come w left c p l [] is = absurd cc
up_come w left c p l (m ∷ rest) is =
    let made = mapped_some (λ q. with_peer q.1 c (record p { link = Some (record l { up = rest }) })) (at_site w l.replica (Request l.stream m)) left is in
    inr (inl (l.replica, Request l.stream m, made.0, made.1, ap (λ x. x.sites) made.2, refl))

down_come : (test : Test) (w left : World) (c : ℕ) (p : Peer) (l : Link) (ds : List Draft) → down_taken test w c p l ds ≡ Some left → SitesCome w left None
down_come test w left c p l [] is = absurd cc
down_come test w left c p l (d ∷ rest) is = let made = mapped_some (λ q. with_peer w c (taken_down p l rest q)) (received test p d) left is in inr (inr (ap (λ x. x.sites) made.2, refl))

pub sites_come : (test : Test) (w left : World) (h : Happening) → happens test w h ≡ Some left → SitesCome w left (event_at w h)
sites_come test w left (AddReplica r) is =
    let made = if_some (is_free w r) (record w { sites = finmap.insert w.sites r (record { core = fresh_core r; journal = [] }) }) left is in inl (r, made.0, ap (λ x. x.sites) made.1, refl)
sites_come test w left (AddClient c kind cluster) is = inr (inr (ap (λ x. x.sites) (if_some (is_none (finmap.get w.peers c)) (with_peer w c (new_peer c kind cluster)) left is).1, refl))
sites_come test w left (Put r t body groups) is = let made = mapped_some (λ p. p.1) (at_site w r (events.Put t body groups)) left is in inr (inl (r, events.Put t body groups, made.0, made.1, ap (λ x. x.sites) made.2, refl))
sites_come test w left (Delete r t name) is = let made = mapped_some (λ p. p.1) (at_site w r (events.Delete t name)) left is in inr (inl (r, events.Delete t name, made.0, made.1, ap (λ x. x.sites) made.2, refl))
sites_come test w left (Snapshot r) is = let made = bound_some (pooled r) (at_site w r events.Snapshot) left is in inr (inl (r, events.Snapshot, made.0, made.1, pooled_sites r made.0.0 made.0.1 left made.2, refl))
sites_come test w left (Merge r b) is =
    let place = bound_some (λ x. happened_at w r (events.Merge x.1)) (placed w.pool b) left is in
    let made = mapped_some (λ p. p.1) (at_site w r (events.Merge place.0.1)) left place.2 in
    inr (inl (r, events.Merge place.0.1, made.0, made.1, ap (λ x. x.sites) made.2, ap (option_map (λ x. (r, events.Merge x.1))) place.1))
sites_come test w left (Connect c r) is =
    let peer = bound_some (λ p. if is_to_connect p then option_and_then (opened c r p) (at_site w r events.Open) else None) (finmap.get w.peers c) left is in
    let down = if_then (is_to_connect peer.0) (option_and_then (opened c r peer.0) (at_site w r events.Open)) left peer.2 in
    let made = bound_some (opened c r peer.0) (at_site w r events.Open) left down in
    inr (inl (r, events.Open, made.0, made.1, same_sites made.0.1 left (opened_is c r peer.0 made.0.0 made.0.1 left made.2), refl))
sites_come test w left (Change c t wish) is =
    let peer = bound_some (λ p. option_map (λ q. with_peer w c (changed p q)) (wish_taken p t wish)) (finmap.get w.peers c) left is in
    let made = mapped_some (λ q. with_peer w c (changed peer.0 q)) (wish_taken peer.0 t wish) left peer.2 in
    inr (inr (ap (λ x. x.sites) made.2, refl))
sites_come test w left (Up c) is =
    let at_link = on_link_some w c (λ p l. up_taken w c p l l.up) left is in
    subst (SitesCome w left) (sym (stream_event w c at_link.0 at_link.1 (λ l. option_map (Request l.stream) (oldest l.up)) at_link.3 at_link.4)) (up_come w left c at_link.0 at_link.1 at_link.1.up at_link.2)
sites_come test w left (Poll c which) is =
    let at_link = on_link_some w c (λ p l. option_and_then (polled c p l) (at_site w l.replica (events.Poll l.stream which))) left is in
    let made = bound_some (polled c at_link.0 at_link.1) (at_site w at_link.1.replica (events.Poll at_link.1.stream which)) left at_link.2 in
    inr (inl (at_link.1.replica, events.Poll at_link.1.stream which, made.0, made.1, same_sites made.0.1 left (polled_is c at_link.0 at_link.1 made.0.0 made.0.1 left made.2), stream_event w c at_link.0 at_link.1 (λ l. Some (events.Poll l.stream which)) at_link.3 at_link.4))
sites_come test w left (Down c) is = let at_link = on_link_some w c (λ p l. down_taken test w c p l l.down) left is in down_come test w left c at_link.0 at_link.1 at_link.1.down at_link.2
sites_come test w left (Lose c) is =
    let at_link = on_link_some w c (λ p l. option_map (λ q. with_peer q.1 c (record p { client = unlinked p.client; link = None })) (at_site w l.replica (events.Close l.stream))) left is in
    let made = mapped_some (λ q. with_peer q.1 c (record at_link.0 { client = unlinked at_link.0.client; link = None })) (at_site w at_link.1.replica (events.Close at_link.1.stream)) left at_link.2 in
    inr (inl (at_link.1.replica, events.Close at_link.1.stream, made.0, made.1, ap (λ x. x.sites) made.2, stream_event w c at_link.0 at_link.1 (λ l. Some (events.Close l.stream)) at_link.3 at_link.4))
sites_come test w left (RestPoll c r t answer) is =
    let x = rest_poll_is test w left c r t answer is in
    inr (inl (r, poll_event t x.request, x.reply, x.answers, ap (λ y. y.sites) x.after, ap (option_and_then (λ p. option_map (λ q. (r, poll_event t q)) (poll_of p t))) x.has ∙ ap (option_map (λ q. (r, poll_event t q))) x.asks))

numbered_come : (w left : World) (o : Option (ℕ × Event)) → SitesCome w left o → Numbered w → Numbered left
numbered_come w left o (inl added) numbered r s has = put_numbered w.sites added.0 (record { core = fresh_core added.0; journal = [] }) refl numbered r s (ap (λ m. finmap.get m r) (sym added.2) ∙ has)
numbered_come w left o (inr (inl stepped)) numbered r s has = site_numbered w stepped.0 stepped.1 stepped.2 stepped.3 numbered r s (ap (λ m. finmap.get m r) (sym stepped.4) ∙ has)
numbered_come w left o (inr (inr same)) numbered r s has = numbered r s (ap (λ m. finmap.get m r) (sym same.0) ∙ has)

-- the numbers of replicas after whatever happens
pub numbered_step : (test : Test) (w left : World) (h : Happening) → happens test w h ≡ Some left → Numbered w → Numbered left
numbered_step test w left h is numbered = numbered_come w left (event_at w h) (sites_come test w left h is) numbered

-- whatever happens
pub stamped_step : (test : Test) (w left : World) (k : Knowledge) (all : List TypedWrite) (h : Happening) → happens test w h ≡ Some left → Kept w k → Stamped w k all → Stamped left (learned w h k) (all ++ made_now w h)
stamped_step test w left k all (Put r t body groups) is kept stamped =
    let made = mapped_some (λ p. p.1) (at_site w r (events.Put t body groups)) left is in
    subst (λ x. Stamped x (learned w (Put r t body groups) k) (all ++ made_now w (Put r t body groups))) (sym made.2) (put_stamped w k all r t body groups made.0 made.1 kept stamped)
stamped_step test w left k all (Delete r t name) is kept stamped =
    let made = mapped_some (λ p. p.1) (at_site w r (events.Delete t name)) left is in
    subst (λ x. Stamped x (learned w (Delete r t name) k) (all ++ made_now w (Delete r t name))) (sym made.2) (delete_stamped w k all r t name made.0 made.1 kept stamped)
stamped_step test w left k all (Snapshot r) is kept stamped = stamped_batch w left k all r (numbered_step test w left (Snapshot r) is stamped.numbers) stamped
stamped_step test w left k all (Merge r b) is kept stamped = merged_stamped w left k all r b (placed k.batches b) refl (numbered_step test w left (Merge r b) is stamped.numbers) stamped
stamped_step test w left k all (AddReplica r) is kept stamped = stamped_quiet w left k all (numbered_step test w left (AddReplica r) is stamped.numbers) stamped
stamped_step test w left k all (AddClient c kind cluster) is kept stamped = stamped_quiet w left k all (numbered_step test w left (AddClient c kind cluster) is stamped.numbers) stamped
stamped_step test w left k all (Connect c r) is kept stamped = stamped_quiet w left k all (numbered_step test w left (Connect c r) is stamped.numbers) stamped
stamped_step test w left k all (Change c t wish) is kept stamped = stamped_quiet w left k all (numbered_step test w left (Change c t wish) is stamped.numbers) stamped
stamped_step test w left k all (Up c) is kept stamped = stamped_quiet w left k all (numbered_step test w left (Up c) is stamped.numbers) stamped
stamped_step test w left k all (Poll c which) is kept stamped = stamped_quiet w left k all (numbered_step test w left (Poll c which) is stamped.numbers) stamped
stamped_step test w left k all (Down c) is kept stamped = stamped_quiet w left k all (numbered_step test w left (Down c) is stamped.numbers) stamped
stamped_step test w left k all (Lose c) is kept stamped = stamped_quiet w left k all (numbered_step test w left (Lose c) is stamped.numbers) stamped
stamped_step test w left k all (RestPoll c r t answer) is kept stamped = stamped_quiet w left k all (numbered_step test w left (RestPoll c r t answer) is stamped.numbers) stamped

pub stamped_start : Stamped empty_world nothing_known []
stamped_start = record {
  known_made = λ r x known. known;
  batched = λ ws x among known. absurd (none_in ws among);
  own = λ x made. made;
  unique = λ x y made_x made_y t c w. absurd (none_in x made_x);
  numbers = λ r s has. absurd (never s (sym (finmap.get-empty nat_cmp r) ∙ has));
}

stamped_or : (test : Test) (w : World) (k : Knowledge) (all : List TypedWrite) (h : Happening) (hs : List Happening) (o : Option World) → happens test w h ≡ o → Kept w k → Stamped w k all
    → ((x : World) (j : Knowledge) (made : List TypedWrite) → Kept x j → Stamped x j made → Stamped (after test x hs) (known_after test x j hs) (made_after test x made hs))
    → Stamped (after test (option_map_or (λ x. x) o w) hs) (option_map_or (λ x. known_after test x (learned w h k) hs) o (known_after test w k hs)) (option_map_or (λ x. made_after test x (all ++ made_now w h) hs) o (made_after test w all hs))
stamped_or test w k all h hs None is kept stamped later = later w k all kept stamped
stamped_or test w k all h hs (Some x) is kept stamped later = later x (learned w h k) (all ++ made_now w h) (kept_step test w x k h is kept) (stamped_step test w x k all h is kept stamped)

-- whatever list of happenings
pub stamped_after : (test : Test) (hs : List Happening) (w : World) (k : Knowledge) (all : List TypedWrite) → Kept w k → Stamped w k all → Stamped (after test w hs) (known_after test w k hs) (made_after test w all hs)
stamped_after test [] w k all kept stamped = stamped
stamped_after test (h ∷ hs) w k all kept stamped = stamped_or test w k all h hs (happens test w h) refl kept stamped (stamped_after test hs)

-- rule: new-numbers
pub one_write_a_stamp : (test : Test) (hs : List Happening) → OneWriteAStamp test hs
one_write_a_stamp test hs =
    let stamped = stamped_after test hs empty_world nothing_known [] kept_start stamped_start in
    (stamped.known_made, stamped.unique)
