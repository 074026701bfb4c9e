-- What is known of all writes that were made: their stamps are in range, what they put are resources; so a replica's entries are known.
use Rattle.std.proofs.Common.{◌≡◌, ◌⊎◌, inl, inr, ℕ, ◌+◌, ◌≤◌, ◌<◌, List, [], ◌∷◌, ◌++◌, map, Bool, true, false, ◌&&◌, not, Option, Some, None, Ok, refl, sym, ap, subst, ◌∙◌, append-nil, arith}
use Rattle.std.specs.Prelude.{◌==◌, if◌then◌else◌, is_none, Contains, nat_lt}
use Rattle.std.specs.Option.{ForSome}
use Rattle.std.specs.List.{filter}
use Rattle.std.specs.Ordering.{nat_cmp}
use Rattle.std.specs.Cmp.{nat_cmp_total}
use Rattle.std.specs.FinMap as finmap
use Rattle.std.specs.FinMap.{nat_cmp-IsAntisymmetric}
use Rattle.std.proofs.lemmas.Bool.{ltb-true, ltb-false, not-true}
use Rattle.std.proofs.lemmas.Bool.Decides.{eqb_tells}
use Rattle.std.proofs.lemmas.List.Elements.{Contains-append_cases}
use Rattle.xds_resource.specs.declared.types.TypeName.{TypeName}
use Rattle.xds_resource.specs.declared.refusal.Refusal.TheVariants.{NotFound, CounterSpent}
use Rattle.xds_resource.specs.Refusals.{unless_refused}
use Rattle.xds_resource.specs.Types.{is_same_type}
use Rattle.xds_resource.specs.PerType.{at, with_at}
use Rattle.xds_resource.specs.Resources.{NamedBody, IsCanonical, written, deleted}
use Rattle.xds_resource.specs.Stamps.{max_counter, max_writer, IsStamp}
use Rattle.xds_resource.specs.Writes.{StampedWrite}
use Rattle.xds_resource.specs.Best.{best}
use Rattle.xds_resource.proofs.BestWrites.{IsGreatest-best, Contains-cons_cases, Contains-tail, Contains-head}
use Rattle.xds_resource.proofs.TypesApart.{same_type}
use Rattle.xds_resource.proofs.BoolsAndLists.{none_in}
use Rattle.xds_catalogue.specs.Holdings.{Holdings}
use Rattle.xds_catalogue.specs.Joins.{joined}
use Rattle.xds_catalogue.specs.Local.{greatest_counter, next_counter, has_live, putting, deleting}
use Rattle.xds_catalogue.proofs.Catalogues.{get-catalogue_of}
use Rattle.xds_catalogue.proofs.Counters.{greatest_counter-held, greatest_counter_of-le}
use Rattle.xds_catalogue.proofs.Lookups.{get-inserted}
use Rattle.xds_core.specs.Stores.{putting_at, deleting_at}
use Rattle.xds_core.specs.Events as events
use Rattle.xds_core.specs.Events.{Event, Written}
use Rattle.xds_core.specs.Steps.{fresh as fresh_core}
use Rattle.xds_core.proofs.StepLaws.{done_with, put_is, delete_is}
use Rattle.xds_cache.specs.Faults.{Test}
use Rattle.xds_script.specs.Happenings.{Happening, AddReplica, AddClient, Put, Delete, Snapshot, Merge, Connect, Change, Up, Poll, Down, Lose, RestPoll, PutsAResource}
use Rattle.xds_world.specs.Worlds.{Site, World, empty_world, recorded, at_site, is_free, happens}
use Rattle.xds_world.specs.Knows.{TypedWrite, Knowledge, made_now, made as made_of}
use Rattle.xds_world.specs.Journal.{event_at}
use Rattle.xds_world.specs.Claims.{writes_of}
use Rattle.xds_world.proofs.Replicas.{Kept, some_is, mapped_some, both_parts, answered}
use Rattle.xds_world.proofs.Origins.{alone, Stamped, SitesCome, sites_come}
use Rattle.xds_world.proofs.EveryEvent.{AllSitesKnown}

-- ---- writes of a type

front_of : (b : Bool) (x : TypedWrite) (ws : List TypedWrite) (w : StampedWrite) → Contains (map (λ y. y.1) (if b then x ∷ ws else ws)) w → ((b ≡ true) × (x.1 ≡ w)) ⊎ (Contains (map (λ y. y.1) ws) w)
front_of true x ws w h =
    elim (Contains-cons_cases x.1 w (map (λ y. y.1) ws) h) [
      | inl same ↦ inl (refl, same)
      | inr rest ↦ inr rest
    ]
front_of false x ws w h = inr h

typed_front : (t : TypeName) (x : TypedWrite) (ws : List TypedWrite) (w : StampedWrite) → is_same_type x.0 t ≡ true → x.1 ≡ w → Contains (x ∷ ws) (t, w)
typed_front t x ws w same is =
    elim (same_type x.0 t) [
      | inl equal ↦ subst (λ (y : TypedWrite). Contains (x ∷ ws) y) (λ i. (equal.0 i, is i)) (Contains-head x ws)
      | inr other ↦ (let never : true ≡ false = sym same ∙ other.1 in absurd cc)
    ]

-- a write of the type is among all writes under its type
pub among_all : (t : TypeName) (ws : List TypedWrite) (w : StampedWrite) → Contains (writes_of t ws) w → Contains ws (t, w)
among_all t [] w h = absurd (none_in w h)
among_all t (x ∷ ws) w h =
    elim (front_of (is_same_type x.0 t) x (filter (λ y. is_same_type y.0 t) ws) w h) [
      | inl front ↦ typed_front t x ws w front.0 front.1
      | inr rest ↦ Contains-tail x (t, w) ws (among_all t ws w rest)
    ]

-- ---- what is known of all writes

pub record Ranged (w : World) (all : List TypedWrite) : Type 0 where
  pub sites : (r : ℕ) (s : Site) → finmap.get w.sites r ≡ Some s → (1 ≤ r) × (r ≤ max_writer)
  pub stamps : (x : TypedWrite) → Contains all x → IsStamp x.1.counter x.1.writer
  pub bodies : (x : TypedWrite) → Contains all x → ForSome x.1.body (λ b. IsCanonical x.0 (record { name = x.1.name; body = b }))

-- what replicas hold
pub sites_known : (w : World) (k : Knowledge) (all : List TypedWrite) → Kept w k → Stamped w k all → Ranged w all → AllSitesKnown w all
sites_known w k all kept stamped ranged r s t has name wr is =
    let held : best (writes_of t (k.at r)) name ≡ Some wr = sym (get-catalogue_of (writes_of t (k.at r)) name) ∙ ap (λ m. finmap.get m name) (sym (kept.holds r s t has)) ∙ is in
    let greatest = IsGreatest-best (writes_of t (k.at r)) name wr held in
    let made : Contains all (t, wr) = stamped.known_made r (t, wr) (among_all t (k.at r) wr greatest.listed) in
    record { named = greatest.named; made = made; canonical = ranged.bodies (t, wr) made }

-- no counter that is held is out of range
held_within : (w : World) (k : Knowledge) (all : List TypedWrite) (r : ℕ) (s : Site) (t : TypeName) → finmap.get w.sites r ≡ Some s → Kept w k → Stamped w k all → Ranged w all → greatest_counter (at s.core.store t).entries ≤ max_counter
held_within w k all r s t has kept stamped ranged =
    subst (λ n. n ≤ max_counter) (sym (ap greatest_counter (kept.holds r s t has) ∙ greatest_counter-held (writes_of t (k.at r))))
    (greatest_counter_of-le max_counter (writes_of t (k.at r)) (λ v among. (ranged.stamps (t, v) (stamped.known_made r (t, v) (among_all t (k.at r) v among))).counter_to))

-- ---- one write more

ranged_more : (w left : World) (all : List TypedWrite) (t : TypeName) (wr : StampedWrite) → ((r : ℕ) (s : Site) → finmap.get left.sites r ≡ Some s → (1 ≤ r) × (r ≤ max_writer)) → IsStamp wr.counter wr.writer
    → ForSome wr.body (λ b. IsCanonical t (record { name = wr.name; body = b })) → Ranged w all → Ranged left (all ++ (t, wr) ∷ [])
ranged_more w left all t wr sites stamp body ranged = record {
  sites = sites;
  stamps = λ x made.
      elim (Contains-append_cases all ((t, wr) ∷ []) x made) [
        | inl old ↦ ranged.stamps x old
        | inr new ↦ subst (λ (y : TypedWrite). IsStamp y.1.counter y.1.writer) (alone (t, wr) x new) stamp
      ];
  bodies = λ x made.
      elim (Contains-append_cases all ((t, wr) ∷ []) x made) [
        | inl old ↦ ranged.bodies x old
        | inr new ↦ subst (λ (y : TypedWrite). ForSome y.1.body (λ b. IsCanonical y.0 (record { name = y.1.name; body = b }))) (alone (t, wr) x new) body
      ];
}

ranged_same : (w left : World) (all : List TypedWrite) → ((r : ℕ) (s : Site) → finmap.get left.sites r ≡ Some s → (1 ≤ r) × (r ≤ max_writer)) → Ranged w all → Ranged left (all ++ [])
ranged_same w left all sites ranged = subst (Ranged left) (sym (append-nil all)) (record { sites = sites; stamps = ranged.stamps; bodies = ranged.bodies })

-- ---- whatever happens

-- the numbers of replicas
abbrev pub AllInRange : World → Type 0
AllInRange w = (r : ℕ) (s : Site) → finmap.get w.sites r ≡ Some s → (1 ≤ r) × (r ≤ max_writer)

free_in_range : (w : World) (r : ℕ) → is_free w r ≡ true → (1 ≤ r) × (r ≤ max_writer)
free_in_range w r is =
    let free = both_parts (nat_lt 0 r && not (nat_lt max_writer r)) (is_none (finmap.get w.sites r)) is in
    let range = both_parts (nat_lt 0 r) (not (nat_lt max_writer r)) free.0 in
    let above : 0 < r = ltb-true 0 r range.0 in
    let below : r ≤ max_writer = ltb-false max_writer r (not-true (nat_lt max_writer r) range.1) in
    (omega (arith, above), below)

in_range_come : (w left : World) (o : Option (ℕ × Event)) → SitesCome w left o → AllInRange w → AllInRange left
in_range_come w left o (inl added) all q s has =
    elim (get-inserted nat_cmp_total nat_cmp-IsAntisymmetric w.sites added.0 (record { core = fresh_core added.0; journal = [] }) q) [
      | inl here ↦ subst (λ n. (1 ≤ n) × (n ≤ max_writer)) here.0 (free_in_range w added.0 added.1)
      | inr there ↦ all q s (sym there.1 ∙ ap (λ m. finmap.get m q) (sym added.2) ∙ has)
    ]
in_range_come w left o (inr (inl stepped)) all q s has =
    let made = answered w stepped.0 stepped.1 stepped.2 stepped.3 in
    let now : finmap.get (finmap.insert w.sites stepped.0 (recorded made.0 stepped.1 made.1)) q ≡ Some s = ap (λ y. finmap.get y.1.sites q) (sym made.4) ∙ ap (λ m. finmap.get m q) (sym stepped.4) ∙ has in
    elim (get-inserted nat_cmp_total nat_cmp-IsAntisymmetric w.sites stepped.0 (recorded made.0 stepped.1 made.1) q) [
      | inl here ↦ subst (λ n. (1 ≤ n) × (n ≤ max_writer)) here.0 (all stepped.0 made.0 made.2)
      | inr there ↦ all q s (sym there.1 ∙ now)
    ]
in_range_come w left o (inr (inr same)) all q s has = all q s (ap (λ m. finmap.get m q) (sym same.0) ∙ has)

in_range_step : (test : Test) (w left : World) (h : Happening) → happens test w h ≡ Some left → AllInRange w → AllInRange left
in_range_step test w left h is all = in_range_come w left (event_at w h) (sites_come test w left h is) all

unspent : (a b : Bool) (x y : ℕ × Holdings) → unless_refused ((a, CounterSpent) ∷ (b, CounterSpent) ∷ []) x ≡ Ok y → a ≡ false
unspent true b x y is = absurd cc
unspent false b x y is = refl

unspent_live : (n a b : Bool) (x y : ℕ × Holdings) → unless_refused ((n, NotFound) ∷ (a, CounterSpent) ∷ (b, CounterSpent) ∷ []) x ≡ Ok y → a ≡ false
unspent_live true a b x y is = absurd cc
unspent_live false true b x y is = absurd cc
unspent_live false false b x y is = refl

next_within : (g : ℕ) → (g == max_counter) ≡ false → g ≤ max_counter → g + 1 ≤ max_counter
next_within g not_full within = elim (eqb_tells g max_counter) [ inl same ↦ (let never : true ≡ false = sym same.0 ∙ not_full in absurd cc) | inr other ↦ omega (arith, within, other.1) ]

put_ranged : (test : Test) (w left : World) (k : Knowledge) (all : List TypedWrite) (r : ℕ) (t : TypeName) (body : NamedBody) (groups : List (List ℕ)) → happens test w (Put r t body groups) ≡ Some left → IsCanonical t body
    → ((q : ℕ) (s : Site) → finmap.get left.sites q ≡ Some s → (1 ≤ q) × (q ≤ max_writer)) → Kept w k → Stamped w k all → Ranged w all → Ranged left (all ++ made_now w (Put r t body groups))
put_ranged test w left k all r t body groups is canonical sites kept stamped ranged =
    let asked = mapped_some (λ p. p.1) (at_site w r (events.Put t body groups)) left is in
    let p = asked.0 in
    let made = answered w r (events.Put t body groups) p asked.1 in
    let c = made.0.core in
    let done = done_with (λ x. (Written x.0 c.replica, record c { store = x.1 })) (putting_at c.store t body groups c.replica) made.1 made.3 in
    let x = done.0 in
    let which = put_is c.store t body groups c.replica x done.1 in
    let room = done_with (λ y. (y.0, with_at c.store t y.1)) (putting (at c.store t) body groups c.replica) x done.1 in
    let full : (greatest_counter (at c.store t).entries == max_counter) ≡ false =
    unspent (greatest_counter (at c.store t).entries == max_counter) ((at {X = Holdings} c.store t).changes == max_counter) (next_counter (at c.store t), joined (at c.store t) (written (next_counter (at c.store t)) c.replica body groups ∷ [])) room.0 room.1 in
    let told : at_site w r (events.Put t body groups) ≡ Some (Written x.0 c.replica, p.1) = asked.1 ∙ (λ i. Some ((ap (λ y. y.0) made.4 ∙ ap (λ y. y.0) done.2) i, p.1)) in
    let within = held_within w k all r made.0 t made.2 kept stamped ranged in
    let next = next_within (greatest_counter (at c.store t).entries) full within in
    let number : c.replica ≡ r = stamped.numbers r made.0 made.2 in
    let range = ranged.sites r made.0 made.2 in
    subst (λ o. Ranged left (all ++ made_of (λ counter writer. written counter writer body groups) t o)) (sym told)
    (ranged_more w left all t (written x.0 c.replica body groups) sites
    (record { counter_from = subst (λ n. 1 ≤ n) (sym which.0) (omega arith); counter_to = subst (λ n. n ≤ max_counter) (sym which.0) next; writer_from = subst (λ n. 1 ≤ n) (sym number) range.0; writer_to = subst (λ n. n ≤ max_writer) (sym number) range.1 })
    (λ b has. subst (λ y. IsCanonical t (record { name = body.name; body = y })) (some_is body.body b has) canonical) ranged)

delete_ranged : (test : Test) (w left : World) (k : Knowledge) (all : List TypedWrite) (r : ℕ) (t : TypeName) (name : List ℕ) → happens test w (Delete r t name) ≡ Some left
    → ((q : ℕ) (s : Site) → finmap.get left.sites q ≡ Some s → (1 ≤ q) × (q ≤ max_writer)) → Kept w k → Stamped w k all → Ranged w all → Ranged left (all ++ made_now w (Delete r t name))
delete_ranged test w left k all r t name is sites kept stamped ranged =
    let asked = mapped_some (λ p. p.1) (at_site w r (events.Delete t name)) left is in
    let p = asked.0 in
    let made = answered w r (events.Delete t name) p asked.1 in
    let c = made.0.core in
    let done = done_with (λ x. (Written x.0 c.replica, record c { store = x.1 })) (deleting_at c.store t name c.replica) made.1 made.3 in
    let x = done.0 in
    let which = delete_is c.store t name c.replica x done.1 in
    let room = done_with (λ y. (y.0, with_at c.store t y.1)) (deleting (at c.store t) name c.replica) x done.1 in
    let full : (greatest_counter (at c.store t).entries == max_counter) ≡ false =
    unspent_live (not (has_live (at {X = Holdings} c.store t).entries name)) (greatest_counter (at c.store t).entries == max_counter) ((at {X = Holdings} c.store t).changes == max_counter)
    (next_counter (at c.store t), joined (at c.store t) (deleted (next_counter (at c.store t)) c.replica name ∷ [])) room.0 room.1 in
    let told : at_site w r (events.Delete t name) ≡ Some (Written x.0 c.replica, p.1) = asked.1 ∙ (λ i. Some ((ap (λ y. y.0) made.4 ∙ ap (λ y. y.0) done.2) i, p.1)) in
    let next = next_within (greatest_counter (at c.store t).entries) full (held_within w k all r made.0 t made.2 kept stamped ranged) in
    let number : c.replica ≡ r = stamped.numbers r made.0 made.2 in
    let range = ranged.sites r made.0 made.2 in
    subst (λ o. Ranged left (all ++ made_of (λ counter writer. deleted counter writer name) t o)) (sym told)
    (ranged_more w left all t (deleted x.0 c.replica name) sites
    (record { counter_from = subst (λ n. 1 ≤ n) (sym which.0) (omega arith); counter_to = subst (λ n. n ≤ max_counter) (sym which.0) next; writer_from = subst (λ n. 1 ≤ n) (sym number) range.0; writer_to = subst (λ n. n ≤ max_writer) (sym number) range.1 })
    (λ b has. absurd (never b has)) ranged)
  where
    never : (b : List ℕ) → ◌≡◌ {A = Option (List ℕ)} None (Some b) → ⊥
    never b e = cc

pub ranged_step : (test : Test) (w left : World) (k : Knowledge) (all : List TypedWrite) (h : Happening) → happens test w h ≡ Some left → PutsAResource h → Kept w k → Stamped w k all → Ranged w all → Ranged left (all ++ made_now w h)
ranged_step test w left k all (Put r t body groups) is sound kept stamped ranged = put_ranged test w left k all r t body groups is sound.0 (in_range_step test w left (Put r t body groups) is ranged.sites) kept stamped ranged
ranged_step test w left k all (Delete r t name) is sound kept stamped ranged = delete_ranged test w left k all r t name is (in_range_step test w left (Delete r t name) is ranged.sites) kept stamped ranged
ranged_step test w left k all (AddReplica r) is sound kept stamped ranged = ranged_same w left all (in_range_step test w left (AddReplica r) is ranged.sites) ranged
ranged_step test w left k all (AddClient c kind cluster) is sound kept stamped ranged = ranged_same w left all (in_range_step test w left (AddClient c kind cluster) is ranged.sites) ranged
ranged_step test w left k all (Snapshot r) is sound kept stamped ranged = ranged_same w left all (in_range_step test w left (Snapshot r) is ranged.sites) ranged
ranged_step test w left k all (Merge r b) is sound kept stamped ranged = ranged_same w left all (in_range_step test w left (Merge r b) is ranged.sites) ranged
ranged_step test w left k all (Connect c r) is sound kept stamped ranged = ranged_same w left all (in_range_step test w left (Connect c r) is ranged.sites) ranged
ranged_step test w left k all (Change c t wish) is sound kept stamped ranged = ranged_same w left all (in_range_step test w left (Change c t wish) is ranged.sites) ranged
ranged_step test w left k all (Up c) is sound kept stamped ranged = ranged_same w left all (in_range_step test w left (Up c) is ranged.sites) ranged
ranged_step test w left k all (Poll c which) is sound kept stamped ranged = ranged_same w left all (in_range_step test w left (Poll c which) is ranged.sites) ranged
ranged_step test w left k all (Down c) is sound kept stamped ranged = ranged_same w left all (in_range_step test w left (Down c) is ranged.sites) ranged
ranged_step test w left k all (Lose c) is sound kept stamped ranged = ranged_same w left all (in_range_step test w left (Lose c) is ranged.sites) ranged
ranged_step test w left k all (RestPoll c r t answer) is sound kept stamped ranged = ranged_same w left all (in_range_step test w left (RestPoll c r t answer) is ranged.sites) ranged

pub ranged_start : Ranged empty_world []
ranged_start = record { sites = λ r s has. absurd (never s (sym (finmap.get-empty nat_cmp r) ∙ has)); stamps = λ x made. absurd (none_in x made); bodies = λ x made. absurd (none_in x made) }
  where
    never : (s : Site) → ◌≡◌ {A = Option Site} None (Some s) → ⊥
    never s e = cc
