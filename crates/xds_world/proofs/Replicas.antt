-- The replicas' half of the headline: what a replica holds are the best writes of what it knows.
use Rattle.std.proofs.Common.{◌≡◌, ◌≢◌, ◌⊎◌, inl, inr, ℕ, zero, suc, List, [], ◌∷◌, ◌++◌, map, Bool, true, false, Option, Some, None, Result, Ok, Err, refl, sym, ap, subst, ◌∙◌, append-nil}
use Rattle.std.specs.Prelude.{◌&&◌, not, nat_lt, if◌then◌else◌, is_none, option_map, ⊤}
use Rattle.std.specs.Option.{option_and_then, option_map_or}
use Rattle.std.specs.List.{filter}
use Rattle.std.specs.Ordering.{nat_cmp}
use Rattle.std.specs.Cmp.{nat_cmp_total}
use Rattle.std.specs.FinMap as finmap
use Rattle.std.specs.FinMap.{FinMap, nat_cmp-IsAntisymmetric}
use Rattle.std.proofs.lemmas.List.{map-append}
use Rattle.std.proofs.lemmas.Bool.{ne_eqb, eq-eqb}
use Rattle.xds_resource.specs.declared.types.TypeName.{TypeName}
use Rattle.xds_resource.specs.Types.{is_same_type}
use Rattle.xds_resource.specs.Stamps.{max_writer}
use Rattle.xds_resource.specs.PerType.{at, with_at, each}
use Rattle.xds_resource.specs.declared.refusal.Refusal.{Refusal}
use Rattle.xds_resource.specs.declared.refusal.Refusal.TheVariants.{CounterSpent}
use Rattle.xds_resource.specs.Resources.{NamedBody, written, deleted}
use Rattle.xds_resource.proofs.TypesApart.{same_type, is_same_type-same, at-with_at, at-with_at_other, at-each, at-per_type}
use Rattle.xds_resource.proofs.Refusing.{unless_once}
use Rattle.xds_resource.specs.Writes.{StampedWrite}
use Rattle.xds_catalogue.specs.Holdings.{Holdings, nothing_held, catalogue_of}
use Rattle.xds_catalogue.specs.Joins.{joined}
use Rattle.xds_catalogue.proofs.Catalogues.{catalogue_of-entries}
use Rattle.xds_catalogue.proofs.JoinLaws.{joins_the_writes, order_does_not_matter}
use Rattle.xds_catalogue.proofs.Lookups.{get-inserted}
use Rattle.xds_core.specs.Stores.{Store, Batch, putting_at, deleting_at, merging, merged, is_spent, grown, all_entries}
use Rattle.xds_core.specs.Events as events
use Rattle.xds_core.specs.Events.{Event, Request, Reply, Opened, Answered, Polled, Owed, Closed, Written, Merged, Entries, Rested, Changed}
use Rattle.xds_core.specs.Streams.{Message}
use Rattle.xds_message.specs.declared.draft.Draft.{Draft}
use Rattle.xds_message.specs.Drafts.{Drafted}
use Rattle.xds_message.specs.Messages as messages
use Rattle.xds_cache.specs.Faults.{Test}
use Rattle.xds_cache.specs.Clients.{Client, unlinked}
use Rattle.xds_core.specs.Steps.{Core, Step, step, fresh as fresh_core}
use Rattle.xds_core.specs.Legal.{left_by}
use Rattle.xds_core.specs.Laws.{is_write}
use Rattle.xds_core.proofs.StepLaws.{only_writes_change_the_store, done_with, put_is, delete_is}
use Rattle.xds_world.specs.Worlds.{Site, Link, Peer, World, empty_world, recorded, answered_at, at_site, happened_at, placed, pooled, with_peer, new_peer, connected_to, opened, changed, wish_taken, under_way, polled, up_taken, received, taken_down, down_taken, on_link, is_free, is_to_connect, poll_of, poll_event, answer_taken, rested, rest_polled, happens, after}
use Rattle.xds_world.specs.Knows.{TypedWrite, Knowledge, nothing_known, learning, learned, known_after, knows, made as made_of}
use Rattle.xds_script.specs.declared.event.AnswerFate.{AnswerFate}
use Rattle.xds_script.specs.Happenings.{Happening, AddReplica, AddClient, Put, Delete, Snapshot, Merge, Connect, Change, Up, Poll, Down, Lose, RestPoll}
use Rattle.xds_world.specs.Claims.{writes_of, HoldsWhatItKnows, SameKnowledgeSameHoldings}

-- ---- writes of a type

pub filtered : {X : Type 0} (b : Bool) (x : X) (xs ys both : List X) → both ≡ xs ++ ys → (if b then x ∷ both else both) ≡ (if b then x ∷ xs else xs) ++ ys
filtered true x xs ys both is = ap (λ l. x ∷ l) is
filtered false x xs ys both is = is

pub filter-append : {X : Type 0} (p : X → Bool) (xs ys : List X) → filter p (xs ++ ys) ≡ filter p xs ++ filter p ys
filter-append p [] ys = refl
filter-append p (x ∷ xs) ys = filtered (p x) x (filter p xs) (filter p ys) (filter p (xs ++ ys)) (filter-append p xs ys)

pub writes_of-append : (t : TypeName) (vs ws : List TypedWrite) → writes_of t (vs ++ ws) ≡ writes_of t vs ++ writes_of t ws
writes_of-append t vs ws = ap (map (λ x. x.1)) (filter-append (λ x. is_same_type x.0 t) vs ws) ∙ map-append (λ x. x.1) (filter (λ x. is_same_type x.0 t) vs) (filter (λ x. is_same_type x.0 t) ws)

-- ---- joins

-- more writes, after those that a catalogue is of
pub joined_known : (h : Holdings) (vs ws : List StampedWrite) → h.entries ≡ catalogue_of vs → (joined h ws).entries ≡ catalogue_of (vs ++ ws)
joined_known h vs ws is = ap (λ m. catalogue_of (finmap.values m ++ ws)) is ∙ catalogue_of-entries vs ws

-- the best of other writes, after those that a catalogue is of
pub joined_best : (h : Holdings) (vs ws batch : List StampedWrite) → h.entries ≡ catalogue_of vs → batch ≡ finmap.values (catalogue_of ws) → (joined h batch).entries ≡ catalogue_of (vs ++ ws)
joined_best h vs ws batch is best = (λ i. catalogue_of (finmap.values (is i) ++ best i)) ∙ joins_the_writes vs ws

pub never : {X : Type 0} (x : X) → None ≡ Some x → ⊥
never x e = absurd cc

-- ---- what replicas hold

abbrev pub Known : Type 0
Known = ℕ → List TypedWrite

abbrev pub HoldsAll : FinMap nat_cmp Site → Known → Type 0
HoldsAll sites known = (r : ℕ) (s : Site) (t : TypeName) → finmap.get sites r ≡ Some s → (at s.core.store t).entries ≡ catalogue_of (writes_of t (known r))

pub some_is : {X : Type 0} (x y : X) → Some x ≡ Some y → x ≡ y
some_is x y e = cc

-- a replica that changed
pub put_holds : (sites : FinMap nat_cmp Site) (known after : Known) (r : ℕ) (site : Site) → ((t : TypeName) → (at site.core.store t).entries ≡ catalogue_of (writes_of t (after r))) → ((q : ℕ) → r ≢ q → after q ≡ known q)
    → HoldsAll sites known → HoldsAll (finmap.insert sites r site) after
put_holds sites known after r site here others holds q s t has =
    elim (get-inserted nat_cmp_total nat_cmp-IsAntisymmetric sites r site q) [
      | inl same ↦
          let is : site ≡ s = some_is site s (sym same.1 ∙ has) in
          ap (λ (x : Site). (at x.core.store t).entries) (sym is) ∙ here t ∙ ap (λ n. catalogue_of (writes_of t (after n))) same.0
      | inr other ↦ holds q s t (sym other.1 ∙ has) ∙ ap (λ ws. catalogue_of (writes_of t ws)) (sym (others q other.0))
    ]

stepped : (w : World) (r : ℕ) (e : Event) (p : Reply × World) (s : Site) (step_is : Step) → answered_at w r s e step_is ≡ Some p → (q : Reply × Core) × (step_is ≡ Ok q) × (p ≡ (q.0, record w { sites = finmap.insert w.sites r (recorded s e q) }))
stepped w r e p s (Ok q) is = (q, refl, sym (some_is _ _ is))
stepped w r e p s (Err refusal) is = absurd cc

answered_by : (w : World) (r : ℕ) (e : Event) (p : Reply × World) (o : Option Site) → finmap.get w.sites r ≡ o → option_and_then (λ s. answered_at w r s e (step s.core e)) o ≡ Some p
    → (s : Site) × (q : Reply × Core) × (finmap.get w.sites r ≡ Some s) × (step s.core e ≡ Ok q) × (p ≡ (q.0, record w { sites = finmap.insert w.sites r (recorded s e q) }))
answered_by w r e p None has is = absurd cc
answered_by w r e p (Some s) has is = let made = stepped w r e p s (step s.core e) is in (s, made.0, has, made.1, made.2)

-- what a replica answered, and the world then
pub answered : (w : World) (r : ℕ) (e : Event) (p : Reply × World) → at_site w r e ≡ Some p
    → (s : Site) × (q : Reply × Core) × (finmap.get w.sites r ≡ Some s) × (step s.core e ≡ Ok q) × (p ≡ (q.0, record w { sites = finmap.insert w.sites r (recorded s e q) }))
answered w r e p is = answered_by w r e p (finmap.get w.sites r) refl is

-- ---- options

pub mapped_some : {X Y : Type 0} (f : X → Y) (o : Option X) (y : Y) → option_map f o ≡ Some y → (x : X) × (o ≡ Some x) × (y ≡ f x)
mapped_some f None y is = absurd cc
mapped_some f (Some x) y is = (x, refl, sym (some_is (f x) y is))

pub bound_some : {X Y : Type 0} (f : X → Option Y) (o : Option X) (y : Y) → option_and_then f o ≡ Some y → (x : X) × (o ≡ Some x) × (f x ≡ Some y)
bound_some f None y is = absurd cc
bound_some f (Some x) y is = (x, refl, is)

pub both_parts : (a b : Bool) → (a && b) ≡ true → (a ≡ true) × (b ≡ true)
both_parts true b is = (refl, is)
both_parts false b is = absurd cc

pub if_some : {X : Type 0} (b : Bool) (x y : X) → (if b then Some x else None) ≡ Some y → (b ≡ true) × (y ≡ x)
if_some true x y is = (refl, sym (some_is x y is))
if_some false x y is = absurd cc

-- ---- what is kept

-- each batch of the pool has the best writes of what was known when it was taken
abbrev pub Carries : List (ℕ × Batch) → List (List TypedWrite) → Type 0
Carries [] [] = ⊤
Carries [] (ws ∷ wss) = ⊥
Carries (x ∷ xs) [] = ⊥
Carries (x ∷ xs) (ws ∷ wss) = ((t : TypeName) → at x.1 t ≡ finmap.values (catalogue_of (writes_of t ws))) × Carries xs wss

pub record Kept (w : World) (k : Knowledge) : Type 0 where
  pub holds : HoldsAll w.sites k.at
  pub carries : Carries w.pool k.batches
  -- of a replica that isn't there nothing is known
  pub unknown : (r : ℕ) → finmap.get w.sites r ≡ None → k.at r ≡ []

pub kept_start : Kept empty_world nothing_known
kept_start = record {
  holds = λ r s t has. absurd (never s (sym (finmap.get-empty nat_cmp r) ∙ has));
  carries = tt;
  unknown = λ r none. refl;
}

still_unknown : (sites : FinMap nat_cmp Site) (r q : ℕ) (site : Site) → finmap.get (finmap.insert sites r site) q ≡ None → (r ≢ q) × (finmap.get sites q ≡ None)
still_unknown sites r q site none =
    elim (get-inserted nat_cmp_total nat_cmp-IsAntisymmetric sites r site q) [
      | inl same ↦ absurd (never site (sym none ∙ same.1))
      | inr other ↦ (other.0, sym other.1 ∙ none)
    ]

-- a replica that learned writes
pub site_learned : (w : World) (k : Knowledge) (r : ℕ) (site : Site) (ws : List TypedWrite) → ((t : TypeName) → (at site.core.store t).entries ≡ catalogue_of (writes_of t (k.at r ++ ws))) → Kept w k
    → Kept (record w { sites = finmap.insert w.sites r site }) (learning k r ws)
site_learned w k r site ws here kept = record {
  holds = put_holds w.sites k.at (learning k r ws).at r site (λ t. here t ∙ ap (λ b. catalogue_of (writes_of t (if b then k.at r ++ ws else k.at r))) (sym (eq-eqb r r refl))) (λ q other. ap (λ b. if b then k.at q ++ ws else k.at q) (ne_eqb q r (λ e. other (sym e)))) kept.holds;
  carries = kept.carries;
  unknown = λ q none. let gone = still_unknown w.sites r q site none in ap (λ b. if b then k.at q ++ ws else k.at q) (ne_eqb q r (λ e. gone.0 (sym e))) ∙ kept.unknown q gone.1;
}

-- a replica that changed, but not in what it holds
pub site_kept : (w : World) (k : Knowledge) (r : ℕ) (s site : Site) → finmap.get w.sites r ≡ Some s → site.core.store ≡ s.core.store → Kept w k → Kept (record w { sites = finmap.insert w.sites r site }) k
site_kept w k r s site has same kept = record {
  holds = put_holds w.sites k.at k.at r site (λ t. ap (λ p. (at {X = Holdings} p t).entries) same ∙ kept.holds r s t has) (λ q other. refl) kept.holds;
  carries = kept.carries;
  unknown = λ q none. kept.unknown q (still_unknown w.sites r q site none).1;
}

-- the store after an event that is no write
pub unwritten : (c : Core) (e : Event) (q : Reply × Core) → is_write e ≡ false → step c e ≡ Ok q → q.1.store ≡ c.store
unwritten c e q other is = sym (ap (λ r. (left_by c r).store) is) ∙ only_writes_change_the_store c e other

pub quiet_kept : (w : World) (k : Knowledge) (r : ℕ) (e : Event) (p : Reply × World) → is_write e ≡ false → at_site w r e ≡ Some p → Kept w k → Kept p.1 k
quiet_kept w k r e p other is kept =
    let made = answered w r e p is in
    subst (λ x. Kept x k) (sym (ap (λ x. x.1) made.4)) (site_kept w k r made.0 (recorded made.0 e made.1) made.2 (unwritten made.0.core e made.1 other made.3) kept)

-- clients change nothing of this
pub peers_kept : (w : World) (k : Knowledge) (peers : FinMap nat_cmp Peer) → Kept w k → Kept (record w { peers = peers }) k
peers_kept w k peers kept = record { holds = kept.holds; carries = kept.carries; unknown = kept.unknown }

-- ---- events that are writes

placed_known : (p : Store) (known : List TypedWrite) (t u : TypeName) (wr : StampedWrite) → ((v : TypeName) → (at p v).entries ≡ catalogue_of (writes_of v known))
    → (at (with_at p t (joined (at p t) (wr ∷ []))) u).entries ≡ catalogue_of (writes_of u known ++ writes_of u ((t, wr) ∷ []))
placed_known p known t u wr h = by_type (same_type t u)
  where
    by_type : ((t ≡ u) × (is_same_type t u ≡ true)) ⊎ ((t ≢ u) × (is_same_type t u ≡ false))
        → (at (with_at p t (joined (at p t) (wr ∷ []))) u).entries ≡ catalogue_of (writes_of u known ++ writes_of u ((t, wr) ∷ []))
    by_type (inl same) =
        subst (λ v. (at (with_at p t (joined (at p t) (wr ∷ []))) v).entries ≡ catalogue_of (writes_of v known ++ writes_of v ((t, wr) ∷ []))) same.0
        (ap (λ (h : Holdings). h.entries) (at-with_at p t (joined (at p t) (wr ∷ []))) ∙ joined_known (at p t) (writes_of t known) (wr ∷ []) (h t)
        ∙ ap (λ b. catalogue_of (writes_of t known ++ map (λ (x : TypedWrite). x.1) (if b then (t, wr) ∷ [] else []))) (sym (is_same_type-same t)))
    by_type (inr other) =
        ap (λ (h : Holdings). h.entries) (at-with_at_other p t (joined (at p t) (wr ∷ [])) u (λ e. other.0 (sym e))) ∙ h u ∙ ap catalogue_of (sym (append-nil (writes_of u known)))
        ∙ ap (λ b. catalogue_of (writes_of u known ++ map (λ (x : TypedWrite). x.1) (if b then (t, wr) ∷ [] else []))) (sym other.1)

-- a replica that wrote, from what its step leaves
own_write : (w : World) (k : Knowledge) (r : ℕ) (s site : Site) (t : TypeName) (wr : StampedWrite) → finmap.get w.sites r ≡ Some s → site.core.store ≡ with_at s.core.store t (joined (at s.core.store t) (wr ∷ [])) → Kept w k
    → Kept (record w { sites = finmap.insert w.sites r site }) (learning k r ((t, wr) ∷ []))
own_write w k r s site t wr has is kept =
    site_learned w k r site ((t, wr) ∷ []) (λ u. ap (λ p. (at {X = Holdings} p u).entries) is ∙ placed_known s.core.store (k.at r) t u wr (λ v. kept.holds r s v has) ∙ ap catalogue_of (sym (writes_of-append u (k.at r) ((t, wr) ∷ [])))) kept

put_kept : (w : World) (k : Knowledge) (r : ℕ) (t : TypeName) (body : NamedBody) (groups : List (List ℕ)) (p : Reply × World) → at_site w r (events.Put t body groups) ≡ Some p → Kept w k → Kept p.1 (learned w (Put r t body groups) k)
put_kept w k r t body groups p is kept =
    let made = answered w r (events.Put t body groups) p is in
    let s = made.0 in
    let c = s.core in
    let done = done_with (λ x. (Written x.0 c.replica, record c { store = x.1 })) (putting_at c.store t body groups c.replica) made.1 made.3 in
    let x = done.0 in
    let which = put_is c.store t body groups c.replica x done.1 in
    let wr = written x.0 c.replica body groups in
    let stored : made.1.1.store ≡ with_at c.store t (joined (at c.store t) (wr ∷ [])) = ap (λ y. y.1.store) done.2 ∙ which.1 ∙ ap (λ n. with_at c.store t (joined (at c.store t) (written n c.replica body groups ∷ []))) (sym which.0) in
    let told : at_site w r (events.Put t body groups) ≡ Some (Written x.0 c.replica, p.1) = is ∙ (λ i. Some ((ap (λ y. y.0) made.4 ∙ ap (λ y. y.0) done.2) i, p.1)) in
    subst (λ o. Kept p.1 (learning k r (made_of (λ counter writer. written counter writer body groups) t o))) (sym told)
    (subst (λ y. Kept y (learning k r ((t, wr) ∷ []))) (sym (ap (λ y. y.1) made.4)) (own_write w k r s (recorded s (events.Put t body groups) made.1) t wr made.2 stored kept))

delete_kept : (w : World) (k : Knowledge) (r : ℕ) (t : TypeName) (name : List ℕ) (p : Reply × World) → at_site w r (events.Delete t name) ≡ Some p → Kept w k → Kept p.1 (learned w (Delete r t name) k)
delete_kept w k r t name p is kept =
    let made = answered w r (events.Delete t name) p is in
    let s = made.0 in
    let c = s.core in
    let done = done_with (λ x. (Written x.0 c.replica, record c { store = x.1 })) (deleting_at c.store t name c.replica) made.1 made.3 in
    let x = done.0 in
    let which = delete_is c.store t name c.replica x done.1 in
    let wr = deleted x.0 c.replica name in
    let stored : made.1.1.store ≡ with_at c.store t (joined (at c.store t) (wr ∷ [])) = ap (λ y. y.1.store) done.2 ∙ which.1 ∙ ap (λ n. with_at c.store t (joined (at c.store t) (deleted n c.replica name ∷ []))) (sym which.0) in
    let told : at_site w r (events.Delete t name) ≡ Some (Written x.0 c.replica, p.1) = is ∙ (λ i. Some ((ap (λ y. y.0) made.4 ∙ ap (λ y. y.0) done.2) i, p.1)) in
    subst (λ o. Kept p.1 (learning k r (made_of (λ counter writer. deleted counter writer name) t o))) (sym told)
    (subst (λ y. Kept y (learning k r ((t, wr) ∷ []))) (sym (ap (λ y. y.1) made.4)) (own_write w k r s (recorded s (events.Delete t name) made.1) t wr made.2 stored kept))

-- what a place of the pool carries
carried : (xs : List (ℕ × Batch)) (wss : List (List TypedWrite)) (n : ℕ) (x : ℕ × Batch) → Carries xs wss → placed xs n ≡ Some x
    → (ws : List TypedWrite) × (placed wss n ≡ Some ws) × ((t : TypeName) → at x.1 t ≡ finmap.values (catalogue_of (writes_of t ws)))
carried [] wss n x carries is = absurd cc
carried (y ∷ xs) [] n x carries is = absurd carries
carried (y ∷ xs) (ws ∷ wss) zero x carries is = absurd cc
carried (y ∷ xs) (ws ∷ wss) (suc zero) x carries is = (ws, refl, λ t. ap (λ z. at z.1 t) (sym (some_is y x is)) ∙ carries.0 t)
carried (y ∷ xs) (ws ∷ wss) (suc (suc n)) x carries is = carried xs wss (suc n) x carries.1 is

merge_kept : (w : World) (k : Knowledge) (r b : ℕ) (x : ℕ × Batch) (p : Reply × World) → placed w.pool b ≡ Some x → at_site w r (events.Merge x.1) ≡ Some p → Kept w k → Kept p.1 (learned w (Merge r b) k)
merge_kept w k r b x p place is kept =
    let made = answered w r (events.Merge x.1) p is in
    let s = made.0 in
    let c = s.core in
    let done = done_with (λ y. (Merged y.0, record c { store = y.1 })) (merging c.store x.1) made.1 made.3 in
    let joined_is = unless_once (is_spent c.store x.1) CounterSpent (grown c.store x.1, merged c.store x.1) done.0 done.1 in
    let stored : made.1.1.store ≡ merged c.store x.1 = ap (λ y. y.1.store) done.2 ∙ ap (λ y. y.1) joined_is in
    let from = carried w.pool k.batches b x kept.carries place in
    let ws = from.0 in
    subst (λ o. Kept p.1 (option_map_or (learning k r) o k)) (sym from.1)
    (subst (λ y. Kept y (learning k r ws)) (sym (ap (λ y. y.1) made.4))
    (site_learned w k r (recorded s (events.Merge x.1) made.1) ws
    (λ u. ap (λ q. (at {X = Holdings} q u).entries) stored ∙ ap (λ h. h.entries) (at-per_type (λ t. joined (at c.store t) (at x.1 t)) u)
    ∙ joined_best (at c.store u) (writes_of u (k.at r)) (writes_of u ws) (at x.1 u) (kept.holds r s u made.2) (from.2 u) ∙ ap catalogue_of (sym (writes_of-append u (k.at r) ws))) kept))

carries_more : (xs : List (ℕ × Batch)) (wss : List (List TypedWrite)) (x : ℕ × Batch) (ws : List TypedWrite) → Carries xs wss → ((t : TypeName) → at x.1 t ≡ finmap.values (catalogue_of (writes_of t ws))) → Carries (xs ++ x ∷ []) (wss ++ ws ∷ [])
carries_more [] [] x ws carries here = (here, tt)
carries_more [] (vs ∷ wss) x ws carries here = absurd carries
carries_more (y ∷ xs) [] x ws carries here = absurd carries
carries_more (y ∷ xs) (vs ∷ wss) x ws carries here = (carries.0, carries_more xs wss x ws carries.1 here)

pub ok_is : {X : Type 0} (x y : X) → (◌≡◌ {A = Result X Refusal} (Ok x) (Ok y)) → x ≡ y
ok_is x y e = cc

snapshot_kept : (w : World) (k : Knowledge) (r : ℕ) (p : Reply × World) (left : World) → at_site w r events.Snapshot ≡ Some p → pooled r p ≡ Some left → Kept w k → Kept left (learned w (Snapshot r) k)
snapshot_kept w k r p left is pool kept =
    let made = answered w r events.Snapshot p is in
    let s = made.0 in
    let answer = ok_is (Entries (all_entries s.core.store), s.core) made.1 made.3 in
    let next : World = record w { sites = finmap.insert w.sites r (recorded s events.Snapshot made.1) } in
    let whole : p ≡ (Entries (all_entries s.core.store), next) = made.4 ∙ (λ i. (ap (λ y. y.0) (sym answer) i, next)) in
    let left_is : left ≡ record next { pool = next.pool ++ (r, all_entries s.core.store) ∷ [] } = sym (some_is _ _ (sym (ap (pooled r) whole) ∙ pool)) in
    let moved = site_kept w k r s (recorded s events.Snapshot made.1) made.2 (ap (λ y. y.1.store) (sym answer)) kept in
    subst (λ y. Kept y (learned w (Snapshot r) k)) (sym left_is) (record {
      holds = moved.holds;
      carries = carries_more w.pool k.batches (r, all_entries s.core.store) (k.at r) kept.carries (λ t. at-per_type (λ u. finmap.values (at s.core.store u).entries) t ∙ ap finmap.values (kept.holds r s t made.2));
      unknown = moved.unknown;
    })

-- ---- all events

abbrev pub IsOf : World → World → Type 0
IsOf left w = (peers : FinMap nat_cmp Peer) × (left ≡ record w { peers = peers })

-- a world whose clients changed
moved : (w left : World) (k : Knowledge) → IsOf left w → Kept w k → Kept left k
moved w left k is kept = subst (λ x. Kept x k) (sym is.1) (peers_kept w k is.0 kept)

pub opened_is : (c r : ℕ) (p : Peer) (reply : Reply) (w left : World) → opened c r p (reply, w) ≡ Some left → IsOf left w
opened_is c r p (Opened n) w left is = (finmap.insert w.peers c (connected_to p r n), sym (some_is _ _ is))
opened_is c r p (Answered o) w left is = absurd cc
opened_is c r p (Polled o) w left is = absurd cc
opened_is c r p (Owed o) w left is = absurd cc
opened_is c r p Closed w left is = absurd cc
opened_is c r p (Written n m) w left is = absurd cc
opened_is c r p (Merged n) w left is = absurd cc
opened_is c r p (Entries b) w left is = absurd cc
opened_is c r p (Rested o) w left is = absurd cc
opened_is c r p (Changed b marks) w left is = absurd cc

pub polled_is : (c : ℕ) (p : Peer) (l : Link) (reply : Reply) (w left : World) → polled c p l (reply, w) ≡ Some left → IsOf left w
polled_is c p l (Polled o) w left is = (finmap.insert w.peers c (record p { link = Some (record l { down = l.down ++ under_way o }) }), sym (some_is _ _ is))
polled_is c p l (Opened n) w left is = absurd cc
polled_is c p l (Answered o) w left is = absurd cc
polled_is c p l (Owed o) w left is = absurd cc
polled_is c p l Closed w left is = absurd cc
polled_is c p l (Written n m) w left is = absurd cc
polled_is c p l (Merged n) w left is = absurd cc
polled_is c p l (Entries b) w left is = absurd cc
polled_is c p l (Rested o) w left is = absurd cc
polled_is c p l (Changed b marks) w left is = absurd cc

up_kept : (w left : World) (k : Knowledge) (c : ℕ) (p : Peer) (l : Link) (ms : List Message) → up_taken w c p l ms ≡ Some left → Kept w k → Kept left k
up_kept w left k c p l [] is kept = absurd cc
up_kept w left k c p l (m ∷ rest) is kept =
    let made = mapped_some (λ q. with_peer q.1 c (record p { link = Some (record l { up = rest }) })) (at_site w l.replica (Request l.stream m)) left is in
    moved made.0.1 left k (finmap.insert made.0.1.peers c (record p { link = Some (record l { up = rest }) }), made.2) (quiet_kept w k l.replica (Request l.stream m) made.0 refl made.1 kept)

down_kept : (test : Test) (w left : World) (k : Knowledge) (c : ℕ) (p : Peer) (l : Link) (ds : List Draft) → down_taken test w c p l ds ≡ Some left → Kept w k → Kept left k
down_kept test w left k c p l [] is kept = absurd cc
down_kept test w left k c p l (d ∷ rest) is kept =
    let made = mapped_some (λ q. with_peer w c (taken_down p l rest q)) (received test p d) left is in
    moved w left k (finmap.insert w.peers c (taken_down p l rest made.0), made.2) kept

pub none_there : {X : Type 0} (o : Option X) → is_none o ≡ true → o ≡ None
none_there None e = refl
none_there (Some x) e = absurd cc

nothing_entries : (t : TypeName) → (at (each nothing_held) t).entries ≡ catalogue_of []
nothing_entries t = ap (λ (h : Holdings). h.entries) (at-each nothing_held t)

added_kept : (w : World) (k : Knowledge) (r : ℕ) → finmap.get w.sites r ≡ None → Kept w k → Kept (record w { sites = finmap.insert w.sites r (record { core = fresh_core r; journal = [] }) }) k
added_kept w k r none kept = record {
  holds = put_holds w.sites k.at k.at r (record { core = fresh_core r; journal = [] }) (λ t. nothing_entries t ∙ ap (λ ws. catalogue_of (writes_of t ws)) (sym (kept.unknown r none))) (λ q other. refl) kept.holds;
  carries = kept.carries;
  unknown = λ q gone. kept.unknown q (still_unknown w.sites r q (record { core = fresh_core r; journal = [] }) gone).1;
}

pub if_then : {X : Type 0} (b : Bool) (o : Option X) (y : X) → (if b then o else None) ≡ Some y → o ≡ Some y
if_then true o y is = is
if_then false o y is = absurd cc

pub if_both : {X : Type 0} (b : Bool) (o : Option X) (y : X) → (if b then o else None) ≡ Some y → (b ≡ true) × (o ≡ Some y)
if_both true o y is = (refl, is)
if_both false o y is = absurd cc

pub on_link_some : (w : World) (c : ℕ) (f : Peer → Link → Option World) (left : World) → on_link w c f ≡ Some left → (p : Peer) × (l : Link) × (f p l ≡ Some left) × (finmap.get w.peers c ≡ Some p) × (p.link ≡ Some l)
on_link_some w c f left is =
    let peer = bound_some (λ p. option_and_then (f p) p.link) (finmap.get w.peers c) left is in
    let linked = bound_some (f peer.0) peer.0.link left peer.2 in
    (peer.0, linked.0, linked.2, peer.1, linked.1)

-- ---- polls without a stream

-- what a poll that was possible did: the client, what it asked, what the replica answered, and the client then
pub record IsRestPoll (test : Test) (w left : World) (c r : ℕ) (t : TypeName) (answer : AnswerFate) : Type 0 where
  pub peer : Peer
  pub has : finmap.get w.peers c ≡ Some peer
  pub request : messages.Request
  pub asks : poll_of peer t ≡ Some request
  pub reply : Reply × World
  pub answers : at_site w r (poll_event t request) ≡ Some reply
  pub draft : Option Drafted
  pub says : reply.0 ≡ Rested draft
  pub client : Client
  pub takes : answer_taken test answer peer.client t draft ≡ Some client
  pub after : left ≡ with_peer reply.1 c (record peer { client = client })

rested_is : (test : Test) (answer : AnswerFate) (c : ℕ) (t : TypeName) (p : Peer) (reply : Reply) (w left : World) → rested test answer c t p (reply, w) ≡ Some left
    → (o : Option Drafted) × (x : Client) × (reply ≡ Rested o) × (answer_taken test answer p.client t o ≡ Some x) × (left ≡ with_peer w c (record p { client = x }))
rested_is test answer c t p (Rested o) w left is = let made = mapped_some (λ x. with_peer w c (record p { client = x })) (answer_taken test answer p.client t o) left is in (o, made.0, refl, made.1, made.2)
rested_is test answer c t p (Opened n) w left is = absurd cc
rested_is test answer c t p (Answered o) w left is = absurd cc
rested_is test answer c t p (Polled o) w left is = absurd cc
rested_is test answer c t p (Owed o) w left is = absurd cc
rested_is test answer c t p Closed w left is = absurd cc
rested_is test answer c t p (Written n m) w left is = absurd cc
rested_is test answer c t p (Merged n) w left is = absurd cc
rested_is test answer c t p (Entries b) w left is = absurd cc
rested_is test answer c t p (Changed b marks) w left is = absurd cc

pub rest_poll_is : (test : Test) (w left : World) (c r : ℕ) (t : TypeName) (answer : AnswerFate) → happens test w (RestPoll c r t answer) ≡ Some left → IsRestPoll test w left c r t answer
rest_poll_is test w left c r t answer is =
    let peer = bound_some (λ p. rest_polled test w c r t answer p) (finmap.get w.peers c) left is in
    let p : Peer = peer.0 in
    let asked = bound_some (λ q. option_and_then (rested test answer c t p) (at_site w r (poll_event t q))) (poll_of p t) left peer.2 in
    let answered = bound_some (rested test answer c t p) (at_site w r (poll_event t asked.0)) left asked.2 in
    let made = rested_is test answer c t p answered.0.0 answered.0.1 left answered.2 in
    record {
      peer = p;
      has = peer.1;
      request = asked.0;
      asks = asked.1;
      reply = answered.0;
      answers = answered.1;
      draft = made.0;
      says = made.2;
      client = made.1;
      takes = made.3;
      after = made.4;
    }

-- whatever happens
pub kept_step : (test : Test) (w left : World) (k : Knowledge) (h : Happening) → happens test w h ≡ Some left → Kept w k → Kept left (learned w h k)
kept_step test w left k (AddReplica r) is kept =
    let made = if_some (is_free w r) (record w { sites = finmap.insert w.sites r (record { core = fresh_core r; journal = [] }) }) left is in
    subst (λ x. Kept x k) (sym made.1) (added_kept w k r (none_there (finmap.get w.sites r) (both_parts (nat_lt 0 r && not (nat_lt max_writer r)) (is_none (finmap.get w.sites r)) made.0).1) kept)
kept_step test w left k (AddClient c kind cluster) is kept =
    let made = if_some (is_none (finmap.get w.peers c)) (with_peer w c (new_peer c kind cluster)) left is in
    moved w left k (finmap.insert w.peers c (new_peer c kind cluster), made.1) kept
kept_step test w left k (Put r t body groups) is kept =
    let made = mapped_some (λ p. p.1) (at_site w r (events.Put t body groups)) left is in
    subst (λ x. Kept x (learned w (Put r t body groups) k)) (sym made.2) (put_kept w k r t body groups made.0 made.1 kept)
kept_step test w left k (Delete r t name) is kept =
    let made = mapped_some (λ p. p.1) (at_site w r (events.Delete t name)) left is in
    subst (λ x. Kept x (learned w (Delete r t name) k)) (sym made.2) (delete_kept w k r t name made.0 made.1 kept)
kept_step test w left k (Snapshot r) is kept =
    let made = bound_some (pooled r) (at_site w r events.Snapshot) left is in
    snapshot_kept w k r made.0 left made.1 made.2 kept
kept_step test w left k (Merge r b) is kept =
    let place = bound_some (λ x. happened_at w r (events.Merge x.1)) (placed w.pool b) left is in
    let made = mapped_some (λ p. p.1) (at_site w r (events.Merge place.0.1)) left place.2 in
    subst (λ x. Kept x (learned w (Merge r b) k)) (sym made.2) (merge_kept w k r b place.0 made.0 place.1 made.1 kept)
kept_step test w left k (Connect c r) is kept =
    let peer = bound_some (λ p. if is_to_connect p then option_and_then (opened c r p) (at_site w r events.Open) else None) (finmap.get w.peers c) left is in
    let down = if_then (is_to_connect peer.0) (option_and_then (opened c r peer.0) (at_site w r events.Open)) left peer.2 in
    let made = bound_some (opened c r peer.0) (at_site w r events.Open) left down in
    moved made.0.1 left k (opened_is c r peer.0 made.0.0 made.0.1 left made.2) (quiet_kept w k r events.Open made.0 refl made.1 kept)
kept_step test w left k (Change c t wish) is kept =
    let peer = bound_some (λ p. option_map (λ q. with_peer w c (changed p q)) (wish_taken p t wish)) (finmap.get w.peers c) left is in
    let made = mapped_some (λ q. with_peer w c (changed peer.0 q)) (wish_taken peer.0 t wish) left peer.2 in
    moved w left k (finmap.insert w.peers c (changed peer.0 made.0), made.2) kept
kept_step test w left k (Up c) is kept =
    let at_link = on_link_some w c (λ p l. up_taken w c p l l.up) left is in
    up_kept w left k c at_link.0 at_link.1 at_link.1.up at_link.2 kept
kept_step test w left k (Poll c which) is kept =
    let at_link = on_link_some w c (λ p l. option_and_then (polled c p l) (at_site w l.replica (events.Poll l.stream which))) left is in
    let made = bound_some (polled c at_link.0 at_link.1) (at_site w at_link.1.replica (events.Poll at_link.1.stream which)) left at_link.2 in
    moved made.0.1 left k (polled_is c at_link.0 at_link.1 made.0.0 made.0.1 left made.2) (quiet_kept w k at_link.1.replica (events.Poll at_link.1.stream which) made.0 refl made.1 kept)
kept_step test w left k (Down c) is kept =
    let at_link = on_link_some w c (λ p l. down_taken test w c p l l.down) left is in
    down_kept test w left k c at_link.0 at_link.1 at_link.1.down at_link.2 kept
kept_step test w left k (Lose c) is kept =
    let at_link = on_link_some w c (λ p l. option_map (λ q. with_peer q.1 c (record p { client = unlinked p.client; link = None })) (at_site w l.replica (events.Close l.stream))) left is in
    let made = mapped_some (λ q. with_peer q.1 c (record at_link.0 { client = unlinked at_link.0.client; link = None })) (at_site w at_link.1.replica (events.Close at_link.1.stream)) left at_link.2 in
    moved made.0.1 left k (finmap.insert made.0.1.peers c (record at_link.0 { client = unlinked at_link.0.client; link = None }), made.2) (quiet_kept w k at_link.1.replica (events.Close at_link.1.stream) made.0 refl made.1 kept)
kept_step test w left k (RestPoll c r t answer) is kept =
    let x = rest_poll_is test w left c r t answer is in
    moved x.reply.1 left k (finmap.insert x.reply.1.peers c (record x.peer { client = x.client }), x.after) (quiet_kept w k r (poll_event t x.request) x.reply refl x.answers kept)

kept_or : (test : Test) (w : World) (k : Knowledge) (h : Happening) (hs : List Happening) (o : Option World) → happens test w h ≡ o → Kept w k
    → ((x : World) (j : Knowledge) → Kept x j → Kept (after test x hs) (known_after test x j hs))
    → Kept (after test (option_map_or (λ x. x) o w) hs) (option_map_or (λ x. known_after test x (learned w h k) hs) o (known_after test w k hs))
kept_or test w k h hs None is kept later = later w k kept
kept_or test w k h hs (Some x) is kept later = later x (learned w h k) (kept_step test w x k h is kept)

-- whatever list of happenings
pub kept_after : (test : Test) (hs : List Happening) (w : World) (k : Knowledge) → Kept w k → Kept (after test w hs) (known_after test w k hs)
kept_after test [] w k kept = kept
kept_after test (h ∷ hs) w k kept = kept_or test w k h hs (happens test w h) refl kept (kept_after test hs)

-- rule: greatest-write
-- the replicas' half of the headline
pub holds_what_it_knows : (test : Test) (hs : List Happening) → HoldsWhatItKnows test hs
holds_what_it_knows test hs r s t has = (kept_after test hs empty_world nothing_known kept_start).holds r s t has

-- rule: greatest-write
pub same_knowledge : (test : Test) (hs : List Happening) → SameKnowledgeSameHoldings test hs
same_knowledge test hs r q a b t has_a has_b same =
    holds_what_it_knows test hs r a t has_a ∙ order_does_not_matter (writes_of t (knows test hs r)) (writes_of t (knows test hs q)) same ∙ sym (holds_what_it_knows test hs q b t has_b)
