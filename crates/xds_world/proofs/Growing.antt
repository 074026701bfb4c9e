-- What a replica holds of a type grows: its count of changes never falls, stays within its range, and where it is the same the entries
-- are. Version texts tell replica and count.
use Rattle.std.proofs.Common.{◌≡◌, ◌≢◌, ◌⊎◌, inl, inr, ℕ, suc, ◌+◌, ◌<◌, ◌≤◌, ◌^◌, List, [], ◌∷◌, ◌++◌, length, get_or, Bool, true, false, Option, Some, Ok, refl, sym, ap, subst, ◌∙◌, arith, decimal}
use Rattle.std.specs.Prelude.{◌==◌, not, nat_lt, if◌then◌else◌}
use Rattle.std.specs.List.{list_any}
use Rattle.std.specs.Ordering.{nat_cmp}
use Rattle.std.specs.Cmp.{nat_cmp_total}
use Rattle.std.specs.FinMap as finmap
use Rattle.std.specs.FinMap.{FinMap, nat_cmp-IsAntisymmetric}
use Rattle.std.specs.Str.Parse.{AllDigits}
use Rattle.std.proofs.lemmas.Bool.{or_parts, ltb-false}
use Rattle.std.proofs.lemmas.Bool.Decides.{eqb_tells}
use Rattle.std.proofs.lemmas.Fmt.{digits_decimal, decimal_injective}
use Rattle.std.proofs.lemmas.List.{append_cancel_right}
use Rattle.std.proofs.lemmas.Str.Parse.{numerals_by_value, tells_digits, not_in_digits}
use Rattle.xds_resource.specs.declared.types.TypeName.{TypeName}
use Rattle.xds_resource.specs.declared.types.TypeName.TheVariants.{Cluster, Endpoint, Listener, Route, Secret}
use Rattle.xds_resource.specs.declared.refusal.Refusal.TheVariants.{NotFound, CounterSpent}
use Rattle.xds_resource.specs.Types.{is_same_type}
use Rattle.xds_resource.specs.PerType.{at, with_at}
use Rattle.xds_resource.specs.Refusals.{unless_refused}
use Rattle.xds_resource.specs.Resources.{NamedBody, written, deleted}
use Rattle.xds_resource.specs.Stamps.{max_counter, max_writer}
use Rattle.xds_resource.specs.Writes.{StampedWrite}
use Rattle.xds_resource.proofs.TypesApart.{same_type, at-with_at, at-with_at_other, at-each, at-per_type}
use Rattle.xds_resource.proofs.Refusing.{unless_once}
use Rattle.xds_resource.proofs.BoolsAndLists.{same_tails}
use Rattle.xds_interest.specs.Interests.{Selection}
use Rattle.xds_catalogue.specs.Holdings.{Holdings, nothing_held, IsCatalogue}
use Rattle.xds_catalogue.specs.Changes.{is_news}
use Rattle.xds_catalogue.specs.Joins.{joined, changes_by}
use Rattle.xds_catalogue.specs.Local.{greatest_counter, next_counter, has_live, putting, deleting}
use Rattle.xds_catalogue.proofs.JoinLaws.{made_of_its_writes, no_change_keeps_all}
use Rattle.xds_catalogue.proofs.Lookups.{get-inserted}
use Rattle.xds_ledger.specs.Texts.{replica_version, interest_version}
use Rattle.xds_core.specs.Stores.{Store, Batch, putting_at, deleting_at, merging, merged, is_spent, grown}
use Rattle.xds_core.specs.Events.{Event, Open, Request, Poll, Owes, Close, Put, Delete, Merge, Snapshot, Rest, Since, Reply, Written, Merged}
use Rattle.xds_core.specs.Steps.{Core, step, fresh as fresh_core}
use Rattle.xds_core.specs.Laws.{is_write}
use Rattle.xds_core.proofs.StepLaws.{done_with, put_is, delete_is}
use Rattle.xds_world.specs.Worlds.{Site, World, recorded}
use Rattle.xds_world.proofs.Replicas.{some_is, never, none_there, both_parts, answered, unwritten}
use Rattle.xds_world.proofs.Origins.{SitesCome}

-- ---- version texts

-- no byte of a list is a point
abbrev NoPoint : List ℕ → Type 0
NoPoint bs = (i : ℕ) → i < length bs → get_or bs i 0 ≢ 46

decimal_without_point : (n : ℕ) → n < 2 ^ 64 → NoPoint (decimal n)
decimal_without_point n small =
    let own = numerals_by_value (AllDigits 10) tells_digits in not_in_digits own (decimal n) 46 (digits_decimal own n small) (λ r. omega (arith, r))

-- what stands before the first point, and what stands after it
same_parts : (xs us ys vs : List ℕ) → NoPoint xs → NoPoint us → xs ++ 46 ∷ ys ≡ us ++ 46 ∷ vs → (xs ≡ us) × (ys ≡ vs)
same_parts [] [] ys vs no_x no_u e = (refl, (same_tails 46 46 ys vs e).1)
same_parts [] (u ∷ us) ys vs no_x no_u e = absurd (no_u 0 (omega arith) (sym (same_tails 46 u ys (us ++ 46 ∷ vs) e).0))
same_parts (x ∷ xs) [] ys vs no_x no_u e = absurd (no_x 0 (omega arith) (same_tails x 46 (xs ++ 46 ∷ ys) vs e).0)
same_parts (x ∷ xs) (u ∷ us) ys vs no_x no_u e =
    let here = same_tails x u (xs ++ 46 ∷ ys) (us ++ 46 ∷ vs) e in
    let more = same_parts xs us ys vs (λ i lt. no_x (suc i) (omega arith)) (λ i lt. no_u (suc i) (omega arith)) here.1 in (λ i. here.0 i ∷ more.0 i, more.1)

-- a version of an interest tells the replica and its count of changes
pub version_tells : (r k q j : ℕ) (s : Selection) → r ≤ max_writer → k ≤ max_counter → q ≤ max_writer → j ≤ max_counter → interest_version r k s ≡ interest_version q j s → (r ≡ q) × (k ≡ j)
version_tells r k q j s r_to k_to q_to j_to e =
    let below_r : r < 2 ^ 64 = omega (arith, r_to) in
    let below_k : k < 2 ^ 64 = omega (arith, k_to) in
    let below_q : q < 2 ^ 64 = omega (arith, q_to) in
    let below_j : j < 2 ^ 64 = omega (arith, j_to) in
    let plain : replica_version r k ≡ replica_version q j = append_cancel_right (replica_version r k) (replica_version q j) _ e in
    let parts = same_parts (decimal r) (decimal q) (decimal k) (decimal j) (decimal_without_point r below_r) (decimal_without_point q below_q) plain in
    (decimal_injective r q below_r below_q parts.0, decimal_injective k j below_k below_j parts.1)

nothing_there : (xs : List ℕ) (y : ℕ) (ys zs : List ℕ) → [] ≡ (xs ++ y ∷ ys) ++ zs → ⊥
nothing_there [] y ys zs e = absurd cc
nothing_there (x ∷ xs) y ys zs e = absurd cc

-- and is never empty
pub version_is_there : (r k : ℕ) (s : Selection) → [] ≡ interest_version r k s → ⊥
version_is_there r k s e = nothing_there (decimal r) 46 (decimal k) _ e

-- ---- one type

pub record Grows (h g : Holdings) : Type 0 where
  pub from : h.changes ≤ g.changes
  pub to : h.changes ≤ max_counter → g.changes ≤ max_counter
  pub same : h.changes ≡ g.changes → IsCatalogue h.entries → g.entries ≡ h.entries

pub grows_same : (h g : Holdings) → g ≡ h → Grows h g
grows_same h g same = record {
  from = subst (λ (x : Holdings). h.changes ≤ x.changes) (sym same) (omega arith);
  to = λ within. subst (λ (x : Holdings). x.changes ≤ max_counter) (sym same) within;
  same = λ equal catalogue. ap (λ (x : Holdings). x.entries) same;
}

none_more : (a b : ℕ) → a ≡ a + b → b ≡ 0
none_more a b e = omega (arith, e)

grows_joined : (h : Holdings) (ws : List StampedWrite) → (h.changes ≤ max_counter → (joined h ws).changes ≤ max_counter) → Grows h (joined h ws)
grows_joined h ws to = record {
  from = omega arith;
  to = to;
  same = λ equal catalogue. no_change_keeps_all (finmap.values h.entries) ws (none_more h.changes (changes_by h ws) equal) ∙ made_of_its_writes h.entries catalogue;
}

-- one write changes one entry at most
one_change : (b : Bool) → (if b then 1 else 0) + 0 ≤ 1
one_change true = omega arith
one_change false = omega arith

unspent : (a b : Bool) (x y : ℕ × Holdings) → unless_refused ((a, CounterSpent) ∷ (b, CounterSpent) ∷ []) x ≡ Ok y → b ≡ false
unspent true b x y is = absurd cc
unspent false true x y is = absurd cc
unspent false false x y is = refl

unspent_live : (n a b : Bool) (x y : ℕ × Holdings) → unless_refused ((n, NotFound) ∷ (a, CounterSpent) ∷ (b, CounterSpent) ∷ []) x ≡ Ok y → b ≡ false
unspent_live true a b x y is = absurd cc
unspent_live false true b x y is = absurd cc
unspent_live false false true x y is = absurd cc
unspent_live false false false x y is = refl

one_within : (n m : ℕ) → (n == max_counter) ≡ false → n ≤ max_counter → m ≤ 1 → n + m ≤ max_counter
one_within n m not_full within one = elim (eqb_tells n max_counter) [ inl same ↦ absurd (both_are (n == max_counter) same.0 not_full) | inr other ↦ omega (arith, within, other.1, one) ]
  where
    both_are : (b : Bool) → b ≡ true → b ≡ false → ⊥
    both_are true yes_it_is not_it = absurd cc
    both_are false yes_it_is not_it = absurd cc

grows_by_one : (h : Holdings) (w : StampedWrite) → (h.changes == max_counter) ≡ false → Grows h (joined h (w ∷ []))
grows_by_one h w not_full = grows_joined h (w ∷ []) (λ within. one_within h.changes (changes_by h (w ∷ [])) not_full within (one_change (is_news (finmap.values h.entries) w)))

-- ---- all types

abbrev pub GrowsAll : Store → Store → Type 0
GrowsAll a b = (t : TypeName) → Grows (at a t) (at b t)

grows_at : (s : Store) (t : TypeName) (h : Holdings) → Grows (at s t) h → GrowsAll s (with_at s t h)
grows_at s t h here u = by_type (same_type t u)
  where
    by_type : ((t ≡ u) × (is_same_type t u ≡ true)) ⊎ ((t ≢ u) × (is_same_type t u ≡ false)) → Grows (at s u) (at (with_at s t h) u)
    by_type (inl same) = subst (λ v. Grows (at s v) (at (with_at s t h) v)) same.0 (subst (Grows (at s t)) (sym (at-with_at s t h)) here)
    by_type (inr other) = grows_same (at s u) (at (with_at s t h) u) (at-with_at_other s t h u (λ e. other.0 (sym e)))

each_type : (p : TypeName → Bool) (t : TypeName) → list_any p (Cluster ∷ Endpoint ∷ Listener ∷ Route ∷ Secret ∷ []) ≡ false → p t ≡ false
each_type p Cluster none = (or_parts (p Cluster) _ none).0
each_type p Endpoint none = (or_parts (p Endpoint) _ (or_parts (p Cluster) _ none).1).0
each_type p Listener none = (or_parts (p Listener) _ (or_parts (p Endpoint) _ (or_parts (p Cluster) _ none).1).1).0
each_type p Route none = (or_parts (p Route) _ (or_parts (p Listener) _ (or_parts (p Endpoint) _ (or_parts (p Cluster) _ none).1).1).1).0
each_type p Secret none = (or_parts (p Secret) _ (or_parts (p Route) _ (or_parts (p Listener) _ (or_parts (p Endpoint) _ (or_parts (p Cluster) _ none).1).1).1).1).0

unspent_batch : (b : Bool) (x y : ℕ × Store) → unless_refused ((b, CounterSpent) ∷ []) x ≡ Ok y → b ≡ false
unspent_batch true x y is = absurd cc
unspent_batch false x y is = refl

-- a batch that isn't refused leaves all counts within their range
merged_within : (s : Store) (b : Batch) (t : TypeName) → is_spent s b ≡ false → (joined (at s t) (at b t)).changes ≤ max_counter
merged_within s b t none = ltb-false max_counter (joined (at s t) (at b t)).changes (each_type (λ u. nat_lt max_counter (joined (at s u) (at b u)).changes) t none)

-- ---- whatever happens at a replica

put_grows : (c : Core) (t : TypeName) (body : NamedBody) (groups : List (List ℕ)) (q : Reply × Core) → step c (Put t body groups) ≡ Ok q → GrowsAll c.store q.1.store
put_grows c t body groups q is =
    let done = done_with (λ x. (Written x.0 c.replica, record c { store = x.1 })) (putting_at c.store t body groups c.replica) q is in
    let which = put_is c.store t body groups c.replica done.0 done.1 in
    let room = done_with (λ y. (y.0, with_at c.store t y.1)) (putting (at c.store t) body groups c.replica) done.0 done.1 in
    let w : StampedWrite = written (next_counter (at c.store t)) c.replica body groups in
    let not_full : ((at {X = Holdings} c.store t).changes == max_counter) ≡ false =
    unspent (greatest_counter (at c.store t).entries == max_counter) ((at {X = Holdings} c.store t).changes == max_counter) (next_counter (at c.store t), joined (at c.store t) (w ∷ [])) room.0 room.1 in
    subst (GrowsAll c.store) (sym (ap (λ y. y.1.store) done.2 ∙ which.1)) (grows_at c.store t (joined (at c.store t) (w ∷ [])) (grows_by_one (at c.store t) w not_full))

delete_grows : (c : Core) (t : TypeName) (name : List ℕ) (q : Reply × Core) → step c (Delete t name) ≡ Ok q → GrowsAll c.store q.1.store
delete_grows c t name q is =
    let done = done_with (λ x. (Written x.0 c.replica, record c { store = x.1 })) (deleting_at c.store t name c.replica) q is in
    let which = delete_is c.store t name c.replica done.0 done.1 in
    let room = done_with (λ y. (y.0, with_at c.store t y.1)) (deleting (at c.store t) name c.replica) done.0 done.1 in
    let w : StampedWrite = deleted (next_counter (at c.store t)) c.replica name in
    let not_full : ((at {X = Holdings} c.store t).changes == max_counter) ≡ false =
    unspent_live (not (has_live (at {X = Holdings} c.store t).entries name)) (greatest_counter (at c.store t).entries == max_counter) ((at {X = Holdings} c.store t).changes == max_counter) (next_counter (at c.store t), joined (at c.store t) (w ∷ [])) room.0 room.1 in
    subst (GrowsAll c.store) (sym (ap (λ y. y.1.store) done.2 ∙ which.1)) (grows_at c.store t (joined (at c.store t) (w ∷ [])) (grows_by_one (at c.store t) w not_full))

merge_grows : (c : Core) (b : Batch) (q : Reply × Core) → step c (Merge b) ≡ Ok q → GrowsAll c.store q.1.store
merge_grows c b q is =
    let done = done_with (λ y. (Merged y.0, record c { store = y.1 })) (merging c.store b) q is in
    let joined_is = unless_once (is_spent c.store b) CounterSpent (grown c.store b, merged c.store b) done.0 done.1 in
    let none = unspent_batch (is_spent c.store b) (grown c.store b, merged c.store b) done.0 done.1 in
    subst (GrowsAll c.store) (sym (ap (λ y. y.1.store) done.2 ∙ ap (λ y. y.1) joined_is))
    (λ t. subst (Grows (at c.store t)) (sym (at-per_type (λ u. joined (at c.store u) (at b u)) t)) (grows_joined (at c.store t) (at b t) (λ within. merged_within c.store b t none)))

-- an event that is no write
quiet_grows : (c : Core) (e : Event) (q : Reply × Core) → is_write e ≡ false → step c e ≡ Ok q → GrowsAll c.store q.1.store
quiet_grows c e q quiet is t = grows_same (at c.store t) (at q.1.store t) (ap (λ (s : Store). at {X = Holdings} s t) (unwritten c e q quiet is))

pub step_grows : (c : Core) (e : Event) (q : Reply × Core) → step c e ≡ Ok q → GrowsAll c.store q.1.store
step_grows c (Put t body groups) q is = put_grows c t body groups q is
step_grows c (Delete t name) q is = delete_grows c t name q is
step_grows c (Merge b) q is = merge_grows c b q is
step_grows c Open q is = quiet_grows c Open q refl is
step_grows c (Request n m) q is = quiet_grows c (Request n m) q refl is
step_grows c (Poll n which) q is = quiet_grows c (Poll n which) q refl is
step_grows c (Owes n which) q is = quiet_grows c (Owes n which) q refl is
step_grows c (Close n) q is = quiet_grows c (Close n) q refl is
step_grows c Snapshot q is = quiet_grows c Snapshot q refl is
step_grows c (Rest t names version cluster) q is = quiet_grows c (Rest t names version cluster) q refl is
step_grows c (Since marks) q is = quiet_grows c (Since marks) q refl is

-- ---- all replicas

abbrev pub SitesGrow : FinMap nat_cmp Site → FinMap nat_cmp Site → Type 0
SitesGrow before after = (r : ℕ) (s : Site) → finmap.get before r ≡ Some s → (g : Site) × (finmap.get after r ≡ Some g) × GrowsAll s.core.store g.core.store

grows_itself : (s : Store) → GrowsAll s s
grows_itself s t = grows_same (at s t) (at s t) refl

put_site : (sites : FinMap nat_cmp Site) (q : ℕ) (site : Site) → ((s : Site) → finmap.get sites q ≡ Some s → GrowsAll s.core.store site.core.store) → SitesGrow sites (finmap.insert sites q site)
put_site sites q site here r s has =
    elim (get-inserted nat_cmp_total nat_cmp-IsAntisymmetric sites q site r) [
      | inl same ↦ (site, same.1, here s (ap (finmap.get sites) same.0 ∙ has))
      | inr other ↦ (s, other.1 ∙ has, grows_itself s.core.store)
    ]

pub sites_grow : (w left : World) (o : Option (ℕ × Event)) → SitesCome w left o → SitesGrow w.sites left.sites
sites_grow w left o (inl added) =
    let none = none_there (finmap.get w.sites added.0) (both_parts _ _ added.1).1 in
    subst (SitesGrow w.sites) (sym added.2) (put_site w.sites added.0 (record { core = fresh_core added.0; journal = [] }) (λ s has. absurd (never s (sym none ∙ has))))
sites_grow w left o (inr (inl stepped)) =
    let made = answered w stepped.0 stepped.1 stepped.2 stepped.3 in
    subst (SitesGrow w.sites) (sym (stepped.4 ∙ ap (λ x. x.1.sites) made.4))
    (put_site w.sites stepped.0 (recorded made.0 stepped.1 made.1) (λ s has. subst (λ (x : Site). GrowsAll x.core.store made.1.1.store) (some_is made.0 s (sym made.2 ∙ has)) (step_grows made.0.core stepped.1 made.1 made.3)))
sites_grow w left o (inr (inr same)) = subst (SitesGrow w.sites) (sym same.0) (λ r s has. (s, has, grows_itself s.core.store))

-- of every replica and type the count is within its range
abbrev pub AllWithin : FinMap nat_cmp Site → Type 0
AllWithin sites = (r : ℕ) (s : Site) (t : TypeName) → finmap.get sites r ≡ Some s → (at s.core.store t).changes ≤ max_counter

within_put : (sites : FinMap nat_cmp Site) (q : ℕ) (site : Site) → ((t : TypeName) → (at site.core.store t).changes ≤ max_counter) → AllWithin sites → AllWithin (finmap.insert sites q site)
within_put sites q site here all r s t has =
    elim (get-inserted nat_cmp_total nat_cmp-IsAntisymmetric sites q site r) [
      | inl same ↦ subst (λ (x : Site). (at {X = Holdings} x.core.store t).changes ≤ max_counter) (some_is site s (sym same.1 ∙ has)) (here t)
      | inr other ↦ all r s t (sym other.1 ∙ has)
    ]

pub within_come : (w left : World) (o : Option (ℕ × Event)) → SitesCome w left o → AllWithin w.sites → AllWithin left.sites
within_come w left o (inl added) all =
    subst AllWithin (sym added.2)
    (within_put w.sites added.0 (record { core = fresh_core added.0; journal = [] }) (λ t. subst (λ (h : Holdings). h.changes ≤ max_counter) (sym (at-each nothing_held t)) (omega arith)) all)
within_come w left o (inr (inl stepped)) all =
    let made = answered w stepped.0 stepped.1 stepped.2 stepped.3 in
    subst AllWithin (sym (stepped.4 ∙ ap (λ x. x.1.sites) made.4))
    (within_put w.sites stepped.0 (recorded made.0 stepped.1 made.1) (λ t. (step_grows made.0.core stepped.1 made.1 made.3 t).to (all stepped.0 made.0 t made.2)) all)
within_come w left o (inr (inr same)) all = subst AllWithin (sym same.0) all
