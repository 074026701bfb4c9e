-- A replica holds what is stored where its run begins.
use Rattle.std.proofs.Common.{◌≡◌, ◌≢◌, inl, inr, ℕ, ◌≤◌, List, [], ◌∷◌, Bool, true, false, true≢false, not, ◌&&◌, ◌||◌, Option, Some, None, Ok, refl, sym, ap, subst, ◌∙◌}
use Rattle.std.proofs.lemmas.Bool.{or_right, eq-eqb, not-true}
use Rattle.std.specs.Prelude.{◌==◌, if◌then◌else◌, is_none, option_map, Contains}
use Rattle.std.specs.Option.{option_and_then, option_map_or}
use Rattle.std.specs.Ordering.{nat_cmp}
use Rattle.std.specs.Cmp.{nat_cmp_total}
use Rattle.std.specs.FinMap as finmap
use Rattle.std.specs.FinMap.{nat_cmp-IsAntisymmetric}
use Rattle.xds_resource.specs.declared.types.TypeName.{TypeName}
use Rattle.xds_resource.specs.declared.refusal.Refusal.TheVariants.{CounterSpent}
use Rattle.xds_resource.specs.PerType.{at, each}
use Rattle.xds_resource.specs.Refusals.{unless_refused}
use Rattle.xds_resource.specs.Stamps.{max_counter}
use Rattle.xds_resource.specs.Writes.{StampedWrite}
use Rattle.xds_resource.proofs.BestWrites.{Contains-cons_cases}
use Rattle.xds_resource.proofs.TypesApart.{at-each, at-per_type}
use Rattle.xds_resource.proofs.BoolsAndLists.{none_in}
use Rattle.xds_catalogue.specs.Holdings.{Holdings, nothing_held, catalogue_of}
use Rattle.xds_catalogue.specs.Joins.{joined}
use Rattle.xds_catalogue.proofs.Lookups.{get-inserted}
use Rattle.xds_core.specs.Stores.{Store, Batch, merged, is_spent, grown, all_entries, if_done}
use Rattle.xds_core.specs.Events as events
use Rattle.xds_core.specs.Events.{Event, Reply, Merged}
use Rattle.xds_core.specs.Steps.{Core, step, fresh as fresh_core}
use Rattle.xds_cache.specs.Faults.{Test}
use Rattle.xds_script.specs.Happenings.{AddReplica, Merge}
use Rattle.xds_world.specs.Worlds.{Site, World, recorded, answered_at, at_site, happened_at, placed, is_free, happens, after}
use Rattle.xds_world.specs.Knows.{knows}
use Rattle.xds_world.specs.Claims.{writes_of}
use Rattle.xds_world.proofs.Replicas.{never, answered, mapped_some, bound_some, both_parts, joined_best}
use Rattle.xds_world.proofs.Sure.{sure}
use Rattle.xds_world.proofs.Headline.{headline}
use Rattle.xds_runs.specs.Runs.{Moment, Runs, is_number, are_new, arrivals, ground, runs}
use Rattle.xds_runs.specs.Claims.{PutResourcesThen, BeginsWithWhatIsStored}
use Rattle.xds_runs.proofs.Within.{is_among, got, passed}
use Rattle.xds_runs.proofs.Moments.{absent, One, one_of}
use Rattle.xds_runs.proofs.Counted.{stored_fits}

-- ---- what a replica's coming leaves

merge_keeps : (test : Test) (w : World) (q b r : ℕ) (o : Option World) → happens test w (Merge q b) ≡ o → q ≢ r → finmap.get (option_map_or (λ v. v) o w).sites r ≡ finmap.get w.sites r
merge_keeps test w q b r None is other = refl
merge_keeps test w q b r (Some left) is other =
    let place = bound_some (λ x. happened_at w q (events.Merge x.1)) (placed w.pool b) left is in
    let made = mapped_some (λ p. p.1) (at_site w q (events.Merge place.0.1)) left place.2 in
    let step_is = answered w q (events.Merge place.0.1) made.0 made.1 in
    ap (λ v. finmap.get v.sites r) made.2 ∙ ap (λ y. finmap.get y.1.sites r) step_is.4 ∙ passed w.sites q (recorded step_is.0 (events.Merge place.0.1) step_is.1) r other

come_keeps : (w : World) (q r : ℕ) (site : Site) (b : Bool) → q ≢ r → finmap.get (option_map_or (λ v. v) (if b then Some (record w { sites = finmap.insert w.sites q site }) else None) w).sites r ≡ finmap.get w.sites r
come_keeps w q r site true other = passed w.sites q site r other
come_keeps w q r site false other = refl

-- rule: loaded-first
arrivals_keep : (test : Test) (rs taken : List ℕ) (w : World) (r : ℕ) → are_new taken rs ≡ true → is_among r taken ≡ true → finmap.get (after test w (arrivals rs)).sites r ≡ finmap.get w.sites r
arrivals_keep test [] taken w r new among = refl
arrivals_keep test (q ∷ rs) taken w r new among =
    let parts = both_parts (is_number q && not (is_among q taken)) (are_new (q ∷ taken) rs) new in
    let unknown : is_among q taken ≡ false = not-true (is_among q taken) (both_parts (is_number q) (not (is_among q taken)) parts.0).1 in
    let other : q ≢ r = λ e. true≢false (sym among ∙ ap (λ n. is_among n taken) (sym e) ∙ unknown) in
    let come : World = option_map_or (λ v. v) (happens test w (AddReplica q)) w in
    let now : World = option_map_or (λ v. v) (happens test come (Merge q 1)) come in
    arrivals_keep test rs (q ∷ taken) now r parts.1 (or_right (q == r) (is_among r taken) among) ∙ merge_keeps test come q 1 r (happens test come (Merge q 1)) refl other
    ∙ come_keeps w q r (record { core = fresh_core q; journal = [] }) (is_free w q) other

-- ---- what it is that comes

-- a replica of this number, which holds this
abbrev Holding : World → ℕ → Store → Type 0
Holding w r held = (site : Site) × (finmap.get w.sites r ≡ Some site) × (site.core.store ≡ held)

-- a replica that came and merged the one batch
module _ (test : Test) (w : World) (q n : ℕ) (batch : Batch) (site_free : is_free w q ≡ true) (pool_is : w.pool ≡ (n, batch) ∷ []) (unspent : is_spent (each nothing_held) batch ≡ false) where
  abbrev first : Site
  first = record { core = fresh_core q; journal = [] }

  abbrev coming : World
  coming = record w { sites = finmap.insert w.sites q first }

  abbrev replied : Reply × Core
  replied = (Merged (grown (each nothing_held) batch), record (fresh_core q) { store = merged (each nothing_held) batch })

  abbrev full : Site
  full = recorded first (events.Merge batch) replied

  abbrev came : World
  came = record coming { sites = finmap.insert coming.sites q full }

  comes_first : (rs : List ℕ) → after test w (arrivals (q ∷ rs)) ≡ after test came (arrivals rs)
  comes_first rs =
      let steps : step (fresh_core q) (events.Merge batch) ≡ Ok replied =
      ap (λ b. if_done (λ (p : ℕ × Store). (Merged p.0, record (fresh_core q) { store = p.1 })) (unless_refused ((b, CounterSpent) ∷ []) (grown (each nothing_held) batch, merged (each nothing_held) batch))) unspent in
      let comes : happens test w (AddReplica q) ≡ Some coming = ap (λ b. if b then Some coming else None) site_free in
      let merges : happens test coming (Merge q 1) ≡ Some came =
      ap (λ l. option_and_then (λ x. happened_at coming q (events.Merge x.1)) (placed l 1)) pool_is
      ∙ ap (λ o. option_map (λ p. p.1) (option_and_then (λ y. answered_at coming q y (events.Merge batch) (step y.core (events.Merge batch))) o)) (got w.sites q first)
      ∙ ap (λ z. option_map (λ p. p.1) (answered_at coming q first (events.Merge batch) z)) steps in
      ap (λ o. after test (option_map_or (λ v. v) (happens test (option_map_or (λ v. v) o w) (Merge q 1)) (option_map_or (λ v. v) o w)) (arrivals rs)) comes ∙ ap (λ o. after test (option_map_or (λ v. v) o coming) (arrivals rs)) merges

  came_among : (taken : List ℕ) → ((r : ℕ) (s : Site) → finmap.get w.sites r ≡ Some s → is_among r taken ≡ true) → (r : ℕ) (s : Site) → finmap.get came.sites r ≡ Some s → is_among r (q ∷ taken) ≡ true
  came_among taken among r s has =
      elim (get-inserted nat_cmp_total nat_cmp-IsAntisymmetric coming.sites q full r) [
        | inl same ↦ ap (λ k. (q == k) || is_among k taken) (sym same.0) ∙ ap (λ b. b || is_among q taken) (eq-eqb q q refl)
        | inr other ↦ or_right (q == r) (is_among r taken) (among r s (sym (other.1 ∙ passed w.sites q first r other.0) ∙ has))
      ]

begins_holding : (test : Test) (rs taken : List ℕ) (w : World) (n : ℕ) (batch : Batch) (r : ℕ) → are_new taken rs ≡ true → Contains rs r → w.pool ≡ (n, batch) ∷ [] → ((q : ℕ) (s : Site) → finmap.get w.sites q ≡ Some s → is_among q taken ≡ true)
    → is_spent (each nothing_held) batch ≡ false → Holding (after test w (arrivals rs)) r (merged (each nothing_held) batch)
begins_holding test [] taken w n batch r new listed pool_is among unspent = absurd (none_in r listed)
begins_holding test (q ∷ rs) taken w n batch r new listed pool_is among unspent =
    let parts = both_parts (is_number q && not (is_among q taken)) (are_new (q ∷ taken) rs) new in
    let number = both_parts (is_number q) (not (is_among q taken)) parts.0 in
    let unknown : is_among q taken ≡ false = not-true (is_among q taken) number.1 in
    let none : finmap.get w.sites q ≡ None = absent w.sites taken q (finmap.get w.sites q) (among q) unknown refl in
    let free : is_free w q ≡ true = λ i. number.0 i && is_none (none i) in
    let left : World = came test w q n batch free pool_is unspent in
    subst (λ v. Holding v r (merged (each nothing_held) batch)) (sym (comes_first test w q n batch free pool_is unspent rs)) (elim (Contains-cons_cases q r rs listed) [
      | inl same ↦ (
        full test w q n batch free pool_is unspent,
        arrivals_keep test rs (q ∷ taken) left r parts.1 (ap (λ k. (q == k) || is_among k taken) (sym same) ∙ ap (λ b. b || is_among q taken) (eq-eqb q q refl))
            ∙ ap (finmap.get left.sites) (sym same) ∙ got (finmap.insert w.sites q (record { core = fresh_core q; journal = [] })) q (full test w q n batch free pool_is unspent),
        refl,
      )
      | inr rest ↦ begins_holding test rs (q ∷ taken) left n batch r parts.1 rest pool_is (came_among test w q n batch free pool_is unspent taken among) unspent
    ])

-- ---- what is stored

-- what is stored, merged where nothing is held, is what is held then
stored_again : (test : Test) (s : Runs) (x : One test s) (t : TypeName) → (at (merged (each nothing_held) (all_entries s.stored)) t).entries ≡ (at s.stored t).entries
stored_again test s x t =
    let h = headline test x.happenings x.resources in
    let ws : List StampedWrite = writes_of t (knows test x.happenings s.store) in
    let is : (at s.stored t).entries ≡ catalogue_of ws = ap (λ (p : Store). (at {X = Holdings} p t).entries) (sym x.inside.holds) ∙ h.holds s.store x.inside.keeper t (ap (λ v. finmap.get v.sites s.store) x.made ∙ x.inside.keeps) in
    let nothing : (at (each nothing_held) t).entries ≡ catalogue_of [] = ap (λ (y : Holdings). y.entries) (at-each nothing_held t) in
    let batch : at (all_entries s.stored) t ≡ finmap.values (catalogue_of ws) = at-per_type (λ u. finmap.values (at s.stored u).entries) t ∙ ap finmap.values is in
    ap (λ (y : Holdings). y.entries) (at-per_type (λ u. joined (at (each nothing_held) u) (at (all_entries s.stored) u)) t) ∙ joined_best (at (each nothing_held) t) [] ws (at (all_entries s.stored) t) nothing batch ∙ sym is

-- rule: loaded-first
pub begins_with_what_is_stored : (test : Test) (store : ℕ) (ms : List Moment) → is_number store ≡ true → PutResourcesThen ms → BeginsWithWhatIsStored test store ms
begins_with_what_is_stored test store ms number put rs r new listed =
    let s : Runs = runs test store ms in
    let x = one_of test store ms number put in
    let counts = (sure test x.happenings x.resources).polls.within s.store x.inside.keeper in
    let unspent = stored_fits test store ms (λ t. subst (λ (p : Store). (at {X = Holdings} p t).changes ≤ max_counter) x.inside.holds (counts t (ap (λ v. finmap.get v.sites s.store) x.made ∙ x.inside.keeps))) in
    let y = begins_holding test rs s.taken (ground s) s.store (all_entries s.stored) r new listed refl (λ q z has. absurd (never z (sym (finmap.get-empty nat_cmp q) ∙ has))) unspent in
    record { site = y.0; there = y.1; holds = λ t. ap (λ (p : Store). (at {X = Holdings} p t).entries) y.2 ∙ stored_again test s x t }
