-- A replica of a run holds what was stored where the run began, or greater writes, until the run ends.
use Rattle.std.proofs.Common.{◌≡◌, ◌≢◌, ◌⊎◌, inl, inr, ℕ, List, [], ◌∷◌, ◌++◌, true, false, Option, Some, None, Ok, refl, sym, ap, subst, ◌∙◌}
use Rattle.std.proofs.lemmas.Bool.{or_parts}
use Rattle.std.specs.Prelude.{if◌then◌else◌, is_none, nat_lt, not, ◌&&◌, option_map}
use Rattle.std.specs.Option.{option_map_or}
use Rattle.std.specs.List.{list_any}
use Rattle.std.specs.Ordering.{nat_cmp}
use Rattle.std.specs.Cmp.{nat_cmp_total}
use Rattle.std.specs.FinMap as finmap
use Rattle.std.specs.FinMap.{FinMap, nat_cmp-IsAntisymmetric}
use Rattle.xds_resource.specs.declared.types.TypeName.{TypeName}
use Rattle.xds_resource.specs.declared.refusal.Refusal.TheVariants.{CounterSpent}
use Rattle.xds_resource.specs.Types.{is_same_type}
use Rattle.xds_resource.specs.PerType.{at, with_at}
use Rattle.xds_resource.specs.Resources.{written, deleted}
use Rattle.xds_resource.specs.Stamps.{max_writer}
use Rattle.xds_resource.specs.Writes.{StampedWrite}
use Rattle.xds_resource.proofs.TypesApart.{same_type, at-with_at, at-with_at_other, at-per_type}
use Rattle.xds_resource.proofs.Refusing.{unless_once}
use Rattle.xds_catalogue.specs.Holdings.{Holdings, IsCatalogue}
use Rattle.xds_catalogue.specs.Joins.{IsAbove, joined}
use Rattle.xds_catalogue.specs.Local.{next_counter}
use Rattle.xds_catalogue.proofs.Catalogues.{catalogue_of-IsCatalogue}
use Rattle.xds_catalogue.proofs.Lookups.{get-inserted}
use Rattle.xds_core.specs.Stores.{Store, merging, merged, is_spent, grown, putting_at, deleting_at}
use Rattle.xds_core.specs.Events.{Event, Open, Request, Poll, Owes, Close, Put, Delete, Merge, Snapshot, Rest, Since, Reply, Written, Merged}
use Rattle.xds_core.specs.Steps.{Core, step, fresh as fresh_core}
use Rattle.xds_core.specs.Laws.{is_write}
use Rattle.xds_core.proofs.StepLaws.{done_with, put_is, delete_is}
use Rattle.xds_cache.specs.Faults.{Test}
use Rattle.xds_world.specs.Worlds.{Site, World, recorded, happens, placed}
use Rattle.xds_world.specs.Journal.{event_at}
use Rattle.xds_world.proofs.Replicas.{never, some_is, both_parts, none_there, answered, unwritten, mapped_some, bound_some, if_some, on_link_some}
use Rattle.xds_world.proofs.Origins.{SitesCome, sites_come}
use Rattle.xds_runs.specs.Runs.{Moment, Begin, Occur, Keep, Miss, Runs, no_run, is_number, begun, stored_by, missed_on, missed, brings_a_replica, in_run, occurs, runs_after, runs}
use Rattle.xds_runs.specs.Claims.{PutResourcesThen, is_beginning, KeepsWhatWasStored}
use Rattle.xds_runs.proofs.Moments.{unless_some, stored_is, runs_both}
use Rattle.xds_runs.proofs.Counted.{nothing_roomy, roomy_after}
use Rattle.xds_runs.proofs.Stays.{Adds, adds_none, adds_both, adds_above}
use Rattle.xds_runs.proofs.Stored.{begins_with_what_is_stored}

-- ---- one catalogue

abbrev Gains : Holdings → Holdings → Type 0
Gains a b = IsCatalogue b.entries × Adds a.entries b.entries

gains_same : (h : Holdings) → IsCatalogue h.entries → Gains h h
gains_same h named = (named, adds_none h named)

gains_joined : (h : Holdings) (ws : List StampedWrite) → Gains h (joined h ws)
gains_joined h ws = (catalogue_of-IsCatalogue (finmap.values h.entries ++ ws), (ws, refl))

-- ---- all types

abbrev AllNamed : Store → Type 0
AllNamed s = (t : TypeName) → IsCatalogue (at s t).entries

abbrev GainsAll : Store → Store → Type 0
GainsAll a b = (t : TypeName) → Gains (at a t) (at b t)

gains_itself : (s : Store) → AllNamed s → GainsAll s s
gains_itself s named t = gains_same (at s t) (named t)

gains_both : (a b c : Store) → GainsAll a b → GainsAll b c → GainsAll a c
gains_both a b c x y t = ((y t).0, adds_both (at a t).entries (at b t).entries (at c t).entries (x t).1 (y t).1)

gains_at : (s : Store) (t : TypeName) (h : Holdings) → AllNamed s → Gains (at s t) h → GainsAll s (with_at s t h)
gains_at s t h named here u = by_type (same_type t u)
  where
    by_type : ((t ≡ u) × (is_same_type t u ≡ true)) ⊎ ((t ≢ u) × (is_same_type t u ≡ false)) → Gains (at s u) (at (with_at s t h) u)
    by_type (inl same) = subst (λ v. Gains (at s v) (at (with_at s t h) v)) same.0 (subst (Gains (at s t)) (sym (at-with_at s t h)) here)
    by_type (inr other) = subst (Gains (at s u)) (sym (at-with_at_other s t h u (λ e. other.0 (sym e)))) (gains_same (at s u) (named u))

-- ---- whatever happens at a replica

quiet_gains : (c : Core) (e : Event) (q : Reply × Core) → is_write e ≡ false → step c e ≡ Ok q → AllNamed c.store → GainsAll c.store q.1.store
quiet_gains c e q quiet is named = subst (GainsAll c.store) (sym (unwritten c e q quiet is)) (gains_itself c.store named)

step_gains : (c : Core) (e : Event) (q : Reply × Core) → step c e ≡ Ok q → AllNamed c.store → GainsAll c.store q.1.store
step_gains c (Put t body groups) q is named =
    let done = done_with (λ x. (Written x.0 c.replica, record c { store = x.1 })) (putting_at c.store t body groups c.replica) q is in
    let which = put_is c.store t body groups c.replica done.0 done.1 in
    let w : StampedWrite = written (next_counter (at c.store t)) c.replica body groups in
    subst (GainsAll c.store) (sym (ap (λ y. y.1.store) done.2 ∙ which.1)) (gains_at c.store t (joined (at c.store t) (w ∷ [])) named (gains_joined (at c.store t) (w ∷ [])))
step_gains c (Delete t name) q is named =
    let done = done_with (λ x. (Written x.0 c.replica, record c { store = x.1 })) (deleting_at c.store t name c.replica) q is in
    let which = delete_is c.store t name c.replica done.0 done.1 in
    let w : StampedWrite = deleted (next_counter (at c.store t)) c.replica name in
    subst (GainsAll c.store) (sym (ap (λ y. y.1.store) done.2 ∙ which.1)) (gains_at c.store t (joined (at c.store t) (w ∷ [])) named (gains_joined (at c.store t) (w ∷ [])))
step_gains c (Merge b) q is named =
    let done = done_with (λ y. (Merged y.0, record c { store = y.1 })) (merging c.store b) q is in
    let joined_is = unless_once (is_spent c.store b) CounterSpent (grown c.store b, merged c.store b) done.0 done.1 in
    subst (GainsAll c.store) (sym (ap (λ y. y.1.store) done.2 ∙ ap (λ y. y.1) joined_is))
    (λ t. subst (Gains (at c.store t)) (sym (at-per_type (λ u. joined (at c.store u) (at b u)) t)) (gains_joined (at c.store t) (at b t)))
step_gains c Open q is named = quiet_gains c Open q refl is named
step_gains c (Request n m) q is named = quiet_gains c (Request n m) q refl is named
step_gains c (Poll n which) q is named = quiet_gains c (Poll n which) q refl is named
step_gains c (Owes n which) q is named = quiet_gains c (Owes n which) q refl is named
step_gains c (Close n) q is named = quiet_gains c (Close n) q refl is named
step_gains c Snapshot q is named = quiet_gains c Snapshot q refl is named
step_gains c (Rest t names version cluster) q is named = quiet_gains c (Rest t names version cluster) q refl is named
step_gains c (Since marks) q is named = quiet_gains c (Since marks) q refl is named

-- ---- a replica of a world

-- a replica of this number is there, which holds all that is held here, or greater writes
abbrev There : FinMap nat_cmp Site → ℕ → Store → Type 0
There sites r s = (g : Site) × (finmap.get sites r ≡ Some g) × GainsAll s g.core.store

put_there : (sites : FinMap nat_cmp Site) (q : ℕ) (site : Site) (r : ℕ) (s : Site) → finmap.get sites r ≡ Some s → AllNamed s.core.store → (q ≡ r → GainsAll s.core.store site.core.store) → There (finmap.insert sites q site) r s.core.store
put_there sites q site r s has named here =
    elim (get-inserted nat_cmp_total nat_cmp-IsAntisymmetric sites q site r) [
      | inl same ↦ (site, same.1, here same.0)
      | inr other ↦ (s, other.1 ∙ has, gains_itself s.core.store named)
    ]

come_there : (w left : World) (o : Option (ℕ × Event)) (r : ℕ) (s : Site) → SitesCome w left o → finmap.get w.sites r ≡ Some s → AllNamed s.core.store → There left.sites r s.core.store
come_there w left o r s (inl added) has named =
    let none = none_there (finmap.get w.sites added.0) (both_parts (nat_lt 0 added.0 && not (nat_lt max_writer added.0)) (is_none (finmap.get w.sites added.0)) added.1).1 in
    subst (λ m. There m r s.core.store) (sym added.2)
    (put_there w.sites added.0 (record { core = fresh_core added.0; journal = [] }) r s has named (λ same. absurd (never s (sym none ∙ ap (finmap.get w.sites) same ∙ has))))
come_there w left o r s (inr (inl stepped)) has named =
    let made = answered w stepped.0 stepped.1 stepped.2 stepped.3 in
    subst (λ m. There m r s.core.store) (sym (stepped.4 ∙ ap (λ x. x.1.sites) made.4)) (put_there w.sites stepped.0 (recorded made.0 stepped.1 made.1) r s has named (λ same.
    let is : s ≡ made.0 = some_is s made.0 (sym has ∙ ap (finmap.get w.sites) (sym same) ∙ made.2) in
    subst (λ (x : Site). GainsAll x.core.store made.1.1.store) (sym is) (step_gains made.0.core stepped.1 made.1 made.3 (subst (λ (x : Site). AllNamed x.core.store) is named))))
come_there w left o r s (inr (inr same)) has named = subst (λ m. There m r s.core.store) (sym same.0) (s, has, gains_itself s.core.store named)

-- ---- moments of a run

moment_keeps : (test : Test) (s left : Runs) (m : Moment) (r : ℕ) (site : Site) → is_beginning m ≡ false → occurs test s m ≡ Some left → finmap.get s.now.sites r ≡ Some site → AllNamed site.core.store → There left.now.sites r site.core.store
moment_keeps test s left (Begin rs) r site within is has named = absurd cc
moment_keeps test s left (Occur h) r site within is has named =
    let goes = unless_some (brings_a_replica h) (option_map (in_run s) (happens test s.now h)) left is in
    let made = mapped_some (in_run s) (happens test s.now h) left goes.1 in
    subst (λ (u : Runs). There u.now.sites r site.core.store) (sym made.2) (come_there s.now made.0 (event_at s.now h) r site (sites_come test s.now made.0 h made.1) has named)
moment_keeps test s left (Keep b) r site within is has named =
    let place = bound_some (λ y. stored_by s (merging s.stored y.1)) (placed s.now.pool b) left is in
    let p = stored_is s left (merging s.stored place.0.1) place.2 in
    subst (λ (u : Runs). There u.now.sites r site.core.store) (sym p.2) (site, has, gains_itself site.core.store named)
moment_keeps test s left (Miss c) r site within is has named =
    let made = mapped_some (in_run s) (missed s.now c) left is in
    let at_link = on_link_some s.now c (missed_on s.now c) made.0 made.1 in
    let gone = if_some (is_none (finmap.get s.now.sites at_link.1.replica)) _ made.0 at_link.2 in
    subst (λ (u : Runs). There u.now.sites r site.core.store) (sym made.2) (subst (λ (v : World). There v.sites r site.core.store) (sym gone.1) (site, has, gains_itself site.core.store named))

keeps_or : (test : Test) (s : Runs) (m : Moment) (ms : List Moment) (r : ℕ) (site : Site) (o : Option Runs) → occurs test s m ≡ o → is_beginning m ≡ false → finmap.get s.now.sites r ≡ Some site → AllNamed site.core.store
    → ((u : Runs) (y : Site) → finmap.get u.now.sites r ≡ Some y → AllNamed y.core.store → There (runs_after test u ms).now.sites r y.core.store) → There (runs_after test (option_map_or (λ u. u) o s) ms).now.sites r site.core.store
keeps_or test s m ms r site None is within has named later = later s site has named
keeps_or test s m ms r site (Some left) is within has named later =
    let x = moment_keeps test s left m r site within is has named in
    let y = later left x.0 x.1 (λ t. (x.2 t).0) in
    (y.0, y.1, gains_both site.core.store x.0.core.store y.0.core.store x.2 y.2)

keeps_after : (test : Test) (ms : List Moment) (s : Runs) (r : ℕ) (site : Site) → list_any is_beginning ms ≡ false → finmap.get s.now.sites r ≡ Some site → AllNamed site.core.store → There (runs_after test s ms).now.sites r site.core.store
keeps_after test [] s r site within has named = (site, has, gains_itself site.core.store named)
keeps_after test (m ∷ ms) s r site within has named =
    let parts = or_parts (is_beginning m) (list_any is_beginning ms) within in
    keeps_or test s m ms r site (occurs test s m) refl parts.0 has named (λ u y. keeps_after test ms u r y parts.1)

-- rule: greatest-write
pub keeps_what_was_stored : (test : Test) (store : ℕ) (ms : List Moment) → is_number store ≡ true → PutResourcesThen ms → KeepsWhatWasStored test store ms
keeps_what_was_stored test store ms number put rs r more new listed within =
    let s : Runs = runs test store ms in
    let y = begins_with_what_is_stored test store ms number put rs r new listed in
    let roomy = roomy_after test ms (no_run store) nothing_roomy in
    let named : AllNamed y.site.core.store = λ t. subst IsCatalogue (sym (y.holds t)) (roomy t).0 in
    let g = keeps_after test more (begun test s rs) r y.site within y.there named in
    let whole : runs test store (ms ++ Begin rs ∷ more) ≡ runs_after test (begun test s rs) more =
    runs_both test ms (Begin rs ∷ more) (no_run store) ∙ ap (λ b. runs_after test (option_map_or (λ u. u) (if b then Some (begun test s rs) else None) s) more) new in
    record {
      site = g.0;
      there = ap (λ (u : Runs). finmap.get u.now.sites r) whole ∙ g.1;
      holds = λ t. subst (IsAbove (at {X = Holdings} g.0.core.store t).entries) (y.holds t) (adds_above (at y.site.core.store t).entries (at g.0.core.store t).entries (named t) (g.2 t).1);
    }
