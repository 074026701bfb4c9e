-- Runs are one list of happenings, moment by moment.
use Rattle.std.proofs.Common.{◌≡◌, inl, inr, ℕ, zero, suc, List, [], ◌∷◌, ◌++◌, Bool, true, false, true≢false, not, ◌&&◌, ◌||◌, Option, Some, None, Result, Ok, Err, refl, sym, ap, subst, ◌∙◌, append-nil, append_assoc}
use Rattle.std.proofs.lemmas.Bool.{not-true, eq-eqb}
use Rattle.std.specs.Prelude.{◌==◌, if◌then◌else◌, is_none, option_map}
use Rattle.std.specs.Option.{option_and_then, option_map_or}
use Rattle.std.specs.Ordering.{nat_cmp}
use Rattle.std.specs.Cmp.{nat_cmp_total}
use Rattle.std.specs.FinMap as finmap
use Rattle.std.specs.FinMap.{nat_cmp-IsAntisymmetric}
use Rattle.xds_resource.specs.declared.refusal.Refusal.{Refusal}
use Rattle.xds_resource.specs.declared.refusal.Refusal.TheVariants.{NoStream}
use Rattle.xds_catalogue.proofs.Lookups.{get-inserted}
use Rattle.xds_core.specs.Stores.{Store, Batch, merging, all_entries, if_done}
use Rattle.xds_core.specs.Streams.{Stream}
use Rattle.xds_core.specs.Events as events
use Rattle.xds_core.specs.Events.{Event, Reply, Closed, Merged, Entries}
use Rattle.xds_core.specs.Steps.{Core, step, fresh as fresh_core}
use Rattle.xds_cache.specs.Clients.{unlinked}
use Rattle.xds_cache.specs.Faults.{Test}
use Rattle.xds_script.specs.Happenings.{Happening, AddReplica, Snapshot, Merge, Lose}
use Rattle.xds_world.specs.Worlds.{Site, Link, Peer, World, empty_world, recorded, answered_at, at_site, happened_at, placed, pooled, with_peer, is_free, happens, after, world}
use Rattle.xds_world.specs.Claims.{PutResources}
use Rattle.xds_world.proofs.Replicas.{never, some_is, mapped_some, bound_some, both_parts, if_some, on_link_some, none_there}
use Rattle.xds_world.proofs.Everyone.{stream_at}
use Rattle.xds_world.proofs.Sure.{sure}
use Rattle.xds_world.proofs.Plays.{after_both}
use Rattle.xds_runs.specs.Runs.{Moment, Begin, Occur, Keep, Miss, Runs, no_run, is_number, are_new, with_taken, arrivals, ground, begun, stored_by, missed_on, missed, brings_a_replica, in_run, occurs, runs_after, runs}
use Rattle.xds_runs.specs.Claims.{PutsAResourceThen, PutResourcesThen}
use Rattle.xds_runs.proofs.Within.{Sites, Pool, wide, is_among, Within, got, ended_within, keeper_within, added_within, more, placed_behind, none_at_zero}
use Rattle.xds_runs.proofs.Events.{on_link_is, HappensThere, happens_there}

-- ---- lists

pub put_both : (hs ks : List Happening) → PutResources hs → PutResources ks → PutResources (hs ++ ks)
put_both [] ks put puts = puts
put_both (h ∷ hs) ks put puts = (put.0, put_both hs ks put.1 puts)

pub unless_some : {X : Type 0} (b : Bool) (o : Option X) (y : X) → (if b then None else o) ≡ Some y → (b ≡ false) × (o ≡ Some y)
unless_some true o y is = absurd cc
unless_some false o y is = (refl, is)

-- one list of moments after another
pub runs_both : (test : Test) (ms more : List Moment) (s : Runs) → runs_after test s (ms ++ more) ≡ runs_after test (runs_after test s ms) more
runs_both test [] more s = refl
runs_both test (m ∷ ms) more s = runs_both test ms more (option_map_or (λ u. u) (occurs test s m) s)

-- ---- what follows in the one world

pub record Follows (test : Test) (store : ℕ) (taken : List ℕ) (stored : Store) (left whole : World) : Type 0 where
  pub happenings : List Happening
  pub resources : PutResources happenings
  pub sites : Sites
  pub pool : Pool
  pub made : after test whole happenings ≡ wide left sites pool
  pub inside : Within store taken stored left.sites left.pool sites pool

-- what is so of runs
abbrev pub FollowsAs : Test → Runs → World → Type 0
FollowsAs test s whole = Follows test s.store s.taken s.stored s.now whole

nothing_follows : (test : Test) (store : ℕ) (taken : List ℕ) (stored : Store) (w : World) (sites : Sites) (pool : Pool) → Within store taken stored w.sites w.pool sites pool → Follows test store taken stored w (wide w sites pool)
nothing_follows test store taken stored w sites pool x = record { happenings = []; resources = tt; sites = sites; pool = pool; made = refl; inside = x }

once : (test : Test) (store : ℕ) (taken : List ℕ) (stored : Store) (left whole : World) → HappensThere store taken stored test left whole → Follows test store taken stored left whole
once test store taken stored left whole x = record {
  happenings = x.one ∷ [];
  resources = (x.puts, tt);
  sites = x.after;
  pool = x.pool;
  made = ap (λ o. option_map_or (λ v. v) o whole) x.happened;
  inside = x.inside;
}

-- ---- replicas come

-- a number that isn't taken is no replica's
pub absent : (sites : Sites) (taken : List ℕ) (r : ℕ) (o : Option Site) → ((s : Site) → finmap.get sites r ≡ Some s → is_among r taken ≡ true) → is_among r taken ≡ false → finmap.get sites r ≡ o → o ≡ None
absent sites taken r None among new is = refl
absent sites taken r (Some s) among new is = absurd (true≢false (sym (among s is) ∙ new))

merged_or : (test : Test) (store : ℕ) (taken : List ℕ) (stored : Store) (w : World) (sites : Sites) (pool : Pool) (r : ℕ) (o : Option World) → happens test w (Merge r 1) ≡ o → Within store taken stored w.sites w.pool sites pool
    → Follows test store taken stored (option_map_or (λ v. v) o w) (wide w sites pool)
merged_or test store taken stored w sites pool r None is x = nothing_follows test store taken stored w sites pool x
merged_or test store taken stored w sites pool r (Some left) is x = once test store taken stored left (wide w sites pool) (happens_there store taken stored test w left sites pool (Merge r 1) refl tt is x)

arrive : (test : Test) (store : ℕ) (stored : Store) (rs taken : List ℕ) (w : World) (sites : Sites) (pool : Pool) → are_new taken rs ≡ true → Within store taken stored w.sites w.pool sites pool
    → Follows test store (with_taken taken rs) stored (after test w (arrivals rs)) (wide w sites pool)
arrive test store stored [] taken w sites pool new x = nothing_follows test store taken stored w sites pool x
arrive test store stored (r ∷ rs) taken w sites pool new x =
    let parts = both_parts (is_number r && not (is_among r taken)) (are_new (r ∷ taken) rs) new in
    let number = both_parts (is_number r) (not (is_among r taken)) parts.0 in
    let unknown : is_among r taken ≡ false = not-true (is_among r taken) number.1 in
    let site : Site = record { core = fresh_core r; journal = [] } in
    let come : World = record w { sites = finmap.insert w.sites r site } in
    let whole : World = wide w sites pool in
    let none : finmap.get sites r ≡ None = absent sites taken r (finmap.get sites r) (x.among r) unknown refl in
    let own : finmap.get w.sites r ≡ None = absent w.sites taken r (finmap.get w.sites r) (λ s is. x.among r s (x.here r s is)) unknown refl in
    let free : is_free w r ≡ true = λ i. number.0 i && is_none (own i) in
    let free_there : is_free whole r ≡ true = λ i. number.0 i && is_none (none i) in
    let comes : happens test w (AddReplica r) ≡ Some come = ap (λ b. if b then Some come else None) free in
    let comes_there : happens test whole (AddReplica r) ≡ Some (wide come (finmap.insert sites r site) pool) = ap (λ b. if b then Some (wide come (finmap.insert sites r site) pool) else None) free_there in
    let merged : World = option_map_or (λ v. v) (happens test come (Merge r 1)) come in
    let y = merged_or test store (r ∷ taken) stored come (finmap.insert sites r site) pool r (happens test come (Merge r 1)) refl (added_within store taken stored w.sites sites w.pool pool r site unknown x) in
    let z = arrive test store stored rs (r ∷ taken) merged y.sites y.pool parts.1 y.inside in
    subst (λ o. Follows test store (with_taken (r ∷ taken) rs) stored (after test (option_map_or (λ v. v) (happens test (option_map_or (λ v. v) o w) (Merge r 1)) (option_map_or (λ v. v) o w)) (arrivals rs)) whole) (sym comes) (record {
      happenings = AddReplica r ∷ (y.happenings ++ z.happenings);
      resources = (tt, put_both y.happenings z.happenings y.resources z.resources);
      sites = z.sites;
      pool = z.pool;
      made = ap (λ o. after test (option_map_or (λ v. v) o whole) (y.happenings ++ z.happenings)) comes_there ∙ after_both test (wide come (finmap.insert sites r site) pool) y.happenings z.happenings
          ∙ ap (λ v. after test v z.happenings) y.made ∙ z.made;
      inside = z.inside;
    })

-- ---- a run begins

ground_within : (s : Runs) (sites : Sites) (pool : Pool) (site : Site) → site.core.store ≡ s.stored → Within s.store s.taken s.stored s.now.sites s.now.pool sites pool
    → Within s.store s.taken s.stored (ground s).sites (ground s).pool (finmap.insert sites s.store site) (pool ++ (s.store, all_entries s.stored) ∷ [])
ground_within s sites pool site holds x =
    let kept = keeper_within s.store s.taken s.stored s.stored s.now.sites sites s.now.pool pool site holds x in
    record {
      here = λ r y is. absurd (never y (sym (finmap.get-empty nat_cmp r) ∙ is));
      apart = finmap.get-empty nat_cmp s.store;
      among = kept.among;
      earlier = pool;
      later = refl;
      keeper = site;
      keeps = got sites s.store site;
      holds = holds;
    }

begins : (test : Test) (s : Runs) (rs : List ℕ) (sites : Sites) (pool : Pool) → are_new s.taken rs ≡ true → Within s.store s.taken s.stored s.now.sites s.now.pool sites pool → FollowsAs test (begun test s rs) (wide s.now sites pool)
begins test s rs sites pool new x =
    let whole : World = wide s.now sites pool in
    let q : Reply × Core = (Entries (all_entries x.keeper.core.store), x.keeper.core) in
    let site : Site = recorded x.keeper events.Snapshot q in
    let there : Sites = finmap.insert sites s.store site in
    let batches : Pool = pool ++ (s.store, all_entries s.stored) ∷ [] in
    let taken : happens test whole (Snapshot s.store) ≡ Some (wide (ground s) there batches) =
    ap (λ o. option_and_then (pooled s.store) (option_and_then (λ y. answered_at whole s.store y events.Snapshot (step y.core events.Snapshot)) o)) x.keeps
    ∙ ap (λ (held : Store). Some (wide (ground s) there (pool ++ (s.store, all_entries held) ∷ []))) x.holds in
    let y = arrive test s.store s.stored rs s.taken (ground s) there batches new (ground_within s sites pool site x.holds x) in
    record {
      happenings = Snapshot s.store ∷ y.happenings;
      resources = (tt, y.resources);
      sites = y.sites;
      pool = y.pool;
      made = ap (λ o. after test (option_map_or (λ v. v) o whole) y.happenings) taken ∙ y.made;
      inside = y.inside;
    }

-- ---- the store takes a batch

pub stored_is : (s left : Runs) (r : Result (ℕ × Store) Refusal) → stored_by s r ≡ Some left → (p : ℕ × Store) × (r ≡ Ok p) × (left ≡ record s { stored = p.1 })
stored_is s left (Ok p) is = (p, refl, sym (some_is (record s { stored = p.1 }) left is))
stored_is s left (Err refusal) is = absurd cc

keeps_there : (test : Test) (s left : Runs) (b : ℕ) (sites : Sites) (pool : Pool) → occurs test s (Keep b) ≡ Some left → Within s.store s.taken s.stored s.now.sites s.now.pool sites pool → FollowsAs test left (wide s.now sites pool)
keeps_there test s left zero sites pool is x =
    let place = bound_some (λ y. stored_by s (merging s.stored y.1)) (placed s.now.pool zero) left is in
    absurd (never place.0 (sym (none_at_zero s.now.pool) ∙ place.1))
keeps_there test s left (suc k) sites pool is x =
    let place = bound_some (λ y. stored_by s (merging s.stored y.1)) (placed s.now.pool (suc k)) left is in
    let batch : Batch = place.0.1 in
    let p = stored_is s left (merging s.stored batch) place.2 in
    let whole : World = wide s.now sites pool in
    let core : Core = x.keeper.core in
    let q : Reply × Core = (Merged p.0.0, record core { store = p.0.1 }) in
    let joins : step core (events.Merge batch) ≡ Ok q = ap (λ (held : Store). if_done (λ y. (Merged y.0, record core { store = y.1 })) (merging held batch)) x.holds ∙ ap (if_done (λ y. (Merged y.0, record core { store = y.1 }))) p.1 in
    let site : Site = recorded x.keeper (events.Merge batch) q in
    let happened : happens test whole (Merge s.store (suc (more x.earlier k))) ≡ Some (wide s.now (finmap.insert sites s.store site) pool) =
    ap (λ l. option_and_then (λ y. happened_at whole s.store (events.Merge y.1)) (placed l (suc (more x.earlier k)))) x.later
    ∙ ap (option_and_then (λ y. happened_at whole s.store (events.Merge y.1))) (placed_behind x.earlier s.now.pool k ∙ place.1)
    ∙ ap (λ o. option_map (λ a. a.1) (option_and_then (λ y. answered_at whole s.store y (events.Merge batch) (step y.core (events.Merge batch))) o)) x.keeps
    ∙ ap (λ a. option_map (λ u. u.1) (answered_at whole s.store x.keeper (events.Merge batch) a)) joins in
    subst (λ u. FollowsAs test u whole) (sym p.2) (record {
      happenings = Merge s.store (suc (more x.earlier k)) ∷ [];
      resources = (tt, tt);
      sites = finmap.insert sites s.store site;
      pool = pool;
      made = ap (λ o. option_map_or (λ v. v) o whole) happened;
      inside = keeper_within s.store s.taken s.stored p.0.1 s.now.sites sites s.now.pool pool site refl x;
    })

-- ---- until now

-- runs are one list of happenings until now
pub record One (test : Test) (s : Runs) : Type 0 where
  pub happenings : List Happening
  pub resources : PutResources happenings
  pub sites : Sites
  pub pool : Pool
  pub made : world test happenings ≡ wide s.now sites pool
  pub inside : Within s.store s.taken s.stored s.now.sites s.now.pool sites pool

pub one_start : (test : Test) (store : ℕ) → is_number store ≡ true → One test (no_run store)
one_start test store number =
    let site : Site = record { core = fresh_core store; journal = [] } in
    let sites : Sites = finmap.insert finmap.empty store site in
    let free : is_free empty_world store ≡ true = λ i. number i && is_none (finmap.get-empty {X = Site} nat_cmp store i) in
    record {
      happenings = AddReplica store ∷ [];
      resources = (tt, tt);
      sites = sites;
      pool = [];
      made = ap (λ b. option_map_or (λ v. v) (if b then Some (wide empty_world sites []) else None) empty_world) free;
      inside = record {
        here = λ r y is. absurd (never y (sym (finmap.get-empty nat_cmp r) ∙ is));
        apart = finmap.get-empty nat_cmp store;
        among = λ r y is.
            elim (get-inserted nat_cmp_total nat_cmp-IsAntisymmetric finmap.empty store site r) [
              | inl same ↦ ap (λ n. (store == n) || false) (sym same.0) ∙ ap (λ b. b || false) (eq-eqb store store refl)
              | inr other ↦ absurd (never y (sym (other.1 ∙ finmap.get-empty nat_cmp r) ∙ is))
            ];
        earlier = [];
        later = refl;
        keeper = site;
        keeps = got finmap.empty store site;
        holds = refl;
      };
    }

one_more : (test : Test) (s left : Runs) (x : One test s) → FollowsAs test left (wide s.now x.sites x.pool) → One test left
one_more test s left x y = record {
  happenings = x.happenings ++ y.happenings;
  resources = put_both x.happenings y.happenings x.resources y.resources;
  sites = y.sites;
  pool = y.pool;
  made = after_both test empty_world x.happenings y.happenings ∙ ap (λ v. after test v y.happenings) x.made ∙ y.made;
  inside = y.inside;
}

-- ---- a client finds that its replica is gone

missed_there : (test : Test) (s : Runs) (left : World) (c : ℕ) (x : One test s) → missed s.now c ≡ Some left → FollowsAs test (in_run s left) (wide s.now x.sites x.pool)
missed_there test s left c x is =
    let at_link = on_link_some s.now c (missed_on s.now c) left is in
    let p : Peer = at_link.0 in
    let l : Link = at_link.1 in
    let alone : Peer = record p { client = unlinked p.client; link = None } in
    let gone = if_some (is_none (finmap.get s.now.sites l.replica)) (with_peer s.now c alone) left at_link.2 in
    let whole : World = wide s.now x.sites x.pool in
    let up = (sure test x.happenings x.resources).fine.ups c p l (ap (λ v. finmap.get v.peers c) x.made ∙ at_link.3) at_link.4 in
    let there = bound_some (λ (y : Site). finmap.get y.core.streams l.stream) (finmap.get x.sites l.replica) up.0 (ap (λ v. stream_at v l.replica l.stream) (sym x.made) ∙ up.1) in
    let site : Site = there.0 in
    let core : Core = record site.core { streams = finmap.remove site.core.streams l.stream } in
    let closed : Site = recorded site (events.Close l.stream) (Closed, core) in
    let closes : step site.core (events.Close l.stream) ≡ Ok (Closed, core) = ap (λ o. option_map_or (λ (y : Stream). Ok (Closed, core)) o (Err NoStream)) there.2 in
    let happened : happens test whole (Lose c) ≡ Some (wide (with_peer s.now c alone) (finmap.insert x.sites l.replica closed) x.pool) =
    on_link_is whole c (λ q k. option_map (λ y. with_peer y.1 c (record q { client = unlinked q.client; link = None })) (at_site whole k.replica (events.Close k.stream))) p l at_link.3 at_link.4
    ∙ ap (λ o. option_map (λ y. with_peer y.1 c alone) (option_and_then (λ y. answered_at whole l.replica y (events.Close l.stream) (step y.core (events.Close l.stream))) o)) there.1
    ∙ ap (λ a. option_map (λ y. with_peer y.1 c alone) (answered_at whole l.replica site (events.Close l.stream) a)) closes in
    subst (λ v. FollowsAs test (in_run s v) whole) (sym gone.1) (record {
      happenings = Lose c ∷ [];
      resources = (tt, tt);
      sites = finmap.insert x.sites l.replica closed;
      pool = x.pool;
      made = ap (λ o. option_map_or (λ v. v) o whole) happened;
      inside = ended_within s.store s.taken s.stored s.now.sites x.sites s.now.pool x.pool l.replica site closed (none_there (finmap.get s.now.sites l.replica) gone.0) there.1 refl x.inside;
    })

-- ---- whatever moment

moment_there : (test : Test) (s left : Runs) (m : Moment) (x : One test s) → PutsAResourceThen m → occurs test s m ≡ Some left → FollowsAs test left (wide s.now x.sites x.pool)
moment_there test s left (Begin rs) x puts is =
    let made = if_some (are_new s.taken rs) (begun test s rs) left is in
    subst (λ u. FollowsAs test u (wide s.now x.sites x.pool)) (sym made.1) (begins test s rs x.sites x.pool made.0 x.inside)
moment_there test s left (Occur h) x puts is =
    let goes = unless_some (brings_a_replica h) (option_map (in_run s) (happens test s.now h)) left is in
    let made = mapped_some (in_run s) (happens test s.now h) left goes.1 in
    subst (λ u. FollowsAs test u (wide s.now x.sites x.pool)) (sym made.2)
    (once test s.store s.taken s.stored made.0 (wide s.now x.sites x.pool) (happens_there s.store s.taken s.stored test s.now made.0 x.sites x.pool h goes.0 puts made.1 x.inside))
moment_there test s left (Keep b) x puts is = keeps_there test s left b x.sites x.pool is x.inside
moment_there test s left (Miss c) x puts is =
    let made = mapped_some (in_run s) (missed s.now c) left is in
    subst (λ u. FollowsAs test u (wide s.now x.sites x.pool)) (sym made.2) (missed_there test s made.0 c x made.1)

-- and whatever moments: the list goes on
pub record Grown (test : Test) (s : Runs) (before : List Happening) : Type 0 where
  pub more_happenings : List Happening
  pub whole : One test s
  pub is : whole.happenings ≡ before ++ more_happenings

grown_or : (test : Test) (s : Runs) (m : Moment) (ms : List Moment) (x : One test s) (o : Option Runs) → PutsAResourceThen m → occurs test s m ≡ o → ((u : Runs) (y : One test u) → Grown test (runs_after test u ms) y.happenings)
    → Grown test (runs_after test (option_map_or (λ u. u) o s) ms) x.happenings
unfolding one_more
grown_or test s m ms x None puts is later = later s x
grown_or test s m ms x (Some left) puts is later =
    let y = moment_there test s left m x puts is in
    let z = later left (one_more test s left x y) in
    record { more_happenings = y.happenings ++ z.more_happenings; whole = z.whole; is = z.is ∙ append_assoc x.happenings y.happenings z.more_happenings }

pub grown : (test : Test) (ms : List Moment) (s : Runs) (x : One test s) → PutResourcesThen ms → Grown test (runs_after test s ms) x.happenings
grown test [] s x put = record { more_happenings = []; whole = x; is = sym (append-nil x.happenings) }
grown test (m ∷ ms) s x put = grown_or test s m ms x (occurs test s m) put.0 refl (λ u y. grown test ms u y put.1)

pub one_of : (test : Test) (store : ℕ) (ms : List Moment) → is_number store ≡ true → PutResourcesThen ms → One test (runs test store ms)
one_of test store ms number put = (grown test ms (no_run store) (one_start test store number) put).whole
