-- What is stored is never more than a replica can count: each entry was a change of its own, and changes are counted.
use Rattle.std.proofs.Common.{◌≡◌, ℕ, ◌+◌, ◌≤◌, List, [], ◌∷◌, ◌++◌, length, Bool, true, false, cond, ◌||◌, Option, Some, None, refl, sym, ap, subst, ◌∙◌, arith, append_assoc}
use Rattle.std.specs.Prelude.{if◌then◌else◌, option_map, nat_lt}
use Rattle.std.specs.Option.{option_map_or}
use Rattle.std.specs.Prelude.{IfSome}
use Rattle.std.specs.FinMap as finmap
use Rattle.std.proofs.lemmas.Bool.{le-ltb}
use Rattle.std.proofs.lemmas.Cmp.{nat_list_cmp_total}
use Rattle.std.proofs.lemmas.List.{length-map}
use Rattle.xds_resource.specs.declared.types.TypeName.{TypeName}
use Rattle.xds_resource.specs.declared.types.TypeName.TheVariants.{Cluster, Endpoint, Listener, Route, Secret}
use Rattle.xds_resource.specs.declared.refusal.Refusal.TheVariants.{CounterSpent}
use Rattle.xds_resource.specs.PerType.{at, each}
use Rattle.xds_resource.specs.Stamps.{max_counter}
use Rattle.xds_resource.specs.Writes.{StampedWrite, text_cmp}
use Rattle.xds_resource.proofs.TypesApart.{at-each, at-per_type}
use Rattle.xds_resource.proofs.Refusing.{unless_once}
use Rattle.xds_catalogue.specs.Holdings.{Entries, Holdings, nothing_held, IsCatalogue, catalogue_of}
use Rattle.xds_catalogue.specs.Changes.{surpasses, is_news, changes_after}
use Rattle.xds_catalogue.specs.Joins.{joined}
use Rattle.xds_catalogue.proofs.Catalogues.{best-entries_of, catalogue_of-IsCatalogue, catalogue_of-entries}
use Rattle.xds_catalogue.proofs.News.{changes_after-same, changes_after-le}
use Rattle.xds_catalogue.proofs.OneWrite.{changed, joined-news, joined-old, joined-none}
use Rattle.xds_core.specs.Stores.{Store, Batch, merging, merged, is_spent, grown, all_entries}
use Rattle.xds_cache.specs.Faults.{Test}
use Rattle.xds_world.specs.Worlds.{placed, happens}
use Rattle.xds_world.proofs.Replicas.{mapped_some, bound_some, if_some}
use Rattle.xds_runs.specs.Runs.{Moment, Begin, Occur, Keep, Miss, Runs, no_run, are_new, begun, stored_by, missed, brings_a_replica, in_run, occurs, runs_after, runs}
use Rattle.xds_runs.proofs.Moments.{unless_some, stored_is}

-- ---- one catalogue

-- a catalogue with no more entries than changes
abbrev pub IsRoomy : Holdings → Type 0
IsRoomy h = finmap.len h.entries ≤ h.changes

one_more : (n m : ℕ) (b : Bool) → n ≤ m → cond b n (n + 1) ≤ m + 1
one_more n m true within = omega (arith, within)
one_more n m false within = omega (arith, within)

roomy_one : (h : Holdings) (w : StampedWrite) (b : Bool) → surpasses w (finmap.get h.entries w.name) ≡ b → IsCatalogue h.entries → IsRoomy h → IsRoomy (joined h (w ∷ []))
roomy_one h w true above named roomy =
    let room : IsRoomy (changed h w) = subst (λ n. n ≤ h.changes + 1) (sym (finmap.len-insert nat_list_cmp_total h.entries w.name w)) (one_more (finmap.len h.entries) h.changes (finmap.contains_key h.entries w.name) roomy) in
    subst IsRoomy (sym (joined-news h w named above)) room
roomy_one h w false below named roomy = subst IsRoomy (sym (joined-old h w named below)) roomy

sums : (a n x y : ℕ) → x ≡ y → (a + (n + 0)) + x ≡ a + (n + y)
sums a n x y same = omega (arith, same)

roomy_joined : (ws : List StampedWrite) (h : Holdings) → IsCatalogue h.entries → IsRoomy h → IsRoomy (joined h ws)
roomy_joined [] h named roomy = subst IsRoomy (sym (joined-none h named)) roomy
roomy_joined (w ∷ ws) h named roomy =
    let vs : List StampedWrite = finmap.values h.entries ++ w ∷ [] in
    let g : Holdings = joined h (w ∷ []) in
    let rest : IsRoomy (joined g ws) = roomy_joined ws g (catalogue_of-IsCatalogue vs) (roomy_one h w (surpasses w (finmap.get h.entries w.name)) refl named roomy) in
    let entries : (joined g ws).entries ≡ (joined h (w ∷ ws)).entries = catalogue_of-entries vs ws ∙ ap catalogue_of (append_assoc (finmap.values h.entries) (w ∷ []) ws) in
    let changes : (joined g ws).changes ≡ (joined h (w ∷ ws)).changes =
    sums h.changes (if is_news (finmap.values h.entries) w then 1 else 0) (changes_after (finmap.values g.entries) ws) (changes_after vs ws) (changes_after-same (finmap.values g.entries) vs ws (best-entries_of vs)) in
    subst (λ (p : Entries × ℕ). finmap.len p.0 ≤ p.1) (λ i. (entries i, changes i)) rest

-- its writes, put where nothing is held, make no more changes than it has entries
fits : (m : Entries) → finmap.len m ≤ max_counter → nat_lt max_counter (joined nothing_held (finmap.values m)).changes ≡ false
fits m within =
    let made = changes_after-le (finmap.values nothing_held.entries) (finmap.values m) in
    let long : length (finmap.values m) ≡ finmap.len m = length-map (finmap.entries m) (λ e. e.1) ∙ sym (finmap.len-entries m) in
    le-ltb max_counter (joined nothing_held (finmap.values m)).changes (omega (arith, made, long, within))

-- ---- what is stored

abbrev pub AllRoomy : Store → Type 0
AllRoomy s = (t : TypeName) → IsCatalogue (at s t).entries × IsRoomy (at s t)

pub nothing_roomy : AllRoomy (each nothing_held)
nothing_roomy t =
    subst (λ (h : Holdings). IsCatalogue h.entries × IsRoomy h) (sym (at-each nothing_held t)) (
      λ q. subst (λ o. IfSome o (λ (w : StampedWrite). w.name ≡ q)) (sym (finmap.get-empty text_cmp q)) tt,
      subst (λ n. n ≤ 0) (sym (finmap.len-empty text_cmp StampedWrite)) (omega arith),
    )

merged_roomy : (s : Store) (b : Batch) → AllRoomy s → AllRoomy (merged s b)
merged_roomy s b roomy t =
    subst (λ (h : Holdings). IsCatalogue h.entries × IsRoomy h) (sym (at-per_type (λ u. joined (at s u) (at b u)) t))
    (catalogue_of-IsCatalogue (finmap.values (at {X = Holdings} s t).entries ++ at b t), roomy_joined (at b t) (at s t) (roomy t).0 (roomy t).1)

pub roomy_step : (test : Test) (s left : Runs) (m : Moment) → occurs test s m ≡ Some left → AllRoomy s.stored → AllRoomy left.stored
roomy_step test s left (Begin rs) is roomy = subst (λ (u : Runs). AllRoomy u.stored) (sym (if_some (are_new s.taken rs) (begun test s rs) left is).1) roomy
roomy_step test s left (Occur h) is roomy =
    let goes = unless_some (brings_a_replica h) (option_map (in_run s) (happens test s.now h)) left is in
    subst (λ (u : Runs). AllRoomy u.stored) (sym (mapped_some (in_run s) (happens test s.now h) left goes.1).2) roomy
roomy_step test s left (Keep b) is roomy =
    let place = bound_some (λ y. stored_by s (merging s.stored y.1)) (placed s.now.pool b) left is in
    let p = stored_is s left (merging s.stored place.0.1) place.2 in
    let now = unless_once (is_spent s.stored place.0.1) CounterSpent (grown s.stored place.0.1, merged s.stored place.0.1) p.0 p.1 in
    subst (λ (u : Runs). AllRoomy u.stored) (sym p.2) (subst (λ (y : ℕ × Store). AllRoomy y.1) (sym now) (merged_roomy s.stored place.0.1 roomy))
roomy_step test s left (Miss c) is roomy = subst (λ (u : Runs). AllRoomy u.stored) (sym (mapped_some (in_run s) (missed s.now c) left is).2) roomy

roomy_or : (test : Test) (s : Runs) (m : Moment) (ms : List Moment) (o : Option Runs) → occurs test s m ≡ o → ((u : Runs) → AllRoomy u.stored → AllRoomy (runs_after test u ms).stored) → AllRoomy s.stored → AllRoomy (runs_after test (option_map_or (λ u. u) o s) ms).stored
roomy_or test s m ms None is later roomy = later s roomy
roomy_or test s m ms (Some left) is later roomy = later left (roomy_step test s left m is roomy)

pub roomy_after : (test : Test) (ms : List Moment) (s : Runs) → AllRoomy s.stored → AllRoomy (runs_after test s ms).stored
roomy_after test [] s roomy = roomy
roomy_after test (m ∷ ms) s roomy = roomy_or test s m ms (occurs test s m) refl (roomy_after test ms) roomy

-- what is stored can be counted, where the store counted what came
pub stored_fits : (test : Test) (store : ℕ) (ms : List Moment) → ((t : TypeName) → (at (runs test store ms).stored t).changes ≤ max_counter) → is_spent (each nothing_held) (all_entries (runs test store ms).stored) ≡ false
stored_fits test store ms within =
    let s : Store = (runs test store ms).stored in
    let roomy = roomy_after test ms (no_run store) nothing_roomy in
    let one : (t : TypeName) → nat_lt max_counter (joined (at (each nothing_held) t) (at (all_entries s) t)).changes ≡ false = λ t.
    (λ i. nat_lt max_counter (joined (at-each nothing_held t i) (at-per_type (λ u. finmap.values (at s u).entries) t i)).changes)
    ∙ fits (at s t).entries (let room = (roomy t).1 in let top = within t in omega (arith, room, top)) in
    λ i. one Cluster i || (one Endpoint i || (one Listener i || (one Route i || (one Secret i || false))))
