-- What is stored stays, unless a greater write of its name comes.
use Rattle.std.proofs.Common.{◌≡◌, ℕ, List, [], ◌∷◌, ◌++◌, Option, Some, None, refl, sym, ap, subst, ◌∙◌, append_assoc}
use Rattle.std.specs.Prelude.{option_map}
use Rattle.std.specs.Option.{option_map_or}
use Rattle.std.specs.FinMap as finmap
use Rattle.xds_resource.specs.declared.types.TypeName.{TypeName}
use Rattle.xds_resource.specs.declared.refusal.Refusal.TheVariants.{CounterSpent}
use Rattle.xds_resource.specs.PerType.{at}
use Rattle.xds_resource.specs.Writes.{StampedWrite}
use Rattle.xds_resource.proofs.Refusing.{unless_once}
use Rattle.xds_resource.proofs.TypesApart.{at-per_type}
use Rattle.xds_catalogue.specs.Holdings.{Entries, Holdings, IsCatalogue, catalogue_of}
use Rattle.xds_catalogue.specs.Joins.{IsAbove, joined}
use Rattle.xds_catalogue.proofs.Catalogues.{catalogue_of-entries, catalogue_of-IsCatalogue}
use Rattle.xds_catalogue.proofs.JoinLaws.{made_of_its_writes, joins_the_writes, join_is_above}
use Rattle.xds_catalogue.proofs.OneWrite.{joined-none}
use Rattle.xds_core.specs.Stores.{Store, Batch, merging, merged, is_spent, grown}
use Rattle.xds_cache.specs.Faults.{Test}
use Rattle.xds_world.specs.Worlds.{placed, happens}
use Rattle.xds_world.proofs.Replicas.{mapped_some, bound_some, if_some}
use Rattle.xds_runs.specs.Runs.{Moment, Begin, Occur, Keep, Miss, Runs, no_run, are_new, begun, stored_by, missed, brings_a_replica, in_run, occurs, runs_after, runs}
use Rattle.xds_runs.specs.Claims.{StoredStays}
use Rattle.xds_runs.proofs.Moments.{unless_some, stored_is, runs_both}
use Rattle.xds_runs.proofs.Counted.{AllRoomy, nothing_roomy, roomy_step, roomy_after}

-- these entries, with the writes of a list
abbrev pub Adds : Entries → Entries → Type 0
Adds m n = (ws : List StampedWrite) × (n ≡ catalogue_of (finmap.values m ++ ws))

pub adds_none : (h : Holdings) → IsCatalogue h.entries → Adds h.entries h.entries
adds_none h named = ([], sym (ap (λ (k : Holdings). k.entries) (joined-none h named)))

pub adds_both : (l m n : Entries) → Adds l m → Adds m n → Adds l n
adds_both l m n x y = (x.0 ++ y.0, y.1 ∙ ap (λ (k : Entries). catalogue_of (finmap.values k ++ y.0)) x.1 ∙ catalogue_of-entries (finmap.values l ++ x.0) y.0 ∙ ap catalogue_of (append_assoc (finmap.values l) x.0 y.0))

pub adds_above : (m n : Entries) → IsCatalogue m → Adds m n → IsAbove n m
adds_above m n named x =
    let vs : List StampedWrite = finmap.values m in
    let above = (join_is_above (catalogue_of vs) (catalogue_of x.0) (catalogue_of-IsCatalogue vs) (catalogue_of-IsCatalogue x.0)).0 in
    subst (λ (p : Entries × Entries). IsAbove p.0 p.1) (λ i. ((joins_the_writes vs x.0 ∙ sym x.1) i, made_of_its_writes m named i)) above

-- of all types
abbrev AddsAll : Store → Store → Type 0
AddsAll a b = (t : TypeName) → Adds (at a t).entries (at b t).entries

adds_same : (s : Store) → AllRoomy s → AddsAll s s
adds_same s roomy t = adds_none (at s t) (roomy t).0

adds_step : (test : Test) (s left : Runs) (m : Moment) → occurs test s m ≡ Some left → AllRoomy s.stored → AddsAll s.stored left.stored
adds_step test s left (Begin rs) is roomy = subst (λ (u : Runs). AddsAll s.stored u.stored) (sym (if_some (are_new s.taken rs) (begun test s rs) left is).1) (adds_same s.stored roomy)
adds_step test s left (Occur h) is roomy =
    let goes = unless_some (brings_a_replica h) (option_map (in_run s) (happens test s.now h)) left is in
    subst (λ (u : Runs). AddsAll s.stored u.stored) (sym (mapped_some (in_run s) (happens test s.now h) left goes.1).2) (adds_same s.stored roomy)
adds_step test s left (Keep b) is roomy =
    let place = bound_some (λ y. stored_by s (merging s.stored y.1)) (placed s.now.pool b) left is in
    let batch : Batch = place.0.1 in
    let p = stored_is s left (merging s.stored batch) place.2 in
    let now = unless_once (is_spent s.stored batch) CounterSpent (grown s.stored batch, merged s.stored batch) p.0 p.1 in
    subst (λ (u : Runs). AddsAll s.stored u.stored) (sym p.2)
    (subst (λ (y : ℕ × Store). AddsAll s.stored y.1) (sym now) (λ t. (at batch t, ap (λ (h : Holdings). h.entries) (at-per_type (λ u. joined (at s.stored u) (at batch u)) t))))
adds_step test s left (Miss c) is roomy = subst (λ (u : Runs). AddsAll s.stored u.stored) (sym (mapped_some (in_run s) (missed s.now c) left is).2) (adds_same s.stored roomy)

adds_or : (test : Test) (s : Runs) (m : Moment) (ms : List Moment) (o : Option Runs) → occurs test s m ≡ o → ((u : Runs) → AllRoomy u.stored → AddsAll u.stored (runs_after test u ms).stored) → AllRoomy s.stored
    → AddsAll s.stored (runs_after test (option_map_or (λ u. u) o s) ms).stored
adds_or test s m ms None is later roomy = later s roomy
adds_or test s m ms (Some left) is later roomy = λ t.
    adds_both (at s.stored t).entries (at left.stored t).entries (at (runs_after test left ms).stored t).entries (adds_step test s left m is roomy t) (later left (roomy_step test s left m is roomy) t)

adds_after : (test : Test) (ms : List Moment) (s : Runs) → AllRoomy s.stored → AddsAll s.stored (runs_after test s ms).stored
adds_after test [] s roomy = adds_same s.stored roomy
adds_after test (m ∷ ms) s roomy = adds_or test s m ms (occurs test s m) refl (adds_after test ms) roomy

-- rule: greatest-write
pub stored_stays : (test : Test) (store : ℕ) (ms more : List Moment) → StoredStays test store ms more
stored_stays test store ms more t =
    let s : Runs = runs test store ms in
    let roomy = roomy_after test ms (no_run store) nothing_roomy in
    subst (λ (u : Runs). IsAbove (at u.stored t).entries (at s.stored t).entries) (sym (runs_both test ms more (no_run store))) (adds_above (at s.stored t).entries (at (runs_after test s more).stored t).entries (roomy t).0 (adds_after test more s roomy t))
