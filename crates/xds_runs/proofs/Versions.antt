-- No version stands for two writes, whichever runs they are of.
use Rattle.std.proofs.Common.{◌≡◌, inl, inr, ℕ, List, [], ◌∷◌, ◌++◌, true, Option, Some, None, refl, sym, ap, subst, ◌∙◌}
use Rattle.std.specs.Prelude.{Contains}
use Rattle.std.specs.Option.{option_map_or}
use Rattle.std.specs.FinMap as finmap
use Rattle.std.proofs.lemmas.List.Elements.{Contains-append_left}
use Rattle.xds_resource.specs.declared.types.TypeName.{TypeName}
use Rattle.xds_resource.specs.PerType.{at}
use Rattle.xds_resource.specs.Writes.{StampedWrite}
use Rattle.xds_resource.specs.Best.{best}
use Rattle.xds_resource.proofs.BestWrites.{IsGreatest-best}
use Rattle.xds_resource.proofs.VersionTexts.{version_text_injective}
use Rattle.xds_catalogue.specs.Holdings.{Holdings}
use Rattle.xds_catalogue.proofs.Catalogues.{get-catalogue_of}
use Rattle.xds_core.specs.Stores.{Store}
use Rattle.xds_cache.specs.Faults.{Test}
use Rattle.xds_script.specs.Happenings.{Happening}
use Rattle.xds_world.specs.Worlds.{Site, World, empty_world, happens, world}
use Rattle.xds_world.specs.Knows.{TypedWrite, knows, made_now, made_after}
use Rattle.xds_world.specs.Claims.{writes_of, all_made}
use Rattle.xds_world.proofs.Ranges.{among_all}
use Rattle.xds_world.proofs.Sure.{sure}
use Rattle.xds_world.proofs.Headline.{headline}
use Rattle.xds_runs.specs.Runs.{Moment, Runs, no_run, is_number, runs_after, runs}
use Rattle.xds_runs.specs.Claims.{PutResourcesThen, IsThere, OneWriteAVersion}
use Rattle.xds_runs.proofs.Moments.{One, one_start, grown, runs_both}

-- ---- lists go on

made_still_or : (test : Test) (w : World) (all : List TypedWrite) (h : Happening) (hs : List Happening) (x : TypedWrite) (o : Option World) → Contains all x → ((v : World) (made : List TypedWrite) → Contains made x → Contains (made_after test v made hs) x)
    → Contains (option_map_or (λ v. made_after test v (all ++ made_now w h) hs) o (made_after test w all hs)) x
made_still_or test w all h hs x None made later = later w all made
made_still_or test w all h hs x (Some v) made later = later v (all ++ made_now w h) (Contains-append_left all (made_now w h) x made)

made_still : (test : Test) (hs : List Happening) (w : World) (all : List TypedWrite) (x : TypedWrite) → Contains all x → Contains (made_after test w all hs) x
made_still test [] w all x made = made
made_still test (h ∷ hs) w all x made = made_still_or test w all h hs x (happens test w h) made (λ v now. made_still test hs v now x)

made_more_or : (test : Test) (w : World) (all : List TypedWrite) (h : Happening) (hs ks : List Happening) (x : TypedWrite) (o : Option World)
    → ((v : World) (made : List TypedWrite) → Contains (made_after test v made hs) x → Contains (made_after test v made (hs ++ ks)) x)
    → Contains (option_map_or (λ v. made_after test v (all ++ made_now w h) hs) o (made_after test w all hs)) x
    → Contains (option_map_or (λ v. made_after test v (all ++ made_now w h) (hs ++ ks)) o (made_after test w all (hs ++ ks))) x
made_more_or test w all h hs ks x None later made = later w all made
made_more_or test w all h hs ks x (Some v) later made = later v (all ++ made_now w h) made

made_more : (test : Test) (hs ks : List Happening) (w : World) (all : List TypedWrite) (x : TypedWrite) → Contains (made_after test w all hs) x → Contains (made_after test w all (hs ++ ks)) x
made_more test [] ks w all x made = made_still test ks w all x made
made_more test (h ∷ hs) ks w all x made = made_more_or test w all h hs ks x (happens test w h) (λ v now. made_more test hs ks v now x) made

-- ---- what is there was made

held_made : (test : Test) (s : Runs) (x : One test s) (r : ℕ) (site : Site) (t : TypeName) (name : List ℕ) (y : StampedWrite) → finmap.get (world test x.happenings).sites r ≡ Some site → finmap.get (at site.core.store t).entries name ≡ Some y
    → Contains (all_made test x.happenings) (t, y)
held_made test s x r site t name y has is =
    let h = headline test x.happenings x.resources in
    let ws : List StampedWrite = writes_of t (knows test x.happenings r) in
    let first : best ws name ≡ Some y = sym (get-catalogue_of ws name) ∙ ap (λ m. finmap.get m name) (sym (h.holds r site t has)) ∙ is in
    h.stamped.0 r (t, y) (among_all t (knows test x.happenings r) y (IsGreatest-best ws name y first).listed)

there_made : (test : Test) (s : Runs) (x : One test s) (t : TypeName) (y : StampedWrite) → IsThere s t y → Contains (all_made test x.happenings) (t, y)
there_made test s x t y there =
    elim there.1 [
      | inl stored ↦
          held_made test s x s.store x.inside.keeper t there.0 y (ap (λ v. finmap.get v.sites s.store) x.made ∙ x.inside.keeps) (ap (λ (p : Store). finmap.get (at {X = Holdings} p t).entries there.0) x.inside.holds ∙ stored)
      | inr held ↦ held_made test s x held.0 held.1 t there.0 y (ap (λ v. finmap.get v.sites held.0) x.made ∙ x.inside.here held.0 held.1 held.2) held.3
    ]

-- rule: new-numbers
pub one_write_a_version : (test : Test) (store : ℕ) (ms more : List Moment) → is_number store ≡ true → PutResourcesThen ms → PutResourcesThen more → OneWriteAVersion test store ms more
one_write_a_version test store ms more number put puts t x y there_x there_y same =
    let before = grown test ms (no_run store) (one_start test store number) put in
    let now = grown test more (runs test store ms) before.whole puts in
    let all : List TypedWrite = all_made test now.whole.happenings in
    let made_x : Contains all (t, x) =
    subst (λ hs. Contains (all_made test hs) (t, x)) (sym now.is) (made_more test before.whole.happenings now.more_happenings empty_world [] (t, x) (there_made test (runs test store ms) before.whole t x there_x)) in
    let made_y : Contains all (t, y) = there_made test (runs_after test (runs test store ms) more) now.whole t y (subst (λ s. IsThere s t y) (runs_both test ms more (no_run store)) there_y) in
    let s = sure test now.whole.happenings now.whole.resources in
    let stamps = version_text_injective x.counter x.writer y.counter y.writer (s.ranged.stamps (t, x) made_x) (s.ranged.stamps (t, y) made_y) same in
    ap (λ (z : TypedWrite). z.1) (s.stamped.unique (t, x) (t, y) made_x made_y refl stamps.0 stamps.1)
