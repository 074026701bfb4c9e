-- What loops over names and entries make: sets of texts, and caches.
use Rattle.std.proofs.Common.{◌≡◌, ℕ, List, ◌++◌, Bool, true, false, cond, ◌||◌, ◌&&◌, not, Option, Some, None, refl, sym, ap, ◌∙◌}
use Rattle.std.specs.Prelude.{is_some, if◌then◌else◌, option_map}
use Rattle.std.specs.Option.{option_or, option_and_then}
use Rattle.std.specs.FinMap as finmap
use Rattle.xds_resource.specs.declared.types.TypeName.{TypeName}
use Rattle.xds_resource.specs.Writes.{text_cmp}
use Rattle.xds_resource.specs.Names.{put_all, put_each}
use Rattle.xds_resource.proofs.NameMaps.{has_text, same_names, get-tabulate, get-tabulated, in_neither, absent_key}
use Rattle.xds_resource.proofs.MadeMaps.{get-put_all, get-put_each}
use Rattle.xds_resource.proofs.BoolsAndLists.{option_or-None}
use Rattle.xds_cache.specs.Shelves.{Wants, Cache, Holding, marked, wants_of, marked_after, wants_after, is_wanted, kept, kept_of}
use Rattle.xds_cache.specs.Deliveries.{shown_after, cache_after}
use Rattle.xds_cache.specs.Shelves.{cached_version, cached_versions}
use Rattle.xds_cache.specs.Parts.{unless_dropped, as_before, left, added, version_told}

-- what is put from an empty map on is what is tabulated
put_each_at : (b : Bool) (o e : Option (Unit {0})) → e ≡ None → cond b (option_or o e) e ≡ cond b o None
put_each_at b o e none = (λ i. cond b (option_or o (none i)) (none i)) ∙ ap (λ x. cond b x None) (option_or-None o)

pub put_each-wants_of : (names : List (List ℕ)) → put_each marked finmap.empty names ≡ wants_of names
put_each-wants_of names = same_names _ _ (λ q.
    get-put_each marked finmap.empty names q ∙ put_each_at (has_text names q) (marked q) (finmap.get finmap.empty q) (finmap.get-empty text_cmp q)
    ∙ sym (get-tabulate marked names q))

-- what is put of each entry, from an empty map on
pub get-put_fresh : {X Y : Type 0} (f : List ℕ → X → Option Y) (m : finmap.FinMap text_cmp X) (q : List ℕ)
    → finmap.get (put_all f finmap.empty (finmap.entries m)) q ≡ option_and_then (f q) (finmap.get m q)
get-put_fresh f m q =
    get-put_all f finmap.empty m q ∙ ap (λ e. option_or (option_and_then (f q) (finmap.get m q)) e) (finmap.get-empty text_cmp q) ∙ option_or-None (option_and_then (f q) (finmap.get m q))

-- ---- texts

subscribed_at : (s b : Option (Unit {0})) (dropped : Bool)
    → option_or (option_and_then Some s) (option_and_then (λ u. if dropped then None else Some u) b) ≡ (if is_some s then Some tt else if dropped then None else b)
subscribed_at (Some u) b dropped = refl
subscribed_at None None true = refl
subscribed_at None None false = refl
subscribed_at None (Some u) true = refl
subscribed_at None (Some u) false = refl

wanted_absent : (s b : Option (Unit {0})) (dropped : Bool) → s ≡ None → b ≡ None → (if is_some s then Some tt else if dropped then None else b) ≡ None
wanted_absent s b true no_s no_b = (λ i. if is_some (no_s i) then Some tt else None)
wanted_absent s b false no_s no_b = (λ i. if is_some (no_s i) then Some tt else no_b i)

pub get-wants_after : (subscribe unsubscribe before : Wants) (q : List ℕ) → finmap.get (wants_after subscribe unsubscribe before) q ≡ marked_after subscribe unsubscribe before q
get-wants_after s u b q =
    get-tabulated (marked_after s u b) (finmap.keys s ++ finmap.keys b) q
    (λ e. let parts = in_neither (finmap.keys s) (finmap.keys b) q e in
    wanted_absent (finmap.get s q) (finmap.get b q) (finmap.contains_key u q) (absent_key s q parts.0) (absent_key b q parts.1))

pub put_all-wants_after : (subscribe unsubscribe before : Wants)
    → put_all as_before (put_all (unless_dropped unsubscribe) finmap.empty (finmap.entries before)) (finmap.entries subscribe) ≡ wants_after subscribe unsubscribe before
put_all-wants_after s u b = same_names _ _ (λ q.
    get-put_all as_before (put_all (unless_dropped u) finmap.empty (finmap.entries b)) s q
    ∙ ap (option_or (option_and_then Some (finmap.get s q))) (get-put_fresh (unless_dropped u) b q)
    ∙ subscribed_at (finmap.get s q) (finmap.get b q) (finmap.contains_key u q)
    ∙ sym (get-wants_after s u b q))

-- ---- caches

shown_at : (wanted whole removed : Bool) (stated held : Option Holding)
    → option_or (option_and_then (λ h. if wanted then Some h else None) stated) (option_and_then (λ h. if wanted && not (whole || removed) then Some h else None) held)
    ≡ (if wanted then option_or stated (if whole || removed then None else held) else None)
shown_at true whole removed (Some x) held = refl
shown_at true true removed None None = refl
shown_at true false true None None = refl
shown_at true false false None None = refl
shown_at true true removed None (Some h) = refl
shown_at true false true None (Some h) = refl
shown_at true false false None (Some h) = refl
shown_at false whole removed None None = refl
shown_at false whole removed None (Some h) = refl
shown_at false whole removed (Some x) None = refl
shown_at false whole removed (Some x) (Some h) = refl

none_either_way : {X : Type 0} (b : Bool) (o : Option X) → o ≡ None → (if b then None else o) ≡ None
none_either_way true o none = refl
none_either_way false o none = none

shown_absent : (wanted gone : Bool) (stated held : Option Holding) → stated ≡ None → held ≡ None → (if wanted then option_or stated (if gone then None else held) else None) ≡ None
shown_absent true gone stated held unstated unheld = (λ i. option_or (unstated i) (if gone then None else held)) ∙ none_either_way gone held unheld
shown_absent false gone stated held unstated unheld = refl

pub get-cache_after : (t : TypeName) (w : Wants) (whole : Bool) (removed : Wants) (stated held : Cache) (q : List ℕ)
    → finmap.get (cache_after t w whole removed stated held) q ≡ shown_after t w whole removed stated held q
get-cache_after t w whole removed stated held q =
    get-tabulated (shown_after t w whole removed stated held) (finmap.keys stated ++ finmap.keys held) q
    (λ e. let parts = in_neither (finmap.keys stated) (finmap.keys held) q e in
    shown_absent (is_wanted t w q) (whole || finmap.contains_key removed q) (finmap.get stated q) (finmap.get held q) (absent_key stated q parts.0) (absent_key held q parts.1))

pub put_all-cache_after : (t : TypeName) (w : Wants) (whole : Bool) (removed : Wants) (stated held : Cache)
    → put_all (added t w) (put_all (left t w whole removed) finmap.empty (finmap.entries held)) (finmap.entries stated) ≡ cache_after t w whole removed stated held
put_all-cache_after t w whole removed stated held = same_names _ _ (λ q.
    get-put_all (added t w) (put_all (left t w whole removed) finmap.empty (finmap.entries held)) stated q
    ∙ ap (option_or (option_and_then (added t w q) (finmap.get stated q))) (get-put_fresh (left t w whole removed) held q)
    ∙ shown_at (is_wanted t w q) whole (finmap.contains_key removed q) (finmap.get stated q) (finmap.get held q)
    ∙ sym (get-cache_after t w whole removed stated held q))

kept_at : (wanted removed : Bool) (held : Option Holding) → removed ≡ false → option_and_then (λ h. if wanted && not removed then Some h else None) held ≡ (if wanted then held else None)
kept_at true true held e = absurd cc
kept_at true false None e = refl
kept_at true false (Some h) e = refl
kept_at false removed None e = refl
kept_at false removed (Some h) e = refl

kept_absent : (wanted : Bool) (held : Option Holding) → held ≡ None → (if wanted then held else None) ≡ None
kept_absent true held e = e
kept_absent false held e = refl

pub get-kept_of : (t : TypeName) (w : Wants) (held : Cache) (q : List ℕ) → finmap.get (kept_of t w held) q ≡ kept t w held q
get-kept_of t w held q = get-tabulated (kept t w held) (finmap.keys held) q (λ e. kept_absent (is_wanted t w q) (finmap.get held q) (absent_key held q e))

pub put_all-kept_of : (t : TypeName) (w : Wants) (held : Cache) → put_all (left t w false finmap.empty) finmap.empty (finmap.entries held) ≡ kept_of t w held
put_all-kept_of t w held = same_names _ _ (λ q.
    get-put_fresh (left t w false finmap.empty) held q
    ∙ kept_at (is_wanted t w q) (finmap.contains_key {X = Unit {0}} {R = text_cmp} finmap.empty q) (finmap.get held q) (ap is_some (finmap.get-empty {X = Unit {0}} text_cmp q))
    ∙ sym (get-kept_of t w held q))

-- ---- versions

version_at : (o : Option Holding) → option_and_then (λ h. Some h.version) o ≡ option_map (λ h. h.version) o
version_at None = refl
version_at (Some h) = refl

pub put_all-cached_versions : (cache : Cache) → put_all version_told finmap.empty (finmap.entries cache) ≡ cached_versions cache
put_all-cached_versions cache = same_names _ _ (λ q.
    get-put_fresh version_told cache q ∙ version_at (finmap.get cache q)
    ∙ sym (get-tabulated (cached_version cache) (finmap.keys cache) q (λ e. ap (λ o. option_map (λ h. h.version) o) (absent_key cache q e))))
