-- Maps that are made by going over the entries of another map, or over names.
use Rattle.std.proofs.Common.{◌≡◌, ℕ, List, [], ◌∷◌, Bool, true, false, cond, ◌||◌, Option, Some, None, refl, sym, ap, ◌∙◌}
use Rattle.std.specs.Prelude.{T, bytes_eq}
use Rattle.std.specs.declared.cmp.Ordering.{Ordering}
use Rattle.std.specs.declared.cmp.Ordering.TheVariants.{Less, Equal, Greater}
use Rattle.std.specs.Ordering.{is_lt, is_eq, eq_by_cmp}
use Rattle.std.specs.Option.{option_or, option_and_then}
use Rattle.std.specs.FinMap as finmap
use Rattle.std.specs.FinMap.Entries.{below_all, is_sorted}
use Rattle.std.proofs.lemmas.Map.Text.{is_eq-slice_cmp}
use Rattle.xds_resource.specs.Writes.{text_cmp}
use Rattle.xds_resource.specs.Names.{put_some, put_all, put_each}
use Rattle.xds_resource.proofs.NameMaps.{has_text, get-put_some, bytes_eq_same, bytes_eq_tells, bytes_eq_swap}
use Rattle.xds_resource.proofs.BoolsAndLists.{holds_first, holds_second}

pub less_is_no_tie : (o : Ordering) → T (is_lt o) → is_eq o ≡ false
less_is_no_tie Less h = refl
less_is_no_tie Equal h = absurd h
less_is_no_tie Greater h = absurd h

pub find_below : {X : Type 0} (k : List ℕ) (es : List (List ℕ × X)) → T (below_all text_cmp k es) → finmap.find text_cmp k es ≡ None
find_below k [] h = refl
find_below k (e ∷ es) h =
    ap (λ b. cond b (Some e.1) (finmap.find text_cmp k es)) (less_is_no_tie (text_cmp k e.0) (holds_first (is_lt (text_cmp k e.0)) (below_all text_cmp k es) h))
    ∙ find_below k es (holds_second (is_lt (text_cmp k e.0)) (below_all text_cmp k es) h)

step : {X Y : Type 0} (f : X → Option Y) (here : Bool) (x : X) (later : Option X) (u old : Option Y) → (here ≡ true → u ≡ f x) → (here ≡ true → later ≡ None)
    → option_or (option_and_then f later) (cond here (option_or u old) old) ≡ option_or (option_and_then f (cond here (Some x) later)) old
step f true x later u old is alone = (λ i. option_or (option_and_then f (alone refl i)) (option_or (is refl i) old))
step f false x later u old is alone = refl

-- once f was put at each entry of a sorted list
get-put_sorted : {X Y : Type 0} (f : List ℕ → X → Option Y) (m : finmap.FinMap text_cmp Y) (es : List (List ℕ × X)) (q : List ℕ) → T (is_sorted text_cmp es)
    → finmap.get (put_all f m es) q ≡ option_or (option_and_then (f q) (finmap.find text_cmp q es)) (finmap.get m q)
get-put_sorted f m [] q sorted = refl
get-put_sorted f m (e ∷ es) q sorted =
    let below = holds_first (below_all text_cmp e.0 es) (is_sorted text_cmp es) sorted in
    let later = finmap.find text_cmp q es in
    get-put_sorted f (put_some m e.0 (f e.0 e.1)) es q (holds_second (below_all text_cmp e.0 es) (is_sorted text_cmp es) sorted)
    ∙ ap (λ o. option_or (option_and_then (f q) later) o) (get-put_some m e.0 (f e.0 e.1) q)
    ∙ step (f q) (bytes_eq e.0 q) e.1 later (f e.0 e.1) (finmap.get m q) (λ same. ap (λ n. f n e.1) (bytes_eq_tells e.0 q same))
    (λ same. ap (λ n. finmap.find text_cmp n es) (sym (bytes_eq_tells e.0 q same)) ∙ find_below e.0 es below)
    ∙ ap (λ b. option_or (option_and_then (f q) (cond b (Some e.1) later)) (finmap.get m q)) (bytes_eq_swap e.0 q ∙ sym (is_eq-slice_cmp q e.0))

-- once f was put at each entry of a map
pub get-put_all : {X Y : Type 0} (f : List ℕ → X → Option Y) (m : finmap.FinMap text_cmp Y) (b : finmap.FinMap text_cmp X) (q : List ℕ)
    → finmap.get (put_all f m (finmap.entries b)) q ≡ option_or (option_and_then (f q) (finmap.get b q)) (finmap.get m q)
get-put_all f m b q =
    get-put_sorted f m (finmap.entries b) q (finmap.entries_sorted b) ∙ ap (λ o. option_or (option_and_then (f q) o) (finmap.get m q)) (sym (finmap.get-entries b q))

each_step : {Y : Type 0} (here later : Bool) (u p old : Option Y) → (here ≡ true → u ≡ p)
    → cond later (option_or p (cond here (option_or u old) old)) (cond here (option_or u old) old) ≡ cond (here || later) (option_or p old) old
each_step true true u None old is = ap (λ o. option_or o old) (is refl)
each_step true true u (Some y) old is = refl
each_step true false u p old is = ap (λ o. option_or o old) (is refl)
each_step false later u p old is = refl

-- once f was put at each name of a list
pub get-put_each : {Y : Type 0} (f : List ℕ → Option Y) (m : finmap.FinMap text_cmp Y) (ns : List (List ℕ)) (q : List ℕ)
    → finmap.get (put_each f m ns) q ≡ cond (has_text ns q) (option_or (f q) (finmap.get m q)) (finmap.get m q)
get-put_each f m [] q = refl
get-put_each f m (n ∷ ns) q =
    get-put_each f (put_some m n (f n)) ns q ∙ ap (λ o. cond (has_text ns q) (option_or (f q) o) o) (get-put_some m n (f n) q)
    ∙ each_step (bytes_eq n q) (has_text ns q) (f n) (f q) (finmap.get m q) (λ same. ap f (bytes_eq_tells n q same))
    ∙ ap (λ b. cond (b || has_text ns q) (option_or (f q) (finmap.get m q)) (finmap.get m q)) (bytes_eq_swap n q)

-- ---- the entries of a map are found

-- each of some entries is what the map has at its name
abbrev pub EachFound : {X : Type 0} → finmap.FinMap text_cmp X → List (List ℕ × X) → Type 0
EachFound m [] = Unit {0}
EachFound m (e ∷ es) = (finmap.get m e.0 ≡ Some e.1) × EachFound m es

abbrev EachAt : {X : Type 0} → List (List ℕ × X) → List (List ℕ × X) → Type 0
EachAt all [] = Unit {0}
EachAt all (e ∷ es) = (finmap.find text_cmp e.0 all ≡ Some e.1) × EachAt all es

past_first : {X : Type 0} (k : List ℕ) (x : X) (all es : List (List ℕ × X)) → T (below_all text_cmp k es) → EachAt all es → EachAt ((k, x) ∷ all) es
past_first k x all [] below found = tt
past_first k x all (e ∷ es) below found =
    let apart : eq_by_cmp text_cmp e.0 k ≡ false =
    is_eq-slice_cmp e.0 k ∙ bytes_eq_swap e.0 k ∙ sym (is_eq-slice_cmp k e.0) ∙ less_is_no_tie (text_cmp k e.0) (holds_first (is_lt (text_cmp k e.0)) (below_all text_cmp k es) below) in
    (ap (λ b. cond b (Some x) (finmap.find text_cmp e.0 all)) apart ∙ found.0, past_first k x all es (holds_second (is_lt (text_cmp k e.0)) (below_all text_cmp k es) below) found.1)

each_at : {X : Type 0} (es : List (List ℕ × X)) → T (is_sorted text_cmp es) → EachAt es es
each_at [] sorted = tt
each_at (e ∷ es) sorted = (
  ap (λ b. cond b (Some e.1) (finmap.find text_cmp e.0 es)) (is_eq-slice_cmp e.0 e.0 ∙ bytes_eq_same e.0),
  past_first e.0 e.1 es es (holds_first (below_all text_cmp e.0 es) (is_sorted text_cmp es) sorted) (each_at es (holds_second (below_all text_cmp e.0 es) (is_sorted text_cmp es) sorted)),
)

by_get : {X : Type 0} (m : finmap.FinMap text_cmp X) (es : List (List ℕ × X)) → EachAt (finmap.entries m) es → EachFound m es
by_get m [] found = tt
by_get m (e ∷ es) found = (finmap.get-entries m e.0 ∙ found.0, by_get m es found.1)

pub each_found : {X : Type 0} (m : finmap.FinMap text_cmp X) → EachFound m (finmap.entries m)
each_found m = by_get m (finmap.entries m) (each_at (finmap.entries m) (finmap.entries_sorted m))
