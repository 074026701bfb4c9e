-- What a map from names holds, in the order of names: all of it, or what an interest's names show.
use Rattle.std.proofs.Common.{◌≡◌, ℕ, List, [], ◌∷◌, ◌++◌, map, String, Bool, true, false, cond, Option, Some, None, Bor, BTreeMap, refl, sym, ap, subst, ◌∙◌}
use Rattle.std.specs.Prelude.{T, bytes_eq, ◌&&◌, ◌||◌, IfSome, if◌then◌else◌}
use Rattle.std.specs.declared.cmp.Ordering.TheVariants.{Less}
use Rattle.std.specs.Option.{option_and_then}
use Rattle.std.specs.Ordering.{is_lt, eq_by_cmp}
use Rattle.std.specs.List.{filter, filter_map, cons_option, AllByRecursion}
use Rattle.std.specs.List.Sorted.{IsStrictlySortedBy}
use Rattle.std.specs.String.{string_bytes, string_cmp}
use Rattle.std.specs.BTreeMap as tree
use Rattle.std.specs.FinMap as finmap
use Rattle.std.specs.FinSet as set
use Rattle.std.specs.FinMap.Entries.{below_all, is_sorted, same_entries}
use Rattle.std.proofs.lemmas.Map.Text.{is_eq-slice_cmp}
use Rattle.std.proofs.lemmas.Slice.Eq.{bytes_eq-Decides}
use Rattle.std.proofs.lemmas.Cmp.{nat_list_cmp_total}
use Rattle.xds_resource.specs.Writes.{StampedWrite, text_cmp}
use Rattle.xds_resource.proofs.WriteTies.{text_cmp-IsAntisymmetric}
use Rattle.xds_interest.specs.Interests.{Selection, has_name, is_open_to}
use Rattle.xds_interest.proofs.Texts.{contains-from_texts}
use Rattle.xds_catalogue.specs.Holdings.{Entries, IsCatalogue}
use Rattle.xds_catalogue.specs.Content.{is_live, is_shown, if_live, live_at, content}
use Rattle.xds_catalogue.specs.Tables.{by_text}
use Rattle.xds_catalogue.proofs.Catalogues.{find_below, none_tied}
use Rattle.xds_resource.proofs.NameMaps.{both_true, both_hold}
use Rattle.xds_resource.proofs.BoolsAndLists.{holds_first, holds_second}

abbrev seen : {X Y Z : Type 0} → (X → Z) → List (String Y × X) → List (List ℕ × Z)
seen f es = map (λ e. (string_bytes e.0, f e.1)) es

below_seen : {X Y Z : Type 0} (f : X → Z) (k : String Y) (es : List (String Y × X)) → AllByRecursion (λ y. string_cmp k y ≡ Less) (map (λ e. e.0) es) → T (below_all text_cmp (string_bytes k) (seen f es))
below_seen f k [] h = tt
below_seen f k (e ∷ es) h = both_true (is_lt (text_cmp (string_bytes k) (string_bytes e.0))) (below_all text_cmp (string_bytes k) (seen f es)) (ap is_lt h.0) (below_seen f k es h.1)

sorted_seen : {X Y Z : Type 0} (f : X → Z) (es : List (String Y × X)) → IsStrictlySortedBy string_cmp (map (λ e. e.0) es) → T (is_sorted text_cmp (seen f es))
unfolding IsStrictlySortedBy
sorted_seen f [] h = tt
sorted_seen f (e ∷ es) h = both_hold (below_all text_cmp (string_bytes e.0) (seen f es)) (is_sorted text_cmp (seen f es)) (below_seen f e.0 es h.0) (sorted_seen f es h.1)

values-seen : {X Y Z : Type 0} (f : X → Z) (es : List (String Y × X)) → map (λ e. e.1) (seen f es) ≡ map f (map (λ e. e.1) es)
values-seen f [] = refl
values-seen f (e ∷ es) = ap (λ l. f e.1 ∷ l) (values-seen f es)

-- the values of an ordered map, in its order
pub values-by_text : {X Y Z : Type 0} (f : X → Z) (m : BTreeMap (String Y) X) → tree.IsOrdered string_cmp m → map f (tree.values m) ≡ finmap.values (by_text f m.entries)
values-by_text f m ordered =
    sym (values-seen f m.entries) ∙ ap (map (λ e. e.1)) (same_entries text_cmp nat_list_cmp_total text_cmp-IsAntisymmetric (seen f m.entries) (finmap.entries (by_text f m.entries)) (sorted_seen f m.entries ordered) (finmap.entries_sorted (by_text f m.entries))
    (λ q. sym (finmap.get-from_entries nat_list_cmp_total (seen f m.entries) q) ∙ finmap.get-entries (by_text f m.entries) q))

-- the write, if a client of this interest sees it
abbrev if_shown : Selection → StampedWrite → Option StampedWrite
if_shown s w = if is_shown s w then Some w else None

abbrev shown_of : Selection → List (List ℕ × StampedWrite) → List (List ℕ × StampedWrite)
shown_of s es = filter (λ e. is_shown s e.1) es

below_shown : (s : Selection) (k : List ℕ) (e : List ℕ × StampedWrite) (es rest : List (List ℕ × StampedWrite)) (b : Bool) → T (is_lt (text_cmp k e.0) && below_all text_cmp k es) → (T (below_all text_cmp k es) → T (below_all text_cmp k rest))
    → T (below_all text_cmp k (cond b (e ∷ rest) rest))
below_shown s k e es rest true h keeps = both_hold (is_lt (text_cmp k e.0)) (below_all text_cmp k rest) (holds_first (is_lt (text_cmp k e.0)) _ h) (keeps (holds_second (is_lt (text_cmp k e.0)) _ h))
below_shown s k e es rest false h keeps = keeps (holds_second (is_lt (text_cmp k e.0)) _ h)

below_kept : (s : Selection) (k : List ℕ) (es : List (List ℕ × StampedWrite)) → T (below_all text_cmp k es) → T (below_all text_cmp k (shown_of s es))
below_kept s k [] h = tt
below_kept s k (e ∷ es) h = below_shown s k e es (shown_of s es) (is_shown s e.1) h (below_kept s k es)

sorted_at : (e : List ℕ × StampedWrite) (rest : List (List ℕ × StampedWrite)) (b : Bool) → T (below_all text_cmp e.0 rest) → T (is_sorted text_cmp rest) → T (is_sorted text_cmp (cond b (e ∷ rest) rest))
sorted_at e rest true below sorted = both_hold (below_all text_cmp e.0 rest) (is_sorted text_cmp rest) below sorted
sorted_at e rest false below sorted = sorted

sorted_kept : (s : Selection) (es : List (List ℕ × StampedWrite)) → T (is_sorted text_cmp es) → T (is_sorted text_cmp (shown_of s es))
sorted_kept s [] h = tt
sorted_kept s (e ∷ es) h =
    sorted_at e (shown_of s es) (is_shown s e.1) (below_kept s e.0 es (holds_first (below_all text_cmp e.0 es) (is_sorted text_cmp es) h)) (sorted_kept s es (holds_second (below_all text_cmp e.0 es) (is_sorted text_cmp es) h))

found_kept : (s : Selection) (q : List ℕ) (e : List ℕ × StampedWrite) (es rest : List (List ℕ × StampedWrite)) (b t : Bool) → is_shown s e.1 ≡ b → eq_by_cmp text_cmp q e.0 ≡ t → (t ≡ true → finmap.find text_cmp q es ≡ None)
    → finmap.find text_cmp q rest ≡ option_and_then (if_shown s) (finmap.find text_cmp q es) → finmap.find text_cmp q (cond b (e ∷ rest) rest) ≡ option_and_then (if_shown s) (cond t (Some e.1) (finmap.find text_cmp q es))
found_kept s q e es rest true true shown tie none same = ap (λ b. cond b (Some e.1) (finmap.find text_cmp q rest)) tie ∙ ap (λ b. if b then Some e.1 else None) (sym shown)
found_kept s q e es rest true false shown tie none same = ap (λ b. cond b (Some e.1) (finmap.find text_cmp q rest)) tie ∙ same
found_kept s q e es rest false true shown tie none same = same ∙ ap (option_and_then (if_shown s)) (none refl) ∙ ap (λ b. if b then Some e.1 else None) (sym shown)
found_kept s q e es rest false false shown tie none same = same

find-kept : (s : Selection) (q : List ℕ) (es : List (List ℕ × StampedWrite)) → T (is_sorted text_cmp es) → finmap.find text_cmp q (shown_of s es) ≡ option_and_then (if_shown s) (finmap.find text_cmp q es)
find-kept s q [] h = refl
find-kept s q (e ∷ es) h =
    found_kept s q e es (shown_of s es) (is_shown s e.1) (eq_by_cmp text_cmp q e.0) refl refl (λ tie. none_tied e es q (holds_first (below_all text_cmp e.0 es) (is_sorted text_cmp es) h) tie)
    (find-kept s q es (holds_second (below_all text_cmp e.0 es) (is_sorted text_cmp es) h))

values_at : (e : List ℕ × StampedWrite) (b : Bool) (rest : List (List ℕ × StampedWrite)) (ws : List StampedWrite) → map (λ e. e.1) rest ≡ ws → map (λ e. e.1) (cond b (e ∷ rest) rest) ≡ cond b (e.1 ∷ ws) ws
values_at e true rest ws same = ap (λ l. e.1 ∷ l) same
values_at e false rest ws same = same

values-kept : (s : Selection) (es : List (List ℕ × StampedWrite)) → map (λ e. e.1) (shown_of s es) ≡ filter (is_shown s) (map (λ e. e.1) es)
values-kept s [] = refl
values-kept s (e ∷ es) = values_at e (is_shown s e.1) (shown_of s es) _ (values-kept s es)

-- what stands live under each of some names, beside its name
abbrev pair_with : List ℕ → Option StampedWrite → List (List ℕ × StampedWrite) → List (List ℕ × StampedWrite)
pair_with n None rest = rest
pair_with n (Some w) rest = (n, w) ∷ rest

abbrev live_under : Entries → List (List ℕ) → List (List ℕ × StampedWrite)
live_under m [] = []
live_under m (n ∷ ns) = pair_with n (live_at m n) (live_under m ns)

-- each name is below those after it
abbrev pub Ascend : List (List ℕ) → Type 0
Ascend [] = Unit {0}
Ascend (n ∷ ns) = AllByRecursion (λ y. text_cmp n y ≡ Less) ns × Ascend ns

below_pair : (k n : List ℕ) (o : Option StampedWrite) (rest : List (List ℕ × StampedWrite)) → text_cmp k n ≡ Less → T (below_all text_cmp k rest) → T (below_all text_cmp k (pair_with n o rest))
below_pair k n None rest less below = below
below_pair k n (Some w) rest less below = both_true (is_lt (text_cmp k n)) (below_all text_cmp k rest) (ap is_lt less) below

below_live : (m : Entries) (k : List ℕ) (ns : List (List ℕ)) → AllByRecursion (λ y. text_cmp k y ≡ Less) ns → T (below_all text_cmp k (live_under m ns))
below_live m k [] h = tt
below_live m k (n ∷ ns) h = below_pair k n (live_at m n) (live_under m ns) h.0 (below_live m k ns h.1)

sorted_pair : (n : List ℕ) (o : Option StampedWrite) (rest : List (List ℕ × StampedWrite)) → T (below_all text_cmp n rest) → T (is_sorted text_cmp rest) → T (is_sorted text_cmp (pair_with n o rest))
sorted_pair n None rest below sorted = sorted
sorted_pair n (Some w) rest below sorted = both_hold (below_all text_cmp n rest) (is_sorted text_cmp rest) below sorted

sorted_live : (m : Entries) (ns : List (List ℕ)) → Ascend ns → T (is_sorted text_cmp (live_under m ns))
sorted_live m [] h = tt
sorted_live m (n ∷ ns) h = sorted_pair n (live_at m n) (live_under m ns) (below_live m n ns h.0) (sorted_live m ns h.1)

found_pair : (m : Entries) (q n : List ℕ) (o : Option StampedWrite) (rest : List (List ℕ × StampedWrite)) (b r : Bool) → live_at m n ≡ o → bytes_eq q n ≡ b → (b ≡ true → n ≡ q)
    → finmap.find text_cmp q rest ≡ (if r then live_at m q else None) → (b ≡ true → finmap.find text_cmp q rest ≡ None) → finmap.find text_cmp q (pair_with n o rest) ≡ (if (b || r) then live_at m q else None)
found_pair m q n None rest true r is named same found none = none refl ∙ sym is ∙ ap (live_at m) (same refl)
found_pair m q n None rest false r is named same found none = found
found_pair m q n (Some w) rest true r is named same found none = ap (λ b. cond b (Some w) (finmap.find text_cmp q rest)) (is_eq-slice_cmp q n ∙ named) ∙ sym is ∙ ap (live_at m) (same refl)
found_pair m q n (Some w) rest false r is named same found none = ap (λ b. cond b (Some w) (finmap.find text_cmp q rest)) (is_eq-slice_cmp q n ∙ named) ∙ found

find-live : (m : Entries) (q : List ℕ) (ns : List (List ℕ)) → Ascend ns → finmap.find text_cmp q (live_under m ns) ≡ (if has_name ns q then live_at m q else None)
find-live m q [] h = refl
find-live m q (n ∷ ns) h =
    let same : bytes_eq q n ≡ true → n ≡ q = λ named. sym ((bytes_eq-Decides q n).0 named) in
    found_pair m q n (live_at m n) (live_under m ns) (bytes_eq q n) (has_name ns q) refl refl same (find-live m q ns h.1)
    (λ named. subst (λ k. finmap.find text_cmp k (live_under m ns) ≡ None) (same named) (find_below n (live_under m ns) (below_live m n ns h.0)))

values_pair : (n : List ℕ) (o : Option StampedWrite) (rest : List (List ℕ × StampedWrite)) → map (λ e. e.1) (pair_with n o rest) ≡ cons_option o (map (λ e. e.1) rest)
values_pair n None rest = refl
values_pair n (Some w) rest = refl

values-live : (m : Entries) (ns : List (List ℕ)) → map (λ e. e.1) (live_under m ns) ≡ filter_map (live_at m) ns
values-live m [] = refl
values-live m (n ∷ ns) = values_pair n (live_at m n) (live_under m ns) ∙ ap (cons_option (live_at m n)) (values-live m ns)

-- without the star, covered is what has an explicit name (r), be it open to the cluster (o) or not
covered : (w : StampedWrite) (l r o : Bool) → (if r then (if l then Some w else None) else None) ≡ (if (l && (r || (false && o))) then Some w else None)
covered w true true o = refl
covered w true false o = refl
covered w false true o = refl
covered w false false o = refl

abbrev if_none : Bool → Option StampedWrite
if_none r = if r then None else None

none_either : (r : Bool) → if_none r ≡ None
none_either true = refl
none_either false = refl

shown_at : (s : Selection) (q : List ℕ) (o : Option StampedWrite) (r : Bool) → s.star ≡ false → set.contains s.names q ≡ r → IfSome o (λ w. w.name ≡ q) → (if r then option_and_then if_live o else None) ≡ option_and_then (if_shown s) o
shown_at s q None r no_star has named = none_either r
shown_at s q (Some w) r no_star has named =
    let in_group = is_open_to w.groups s.cluster in
    covered w (is_live w) r in_group ∙ (λ i. if (is_live w && (sym (ap (set.contains s.names) named ∙ has) i || (sym no_star i && in_group))) then Some w else None)

-- an interest without the star is shown what stands live under its names
pub content-names : (m : Entries) (s : Selection) (ns : List (List ℕ)) → IsCatalogue m → s.star ≡ false → set.from_list ns ≡ s.names → Ascend ns → filter_map (live_at m) ns ≡ content m s
content-names m s ns named no_star is ascend =
    sym (values-live m ns)
    ∙ ap (map (λ e. e.1)) (same_entries text_cmp nat_list_cmp_total text_cmp-IsAntisymmetric (live_under m ns) (shown_of s (finmap.entries m)) (sorted_live m ns ascend) (sorted_kept s (finmap.entries m) (finmap.entries_sorted m))
    (λ q. find-live m q ns ascend ∙ shown_at s q (finmap.get m q) (has_name ns q) no_star (ap (λ t. set.contains t q) (sym is) ∙ contains-from_texts ns q) (named q)
    ∙ ap (option_and_then (if_shown s)) (finmap.get-entries m q) ∙ sym (find-kept s q (finmap.entries m) (finmap.entries_sorted m))))
    ∙ values-kept s (finmap.entries m)

-- the texts of an ordered set ascend
below_strings : {Y : Type 0} (k : String Y) (ks : List (String Y)) → AllByRecursion (λ y. string_cmp k y ≡ Less) ks → AllByRecursion (λ y. text_cmp (string_bytes k) y ≡ Less) (map string_bytes ks)
below_strings k [] h = tt
below_strings k (x ∷ ks) h = (h.0, below_strings k ks h.1)

pub strings_ascend : {Y : Type 0} (ks : List (String Y)) → IsStrictlySortedBy string_cmp ks → Ascend (map string_bytes ks)
unfolding IsStrictlySortedBy
strings_ascend [] h = tt
strings_ascend (k ∷ ks) h = (below_strings k ks h.0, strings_ascend ks h.1)

-- texts that ascend
pub texts_ascend : (ns : List (List ℕ)) → IsStrictlySortedBy text_cmp ns → Ascend ns
unfolding IsStrictlySortedBy
texts_ascend [] h = tt
texts_ascend (n ∷ ns) h = (h.0, texts_ascend ns h.1)

-- a loop over the entries, or over names, one further
pub filter_map-map : {X Y Z : Type 0} (f : Y → Option Z) (h : X → Y) (xs : List X) → filter_map f (map h xs) ≡ filter_map (λ x. f (h x)) xs
filter_map-map f h [] = refl
filter_map-map f h (x ∷ xs) = ap (cons_option (f (h x))) (filter_map-map f h xs)

pushed_over : {X : Type 0} (ws : List (Bor X)) (w : Bor X) (rest : List X) → map (λ w. w.now) (ws ++ w ∷ []) ++ rest ≡ map (λ w. w.now) ws ++ w.now ∷ rest
pushed_over [] w rest = refl
pushed_over (v ∷ ws) w rest = ap (λ l. v.now ∷ l) (pushed_over ws w rest)

pub one_more : {X : Type 0} (ws vs : List (Bor X)) (w : Bor X) (x : X) (rest all : List X) → vs ≡ ws ++ w ∷ [] → w.now ≡ x → map (λ w. w.now) ws ++ x ∷ rest ≡ all → map (λ w. w.now) vs ++ rest ≡ all
one_more ws vs w x rest all pushed is so_far = ap (λ l. map (λ w. w.now) l ++ rest) pushed ∙ pushed_over ws w rest ∙ ap (λ y. map (λ w. w.now) ws ++ y ∷ rest) is ∙ so_far

map-map : {X Y Z : Type 0} (f : Y → Z) (h : X → Y) (xs : List X) → map (λ x. f (h x)) xs ≡ map f (map h xs)
map-map f h [] = refl
map-map f h (x ∷ xs) = ap (λ l. f (h x) ∷ l) (map-map f h xs)

pub values_of_entries : {X Y Z : Type 0} (f : X → Z) (m : BTreeMap (String Y) X) → tree.IsOrdered string_cmp m → map (λ e. f e.1) m.entries ≡ finmap.values (by_text f m.entries)
values_of_entries f m ordered = map-map f (λ e. e.1) m.entries ∙ values-by_text f m ordered
