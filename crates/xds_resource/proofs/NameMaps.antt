-- Maps from names, and the sorted maps that stand for them.
use Rattle.std.proofs.Common.{inl, inr, ◌≡◌, ℕ, List, [], ◌∷◌, ◌++◌, map, Bool, true, false, cond, ◌||◌, Option, Some, None, String, BTreeMap, refl, sym, ap, ◌∙◌}
use Rattle.std.specs.Prelude.{T, ◌&&◌, string_bytes, bytes_eq, is_some}
use Rattle.std.specs.declared.cmp.Ordering.TheVariants.{Less}
use Rattle.std.specs.Ordering.{nat_cmp, is_lt, is_eq, eq_by_cmp}
use Rattle.std.specs.Option.{option_or}
use Rattle.std.specs.List.{AllByRecursion, list_any, filter}
use Rattle.std.specs.List.Sorted.{IsStrictlySortedBy}
use Rattle.std.specs.Cmp.Lexicographic.{slice_cmp}
use Rattle.std.specs.String.{string_cmp}
use Rattle.std.specs.Map.{lookup}
use Rattle.std.specs.BTreeMap as tree
use Rattle.std.specs.BTreeMap.{is_at}
use Rattle.std.specs.FinMap as finmap
use Rattle.std.specs.FinSet as set
use Rattle.std.proofs.lemmas.List.Folds.{list_any-append}
use Rattle.std.specs.FinMap.Entries.{below_all, is_sorted, same_entries}
use Rattle.std.specs.Borrow.{Bor}
use Rattle.std.proofs.lemmas.Cmp.{nat_list_cmp_total}
use Rattle.std.proofs.lemmas.Map.Text.{is_eq-slice_cmp, btree_map_updates_text}
use Rattle.xds_resource.specs.Writes.{text_cmp}
use Rattle.xds_resource.specs.Names.{pairs, put_some, tabulate}
use Rattle.std.proofs.lemmas.Slice.Eq.{bytes_eq-Decides}
use Rattle.std.proofs.lemmas.Bool.{cases_Bool, false_from_ne_true, true≢false, or_parts}
use Rattle.std.proofs.Math.Bool.{and-false, or-true}
use Rattle.xds_resource.proofs.WriteTies.{text_cmp-IsAntisymmetric}

-- a map as its entries show it
abbrev pub seen : {Y X : Type 0} → BTreeMap (String Y) X → finmap.FinMap text_cmp X
seen m = finmap.from_entries (pairs m.entries)

find-pairs : {Y X : Type 0} (es : List (String Y × X)) (q : List ℕ) → finmap.find text_cmp q (pairs es) ≡ lookup (is_at (λ k. slice_cmp nat_cmp q (string_bytes k))) es
find-pairs [] q = refl
find-pairs (e ∷ es) q = ap (cond (is_eq (text_cmp q (string_bytes e.0))) (Some e.1)) (find-pairs es q)

pub get-seen : {Y X : Type 0} (m : BTreeMap (String Y) X) (q : List ℕ) → finmap.get (seen m) q ≡ tree.get_by_text m q
get-seen m q = finmap.get-from_entries nat_list_cmp_total (pairs m.entries) q ∙ find-pairs m.entries q

pub same_names : {X : Type 0} (m n : finmap.FinMap text_cmp X) → ((q : List ℕ) → finmap.get m q ≡ finmap.get n q) → m ≡ n
same_names m n same = finmap.same_map nat_list_cmp_total text_cmp-IsAntisymmetric m n same

-- ---- texts

pub bytes_eq_same : (x : List ℕ) → bytes_eq x x ≡ true
bytes_eq_same x = (bytes_eq-Decides x x).1 refl

pub bytes_eq_tells : (x y : List ℕ) → bytes_eq x y ≡ true → x ≡ y
bytes_eq_tells x y e = (bytes_eq-Decides x y).0 e

pub bytes_eq_swap : (x y : List ℕ) → bytes_eq x y ≡ bytes_eq y x
bytes_eq_swap x y =
    elim (cases_Bool (bytes_eq y x)) [
      | inl same ↦ (bytes_eq-Decides x y).1 (sym ((bytes_eq-Decides y x).0 same)) ∙ sym same
      | inr other ↦ false_from_ne_true _ (λ same. true≢false (sym ((bytes_eq-Decides y x).1 (sym ((bytes_eq-Decides x y).0 same))) ∙ other)) ∙ sym other
    ]

-- ---- what a map has after a change

pub get-insert : {X : Type 0} (m : finmap.FinMap text_cmp X) (k : List ℕ) (x : X) (q : List ℕ) → finmap.get (finmap.insert m k x) q ≡ cond (bytes_eq k q) (Some x) (finmap.get m q)
get-insert m k x q = finmap.get-insert nat_list_cmp_total m k x q ∙ ap (λ b. cond b (Some x) (finmap.get m q)) (is_eq-slice_cmp q k ∙ bytes_eq_swap q k)

pub get-remove : {X : Type 0} (m : finmap.FinMap text_cmp X) (k q : List ℕ) → finmap.get (finmap.remove m k) q ≡ cond (bytes_eq k q) None (finmap.get m q)
get-remove m k q = finmap.get-remove nat_list_cmp_total m k q ∙ ap (λ b. cond b None (finmap.get m q)) (is_eq-slice_cmp q k ∙ bytes_eq_swap q k)

-- a map after a value was put at a key
pub seen-inserted : {Y X : Type 0} (m n : BTreeMap (String Y) X) (k : String Y) (x : X) → tree.Updates string_cmp m n k (Some x) → seen n ≡ finmap.insert (seen m) (string_bytes k) x
seen-inserted m n k x u = same_names _ _ (λ q. get-seen n q ∙ btree_map_updates_text (string_bytes k) m n (Some x) u q
    ∙ ap (cond (bytes_eq (string_bytes k) q) (Some x)) (sym (get-seen m q)) ∙ sym (get-insert (seen m) (string_bytes k) x q))

-- and after a text was taken out
pub seen-removed : {Y X : Type 0} (m n : BTreeMap (String Y) X) (k : List ℕ) → tree.UpdatesBy string_cmp (λ s. slice_cmp nat_cmp k (string_bytes s)) m n None → seen n ≡ finmap.remove (seen m) k
seen-removed m n k u = same_names _ _ (λ q. get-seen n q ∙ btree_map_updates_text k m n None u q
    ∙ ap (cond (bytes_eq k q) None) (sym (get-seen m q)) ∙ sym (get-remove (seen m) k q))

-- ---- in the order of names

pub both_true : (a b : Bool) → a ≡ true → T b → T (a && b)
both_true true b e h = h
both_true false b e h = absurd cc

pub both_hold : (a b : Bool) → T a → T b → T (a && b)
both_hold true b h k = k
both_hold false b h k = absurd h

below_pairs : {Y X : Type 0} (k : String Y) (es : List (String Y × X)) → AllByRecursion (λ y. string_cmp k y ≡ Less) (map (λ e. e.0) es) → T (below_all text_cmp (string_bytes k) (pairs es))
below_pairs k [] h = tt
below_pairs k (e ∷ es) h = both_true (is_lt (text_cmp (string_bytes k) (string_bytes e.0))) (below_all text_cmp (string_bytes k) (pairs es)) (ap is_lt h.0) (below_pairs k es h.1)

sorted_pairs : {Y X : Type 0} (es : List (String Y × X)) → IsStrictlySortedBy string_cmp (map (λ e. e.0) es) → T (is_sorted text_cmp (pairs es))
unfolding IsStrictlySortedBy
sorted_pairs [] h = tt
sorted_pairs (e ∷ es) h = both_hold (below_all text_cmp (string_bytes e.0) (pairs es)) (is_sorted text_cmp (pairs es)) (below_pairs e.0 es h.0) (sorted_pairs es h.1)

-- the entries of a map are its pairs
pub entries-seen : {Y X : Type 0} (m : BTreeMap (String Y) X) → tree.IsOrdered string_cmp m → pairs m.entries ≡ finmap.entries (seen m)
entries-seen m sorted =
    same_entries text_cmp nat_list_cmp_total text_cmp-IsAntisymmetric (pairs m.entries) (finmap.entries (seen m)) (sorted_pairs m.entries sorted) (finmap.entries_sorted (seen m))
    (λ q. sym (finmap.get-from_entries nat_list_cmp_total (pairs m.entries) q) ∙ finmap.get-entries (seen m) q)

-- ---- maps that are tabulated

abbrev pub has_text : List (List ℕ) → List ℕ → Bool
has_text texts q = list_any (bytes_eq q) texts

pub cond_same : {X : Type 0} (b : Bool) (x : X) → cond b x x ≡ x
cond_same true x = refl
cond_same false x = refl

pub get-put_some : {X : Type 0} (m : finmap.FinMap text_cmp X) (k : List ℕ) (o : Option X) (q : List ℕ) → finmap.get (put_some m k o) q ≡ cond (bytes_eq k q) (option_or o (finmap.get m q)) (finmap.get m q)
get-put_some m k None q = sym (cond_same (bytes_eq k q) (finmap.get m q))
get-put_some m k (Some x) q = get-insert m k x q

or_again : {X : Type 0} (b : Bool) (o : Option X) → option_or o (cond b o None) ≡ o
or_again true None = refl
or_again false None = refl
or_again true (Some x) = refl
or_again false (Some x) = refl

tabulate_step : {X : Type 0} (here later : Bool) (o p : Option X) → (here ≡ true → o ≡ p) → cond here (option_or o (cond later p None)) (cond later p None) ≡ cond (here || later) p None
tabulate_step true later o p same = ap (λ x. option_or x (cond later p None)) (same refl) ∙ or_again later p
tabulate_step false later o p same = refl

-- a tabulated map has f at each of the names
pub get-tabulate : {X : Type 0} (f : List ℕ → Option X) (names : List (List ℕ)) (q : List ℕ) → finmap.get (tabulate f names) q ≡ cond (has_text names q) (f q) None
get-tabulate f [] q = finmap.get-empty text_cmp q
get-tabulate f (n ∷ ns) q =
    get-put_some (tabulate f ns) n (f n) q ∙ ap (λ r. cond (bytes_eq n q) (option_or (f n) r) r) (get-tabulate f ns q)
    ∙ tabulate_step (bytes_eq n q) (has_text ns q) (f n) (f q) (λ same. ap f (bytes_eq_tells n q same)) ∙ ap (λ b. cond (b || has_text ns q) (f q) None) (bytes_eq_swap n q)

only_there : {X : Type 0} (b : Bool) (o : Option X) → (b ≡ false → o ≡ None) → cond b o None ≡ o
only_there true o absent = refl
only_there false o absent = sym (absent refl)

-- and it is f, if f has nothing at other names
pub get-tabulated : {X : Type 0} (f : List ℕ → Option X) (names : List (List ℕ)) (q : List ℕ) → (has_text names q ≡ false → f q ≡ None) → finmap.get (tabulate f names) q ≡ f q
get-tabulated f names q absent = get-tabulate f names q ∙ only_there (has_text names q) (f q) absent

-- ---- the names of a map

has_text-by_order : (xs : List (List ℕ)) (q : List ℕ) → list_any (eq_by_cmp text_cmp q) xs ≡ has_text xs q
has_text-by_order [] q = refl
has_text-by_order (x ∷ xs) q = (λ i. is_eq-slice_cmp q x i || has_text-by_order xs q i)

pub has_text-keys : {X : Type 0} (m : finmap.FinMap text_cmp X) (q : List ℕ) → has_text (finmap.keys m) q ≡ is_some (finmap.get m q)
has_text-keys m q = sym (has_text-by_order (finmap.keys m) q) ∙ sym (finmap.contains_key-keys m q)

pub has_text-items : (s : set.FinSet text_cmp) (q : List ℕ) → has_text (set.items s) q ≡ set.contains s q
has_text-items s q = sym (has_text-by_order (set.items s) q) ∙ sym (set.contains-items s q)

has_text-append : (xs ys : List (List ℕ)) (q : List ℕ) → has_text (xs ++ ys) q ≡ (has_text xs q || has_text ys q)
has_text-append xs ys q = list_any-append (bytes_eq q) xs ys

-- a name that is in none of two lists
pub in_neither : (xs ys : List (List ℕ)) (q : List ℕ) → has_text (xs ++ ys) q ≡ false → (has_text xs q ≡ false) × (has_text ys q ≡ false)
in_neither xs ys q e = or_parts _ _ (sym (has_text-append xs ys q) ∙ e)

pub none_by_is_some : {X : Type 0} (o : Option X) → is_some o ≡ false → o ≡ None
none_by_is_some None e = refl
none_by_is_some (Some x) e = absurd cc

-- a map has nothing at a name that isn't among its names
pub absent_key : {X : Type 0} (m : finmap.FinMap text_cmp X) (q : List ℕ) → has_text (finmap.keys m) q ≡ false → finmap.get m q ≡ None
absent_key m q e = none_by_is_some (finmap.get m q) (sym (has_text-keys m q) ∙ e)

-- ---- changes at each of some names

-- what is taken out at one name, and then at the others
pub removed_step : {X : Type 0} (here later : Bool) (o : Option X) → cond later None (cond here None o) ≡ cond (here || later) None o
removed_step true later o = cond_same later None
removed_step false later o = refl

-- what was put at a name that is listed is taken out with what is listed
pub added_step : {X : Type 0} (listed here : Bool) (x o : Option X) → (here ≡ true → listed ≡ true) → cond listed None (cond here x o) ≡ cond listed None o
added_step true here x o in_it = refl
added_step false true x o in_it = let listed = in_it refl in absurd cc
added_step false false x o in_it = refl

-- texts that are borrowed
abbrev pub texts_of : List (Bor (List ℕ)) → List (List ℕ)
texts_of ns = map (λ n. n.now) ns

pub listed_behind : (xs : List (Bor (List ℕ))) (x : Bor (List ℕ)) (ys : List (Bor (List ℕ))) → has_text (texts_of (xs ++ x ∷ ys)) x.now ≡ true
listed_behind [] x ys = λ i. bytes_eq_same x.now i || has_text (texts_of ys) x.now
listed_behind (y ∷ xs) x ys = ap (λ b. bytes_eq x.now y.now || b) (listed_behind xs x ys) ∙ or-true (bytes_eq x.now y.now)

filter_step : (p : List ℕ → Bool) (n : List ℕ) (ns : List (List ℕ)) (q : List ℕ) (passes here : Bool) → p n ≡ passes → bytes_eq q n ≡ here → (here ≡ true → p q ≡ passes)
    → has_text (filter p ns) q ≡ (has_text ns q && p q) → has_text (cond passes (n ∷ filter p ns) (filter p ns)) q ≡ ((here || has_text ns q) && p q)
filter_step p n ns q true true is same there rest = (λ i. same i || has_text (filter p ns) q) ∙ sym (there refl)
filter_step p n ns q true false is other there rest = (λ i. other i || has_text (filter p ns) q) ∙ rest
filter_step p n ns q false true is same there rest = rest ∙ ap (λ b. has_text ns q && b) (there refl) ∙ and-false (has_text ns q) ∙ sym (there refl)
filter_step p n ns q false false is other there rest = rest

-- the texts that pass a test are those of the list that pass it
pub filtered : (p : List ℕ → Bool) (ns : List (List ℕ)) (q : List ℕ) → has_text (filter p ns) q ≡ (has_text ns q && p q)
filtered p [] q = refl
filtered p (n ∷ ns) q =
    filter_step p n ns q (p n) (bytes_eq q n) refl refl (λ same. ap p (bytes_eq_tells q n same)) (filtered p ns q)
