-- Maps from numbers, and the ordered maps that stand for them.
use Rattle.std.proofs.Common.{◌≡◌, ℕ, List, [], ◌∷◌, map, Bool, true, false, cond, Option, Some, None, BTreeMap, refl, sym, ap, ◌∙◌}
use Rattle.std.specs.Prelude.{T, is_some}
use Rattle.std.specs.declared.cmp.Ordering.TheVariants.{Less}
use Rattle.std.specs.Option.{option_map, option_or}
use Rattle.std.specs.Ordering.{nat_cmp, is_lt, is_eq}
use Rattle.std.specs.Cmp.{nat_cmp_total}
use Rattle.std.specs.List.Sorted.{IsStrictlySortedBy}
use Rattle.std.specs.List.{AllByRecursion}
use Rattle.std.specs.BTreeMap as tree
use Rattle.std.specs.FinMap as finmap
use Rattle.std.specs.FinMap.{nat_cmp-IsAntisymmetric}
use Rattle.std.specs.FinMap.Entries.{below_all, is_sorted, same_entries}
use Rattle.xds_resource.proofs.MadeMaps.{less_is_no_tie}
use Rattle.xds_catalogue.specs.Tables.{by_number}
use Rattle.xds_catalogue.proofs.Lookups.{remove-none, tie_told}
use Rattle.xds_catalogue.proofs.MapViews.{get-by_number, by_number-insert, by_number-remove}
use Rattle.xds_resource.proofs.NameMaps.{none_by_is_some, both_true, both_hold}
use Rattle.xds_resource.proofs.BoolsAndLists.{holds_first, holds_second, option_or-None}

-- a map as its entries show it
abbrev pub numbered : {X : Type 0} → BTreeMap ℕ X → finmap.FinMap nat_cmp X
numbered m = by_number (λ v. v) m.entries

itself : {X : Type 0} (o : Option X) → option_map (λ v. v) o ≡ o
itself None = refl
itself (Some x) = refl

pub get-numbered : {X : Type 0} (m : BTreeMap ℕ X) (k : ℕ) → finmap.get (numbered m) k ≡ tree.get nat_cmp m k
get-numbered m k = get-by_number (λ v. v) m k ∙ itself (tree.get nat_cmp m k)

pub numbered-insert : {X : Type 0} (m n : BTreeMap ℕ X) (k : ℕ) (v : X) → tree.Updates nat_cmp m n k (Some v) → numbered n ≡ finmap.insert (numbered m) k v
numbered-insert m n k v updates = by_number-insert (λ v. v) m n k v updates

pub numbered-remove : {X : Type 0} (m n : BTreeMap ℕ X) (k : ℕ) → tree.Updates nat_cmp m n k None → numbered n ≡ finmap.remove (numbered m) k
numbered-remove m n k updates = by_number-remove (λ v. v) m n k updates

-- a number that isn't there
pub remove_absent : {X : Type 0} (m : finmap.FinMap nat_cmp X) (k : ℕ) → is_some (finmap.get m k) ≡ false → finmap.remove m k ≡ m
remove_absent m k e = remove-none nat_cmp_total nat_cmp-IsAntisymmetric m k (none_by_is_some (finmap.get m k) e)

-- ---- a map that is made again

abbrev pub plain : {X : Type 0} → List (ℕ × X) → List (ℕ × X)
plain es = map (λ e. (e.0, e.1)) es

plain_is : {X : Type 0} (es : List (ℕ × X)) → plain es ≡ es
plain_is [] = refl
plain_is (e ∷ es) = λ i. e ∷ plain_is es i

below_entries : {X : Type 0} (k : ℕ) (es : List (ℕ × X)) → AllByRecursion (λ y. nat_cmp k y ≡ Less) (map (λ e. e.0) es) → T (below_all nat_cmp k es)
below_entries k [] h = tt
below_entries k (e ∷ es) h = both_true (is_lt (nat_cmp k e.0)) (below_all nat_cmp k es) (ap is_lt h.0) (below_entries k es h.1)

sorted_entries : {X : Type 0} (es : List (ℕ × X)) → IsStrictlySortedBy nat_cmp (map (λ e. e.0) es) → T (is_sorted nat_cmp es)
unfolding IsStrictlySortedBy
sorted_entries [] h = tt
sorted_entries (e ∷ es) h = both_hold (below_all nat_cmp e.0 es) (is_sorted nat_cmp es) (below_entries e.0 es h.0) (sorted_entries es h.1)

pub entries-numbered : {X : Type 0} (m : BTreeMap ℕ X) → tree.IsOrdered nat_cmp m → m.entries ≡ finmap.entries (numbered m)
entries-numbered m sorted =
    same_entries nat_cmp nat_cmp_total nat_cmp-IsAntisymmetric m.entries (finmap.entries (numbered m)) (sorted_entries m.entries sorted) (finmap.entries_sorted (numbered m))
    (λ q. ap (finmap.find nat_cmp q) (sym (plain_is m.entries)) ∙ sym (finmap.get-from_entries nat_cmp_total (plain m.entries) q) ∙ finmap.get-entries (numbered m) q)

-- after each of some entries was put
abbrev pub put_entries : {X : Type 0} → finmap.FinMap nat_cmp X → List (ℕ × X) → finmap.FinMap nat_cmp X
put_entries m [] = m
put_entries m (e ∷ es) = put_entries (finmap.insert m e.0 e.1) es

-- a number that ties with one below another doesn't tie with the other
apart : (k q n : ℕ) → T (is_lt (nat_cmp k n)) → is_eq (nat_cmp q k) ≡ true → is_eq (nat_cmp q n) ≡ false
apart k q n below tie = ap (λ x. is_eq (nat_cmp x n)) (nat_cmp-IsAntisymmetric q k (tie_told (nat_cmp q k) tie)) ∙ less_is_no_tie (nat_cmp k n) below

find_above : {X : Type 0} (k q : ℕ) (es : List (ℕ × X)) → T (below_all nat_cmp k es) → is_eq (nat_cmp q k) ≡ true → finmap.find nat_cmp q es ≡ None
find_above k q [] below tie = refl
find_above k q (e ∷ es) below tie =
    ap (λ b. cond b (Some e.1) (finmap.find nat_cmp q es)) (apart k q e.0 (holds_first (is_lt (nat_cmp k e.0)) (below_all nat_cmp k es) below) tie)
    ∙ find_above k q es (holds_second (is_lt (nat_cmp k e.0)) (below_all nat_cmp k es) below) tie

chosen : {X : Type 0} (b : Bool) (x : X) (later old : Option X) → (b ≡ true → later ≡ None) → option_or later (cond b (Some x) old) ≡ option_or (cond b (Some x) later) old
chosen true x later old none = ap (λ o. option_or o (Some x)) (none refl)
chosen false x later old none = refl

get-put_entries : {X : Type 0} (m : finmap.FinMap nat_cmp X) (es : List (ℕ × X)) (q : ℕ) → T (is_sorted nat_cmp es) → finmap.get (put_entries m es) q ≡ option_or (finmap.find nat_cmp q es) (finmap.get m q)
get-put_entries m [] q sorted = refl
get-put_entries m (e ∷ es) q sorted =
    get-put_entries (finmap.insert m e.0 e.1) es q (holds_second (below_all nat_cmp e.0 es) (is_sorted nat_cmp es) sorted)
    ∙ ap (option_or (finmap.find nat_cmp q es)) (finmap.get-insert nat_cmp_total m e.0 e.1 q)
    ∙ chosen (is_eq (nat_cmp q e.0)) e.1 (finmap.find nat_cmp q es) (finmap.get m q) (find_above e.0 q es (holds_first (below_all nat_cmp e.0 es) (is_sorted nat_cmp es) sorted))

-- a map whose entries were put into an empty one
pub made_again : {X : Type 0} (m : finmap.FinMap nat_cmp X) → put_entries finmap.empty (finmap.entries m) ≡ m
made_again m =
    finmap.same_map nat_cmp_total nat_cmp-IsAntisymmetric _ _ (λ q. get-put_entries finmap.empty (finmap.entries m) q (finmap.entries_sorted m)
    ∙ ap (option_or (finmap.find nat_cmp q (finmap.entries m))) (finmap.get-empty nat_cmp q) ∙ option_or-None (finmap.find nat_cmp q (finmap.entries m)) ∙ sym (finmap.get-entries m q))
