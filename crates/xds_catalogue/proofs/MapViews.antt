-- Ordered maps, seen as finite maps.
use Rattle.std.proofs.Common.{◌≡◌, ◌≢◌, ℕ, ◌≤◌, inl, inr, List, [], ◌∷◌, map, String, Bool, true, false, cond, Option, Some, None, Bor, BTreeMap, Ordering, refl, sym, ap, subst, ◌∙◌, arith}
use Rattle.std.specs.Prelude.{bytes_eq, is_some, IfSome, if◌then◌else◌}
use Rattle.std.specs.Option.{option_map, option_copied}
use Rattle.std.specs.declared.cmp.Ordering.TheVariants.{Less, Equal, Greater}
use Rattle.std.specs.declared.ops.Bound.TheVariants.{Included, Unbounded}
use Rattle.std.specs.Ordering.{is_eq, is_gt, nat_cmp}
use Rattle.std.specs.Cmp.{nat_cmp_total, nat_cmp_is, eq_by_cmp_equiv}
use Rattle.std.specs.Cmp.Lexicographic.{slice_cmp}
use Rattle.std.specs.String.{string_bytes, string_cmp}
use Rattle.std.specs.List.{AllZip, slice_get}
use Rattle.std.specs.Map.{lookup}
use Rattle.std.specs.BTreeMap as tree
use Rattle.std.specs.BTreeMap.{is_at}
use Rattle.std.specs.BTreeMap.Range.{IsLeBy, IsInRange, IsEntryInRange, IsRangeOf}
use Rattle.std.specs.FinMap as finmap
use Rattle.std.specs.FinMap.{FinMap, nat_cmp-IsAntisymmetric}
use Rattle.std.proofs.lemmas.Bool.{cases_lt, true≢false}
use Rattle.std.proofs.lemmas.Cmp.{nat_list_cmp_total}
use Rattle.std.proofs.lemmas.Map.Text.{btree_map_updates_text}
use Rattle.xds_resource.specs.Writes.{text_cmp}
use Rattle.xds_resource.proofs.WriteTies.{text_cmp-IsAntisymmetric}
use Rattle.xds_catalogue.specs.Tables.{NumberedWrite, Named, with_former, by_text, by_number, named_by, with_name, without_name}
use Rattle.xds_catalogue.proofs.Catalogues.{tie-bytes_eq}

map_cond : {X Z : Type 0} (f : X → Z) (b : Bool) (x : X) (o : Option X) → cond b (Some (f x)) (option_map f o) ≡ option_map f (cond b (Some x) o)
map_cond f true x o = refl
map_cond f false x o = refl

map_cond_none : {X Z : Type 0} (f : X → Z) (b : Bool) (o : Option X) → cond b None (option_map f o) ≡ option_map f (cond b None o)
map_cond_none f true o = refl
map_cond_none f false o = refl

pub read_map : {X Z : Type 0} (f : X → Z) (o : Option (Bor X)) → option_map (λ e. f e.now) o ≡ option_map f (option_copied o)
read_map f None = refl
read_map f (Some e) = refl

find-by_text : {X Y Z : Type 0} (f : X → Z) (es : List (String Y × X)) (q : List ℕ) → finmap.find text_cmp q (map (λ e. (string_bytes e.0, f e.1)) es) ≡ option_map f (lookup (is_at (λ k. text_cmp q (string_bytes k))) es)
find-by_text f [] q = refl
find-by_text f (e ∷ es) q = ap (cond (is_eq (text_cmp q (string_bytes e.0))) (Some (f e.1))) (find-by_text f es q) ∙ map_cond f (is_eq (text_cmp q (string_bytes e.0))) e.1 _

-- a look-up by a text
pub get-by_text : {X Y Z : Type 0} (f : X → Z) (m : BTreeMap (String Y) X) (q : List ℕ) → finmap.get (by_text f m.entries) q ≡ option_map f (tree.get_by_text m q)
get-by_text f m q = finmap.get-from_entries nat_list_cmp_total (map (λ e. (string_bytes e.0, f e.1)) m.entries) q ∙ find-by_text f m.entries q

-- a change at a text
pub by_text-insert : {X Y Z : Type 0} (f : X → Z) (m n : BTreeMap (String Y) X) (bs : List ℕ) (v : X) → tree.UpdatesBy string_cmp (λ k. slice_cmp nat_cmp bs (string_bytes k)) m n (Some v)
    → by_text f n.entries ≡ finmap.insert (by_text f m.entries) bs (f v)
by_text-insert f m n bs v updates =
    finmap.same_map nat_list_cmp_total text_cmp-IsAntisymmetric _ _ (λ q. get-by_text f n q ∙ ap (option_map f) (btree_map_updates_text bs m n (Some v) updates q)
    ∙ sym (map_cond f (bytes_eq bs q) v (tree.get_by_text m q)) ∙ (λ i. cond (sym (tie-bytes_eq q bs) i) (Some (f v)) (sym (get-by_text f m q) i)) ∙ sym (finmap.get-insert nat_list_cmp_total (by_text f m.entries) bs (f v) q))

pub by_text-remove : {X Y Z : Type 0} (f : X → Z) (m n : BTreeMap (String Y) X) (bs : List ℕ) → tree.UpdatesBy string_cmp (λ k. slice_cmp nat_cmp bs (string_bytes k)) m n None
    → by_text f n.entries ≡ finmap.remove (by_text f m.entries) bs
by_text-remove f m n bs updates =
    finmap.same_map nat_list_cmp_total text_cmp-IsAntisymmetric _ _ (λ q. get-by_text f n q ∙ ap (option_map f) (btree_map_updates_text bs m n None updates q)
    ∙ sym (map_cond_none f (bytes_eq bs q) (tree.get_by_text m q)) ∙ (λ i. cond (sym (tie-bytes_eq q bs) i) None (sym (get-by_text f m q) i)) ∙ sym (finmap.get-remove nat_list_cmp_total (by_text f m.entries) bs q))

find-by_number : {X Z : Type 0} (f : X → Z) (es : List (ℕ × X)) (k : ℕ) → finmap.find nat_cmp k (map (λ e. (e.0, f e.1)) es) ≡ option_map f (lookup (is_at (nat_cmp k)) es)
find-by_number f [] k = refl
find-by_number f (e ∷ es) k = ap (cond (is_eq (nat_cmp k e.0)) (Some (f e.1))) (find-by_number f es k) ∙ map_cond f (is_eq (nat_cmp k e.0)) e.1 _

-- the same with numbers
pub get-by_number : {X Z : Type 0} (f : X → Z) (m : BTreeMap ℕ X) (k : ℕ) → finmap.get (by_number f m.entries) k ≡ option_map f (tree.get nat_cmp m k)
get-by_number f m k = finmap.get-from_entries nat_cmp_total (map (λ e. (e.0, f e.1)) m.entries) k ∙ find-by_number f m.entries k

pub by_number-insert : {X Z : Type 0} (f : X → Z) (m n : BTreeMap ℕ X) (k : ℕ) (v : X) → tree.Updates nat_cmp m n k (Some v) → by_number f n.entries ≡ finmap.insert (by_number f m.entries) k (f v)
by_number-insert f m n k v updates =
    finmap.same_map nat_cmp_total nat_cmp-IsAntisymmetric _ _ (λ q. get-by_number f n q ∙ ap (option_map f) (updates.0 q) ∙ sym (map_cond f (is_eq (nat_cmp k q)) v (tree.get nat_cmp m q))
    ∙ (λ i. cond ((eq_by_cmp_equiv nat_cmp_total).symm k q i) (Some (f v)) (sym (get-by_number f m q) i)) ∙ sym (finmap.get-insert nat_cmp_total (by_number f m.entries) k (f v) q))

pub by_number-remove : {X Z : Type 0} (f : X → Z) (m n : BTreeMap ℕ X) (k : ℕ) → tree.Updates nat_cmp m n k None → by_number f n.entries ≡ finmap.remove (by_number f m.entries) k
by_number-remove f m n k updates =
    finmap.same_map nat_cmp_total nat_cmp-IsAntisymmetric _ _ (λ q. get-by_number f n q ∙ ap (option_map f) (updates.0 q) ∙ sym (map_cond_none f (is_eq (nat_cmp k q)) (tree.get nat_cmp m q))
    ∙ (λ i. cond ((eq_by_cmp_equiv nat_cmp_total).symm k q i) None (sym (get-by_number f m q) i)) ∙ sym (finmap.get-remove nat_cmp_total (by_number f m.entries) k q))

-- the map from names, after an entry was put there
pub Named-insert : {Y : Type 0} (m n : BTreeMap (String Y) NumberedWrite) (bs : List ℕ) (e : NumberedWrite) → tree.UpdatesBy string_cmp (λ k. slice_cmp nat_cmp bs (string_bytes k)) m n (Some e)
    → named_by n.entries ≡ with_name (named_by m.entries) bs e
Named-insert m n bs e updates = λ i. record { entries = by_text-insert (λ e. e.write) m n bs e updates i; latest = by_text-insert (λ e. e.change) m n bs e updates i }

pub Named-remove : {Y : Type 0} (m n : BTreeMap (String Y) NumberedWrite) (bs : List ℕ) → tree.UpdatesBy string_cmp (λ k. slice_cmp nat_cmp bs (string_bytes k)) m n None
    → named_by n.entries ≡ without_name (named_by m.entries) bs
Named-remove m n bs updates = λ i. record { entries = by_text-remove (λ e. e.write) m n bs updates i; latest = by_text-remove (λ e. e.change) m n bs updates i }

-- the same of clones
pub by_number-clone : {X Z : Type 0} (f : X → Z) (es fs : List (ℕ × X)) → AllZip (λ p q. (q.0 ≡ p.0) × (f q.1 ≡ f p.1)) es fs → by_number f fs ≡ by_number f es
by_number-clone f [] [] h = refl
by_number-clone f [] (q ∷ fs) h = absurd h
by_number-clone f (p ∷ es) [] h = absurd h
by_number-clone f (p ∷ es) (q ∷ fs) h = λ i. finmap.insert (by_number-clone f es fs h.1 i) (h.0.0 i) (h.0.1 i)

pub named_by-clone : {Y : Type 0} (es fs : List (String Y × NumberedWrite)) → AllZip (λ p q. (string_bytes q.0 ≡ string_bytes p.0) × (q.1 ≡ p.1)) es fs → named_by fs ≡ named_by es
named_by-clone es fs h = λ i. record { entries = by_text-clone (λ e. e.write) es fs h i; latest = by_text-clone (λ e. e.change) es fs h i }
  where
    by_text-clone : {Y Z : Type 0} (f : NumberedWrite → Z) (es fs : List (String Y × NumberedWrite)) → AllZip (λ p q. (string_bytes q.0 ≡ string_bytes p.0) × (q.1 ≡ p.1)) es fs → by_text f fs ≡ by_text f es
    by_text-clone f [] [] h = refl
    by_text-clone f [] (q ∷ fs) h = absurd h
    by_text-clone f (p ∷ es) [] h = absurd h
    by_text-clone f (p ∷ es) (q ∷ fs) h = λ i. finmap.insert (by_text-clone f es fs h.1 i) (h.0.0 i) (f (h.0.1 i))

is_some-map : {X Z : Type 0} (f : X → Z) (o : Option X) → is_some (option_map f o) ≡ is_some o
is_some-map f None = refl
is_some-map f (Some x) = refl

-- what stood under a name is put back there, if something stands there now
pub Named-replaced : {Y : Type 0} (m n : BTreeMap (String Y) NumberedWrite) (now : Named) (bs : List ℕ) (e : NumberedWrite) (former : Option NumberedWrite) → named_by m.entries ≡ now → former ≡ Some e
    → is_some (tree.get_by_text m bs) ≡ true → tree.UpdatesBy string_cmp (λ k. slice_cmp nat_cmp bs (string_bytes k)) m n (Some e) → named_by n.entries ≡ with_former now bs former
Named-replaced m n now bs e former is was found updates =
    let stands = ap (λ (n : Named). is_some (finmap.get n.entries bs)) (sym is) ∙ ap is_some (get-by_text (λ e. e.write) m bs) ∙ is_some-map (λ e. e.write) (tree.get_by_text m bs) ∙ found in
    Named-insert m n bs e updates ∙ ap (λ n. with_name n bs e) is ∙ ap (λ b. if b then with_name now bs e else now) (sym stands) ∙ ap (with_former now bs) (sym was)

pub Named-absent : {Y : Type 0} (m n : BTreeMap (String Y) NumberedWrite) (now : Named) (bs : List ℕ) (e : NumberedWrite) (former : Option NumberedWrite) → named_by m.entries ≡ now → former ≡ Some e
    → is_some (tree.get_by_text m bs) ≡ false → n ≡ m → named_by n.entries ≡ with_former now bs former
Named-absent m n now bs e former is was found same =
    let stands = ap (λ (n : Named). is_some (finmap.get n.entries bs)) (sym is) ∙ ap is_some (get-by_text (λ e. e.write) m bs) ∙ is_some-map (λ e. e.write) (tree.get_by_text m bs) ∙ found in
    ap (λ m. named_by m.entries) same ∙ is ∙ ap (λ b. if b then with_name now bs e else now) (sym stands) ∙ ap (with_former now bs) (sym was)

pub Named-cleared : {Y : Type 0} (m n : BTreeMap (String Y) NumberedWrite) (now : Named) (bs : List ℕ) (former : Option NumberedWrite) → named_by m.entries ≡ now → former ≡ None
    → tree.UpdatesBy string_cmp (λ k. slice_cmp nat_cmp bs (string_bytes k)) m n None → named_by n.entries ≡ with_former now bs former
Named-cleared m n now bs former is was updates = Named-remove m n bs updates ∙ ap (λ n. without_name n bs) is ∙ ap (with_former now bs) (sym was)

from_start : (start k : ℕ) → start ≤ k → IsInRange nat_cmp (Included start) Unbounded k
from_start start k h = (not_above (nat_cmp start k) (start_below start k h), tt)
  where
    less_not_greater : Less ≢ Greater
    less_not_greater e = cc

    equal_not_greater : Equal ≢ Greater
    equal_not_greater e = cc

    start_below : (a b : ℕ) → a ≤ b → nat_cmp a b ≢ Greater
    start_below a b h is = elim (cases_lt a b) [
      | inl below ↦ absurd (less_not_greater (nat_cmp_is a b Less below ∙ is))
      | inr above ↦ let same : a ≡ b = omega arith in absurd (equal_not_greater (nat_cmp_is a b Equal same ∙ is))
    ]

    not_above : (r : Ordering) → r ≢ Greater → is_gt r ≡ false
    not_above Less h = refl
    not_above Equal h = refl
    not_above Greater h = absurd (h refl)

-- what a range from a number on begins with
pub first-none : {X Z : Type 0} (f : X → Z) (m : BTreeMap ℕ X) (r : List (ℕ × X)) (now : FinMap nat_cmp Z) (start : ℕ) → by_number f m.entries ≡ now → IsRangeOf nat_cmp (Included start) Unbounded m r → r ≡ []
    → (k : ℕ) → start ≤ k → finmap.get now k ≡ None
first-none f m r now start is range none k within = ap (λ n. finmap.get n k) (sym is) ∙ get-by_number f m k ∙ ap (option_map f) (range.5 none k (from_start start k within))

pub first-found : {X Z : Type 0} (f : X → Z) (m : BTreeMap ℕ X) (r rest : List (ℕ × X)) (now : FinMap nat_cmp Z) (start n : ℕ) (x : X) → by_number f m.entries ≡ now → IsRangeOf nat_cmp (Included start) Unbounded m r → r ≡ (n, x) ∷ rest
    → finmap.get now n ≡ Some (f x)
first-found f m r rest now start n x is range first =
    let entry = subst (λ l. IfSome (slice_get l 0) (IsEntryInRange nat_cmp (Included start) Unbounded m)) first range.1 in
    ap (λ k. finmap.get k n) (sym is) ∙ get-by_number f m n ∙ ap (option_map f) entry.1

pub first-least : {X Z : Type 0} (f : X → Z) (m : BTreeMap ℕ X) (r rest : List (ℕ × X)) (now : FinMap nat_cmp Z) (start n : ℕ) (x : X) → by_number f m.entries ≡ now → IsRangeOf nat_cmp (Included start) Unbounded m r → r ≡ (n, x) ∷ rest
    → (k : ℕ) → start ≤ k → is_some (finmap.get now k) ≡ true → n ≤ k
first-least f m r rest now start n x is range first k within there =
    let here = sym (is_some-map f (tree.get nat_cmp m k)) ∙ sym (ap is_some (get-by_number f m k)) ∙ ap (λ n. is_some (finmap.get n k)) is ∙ there in
    least_at n k (subst (λ l. IfSome (slice_get l 0) (λ e. IsLeBy nat_cmp e.0 k)) first (range.2 k (from_start start k within) here))
  where
    least_at : (a b : ℕ) → is_gt (nat_cmp a b) ≡ false → a ≤ b
    least_at a b h = elim (cases_lt b a) [
      | inl below ↦ absurd (true≢false (ap is_gt (nat_cmp_is a b Greater below) ∙ h))
      | inr within ↦ within
    ]
