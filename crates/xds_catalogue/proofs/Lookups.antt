-- What finite maps have after a change, and when two changes leave them as they were.
use Rattle.std.proofs.Common.{◌≡◌, ◌≢◌, ◌⊎◌, inl, inr, ℕ, List, [], ◌∷◌, ◌++◌, Bool, true, false, cond, Option, Some, None, Ordering, refl, sym, ap, ◌∙◌}
use Rattle.std.specs.declared.cmp.Ordering.TheVariants.{Less, Equal, Greater}
use Rattle.std.specs.Ordering.{is_eq, eq_by_cmp}
use Rattle.std.specs.Cmp.{IsTotalOrder, eq_by_cmp_equiv}
use Rattle.std.specs.FinMap as finmap
use Rattle.std.specs.FinMap.{FinMap, IsAntisymmetric}
use Rattle.std.proofs.lemmas.Bool.{true≢false}
use Rattle.std.proofs.lemmas.Cmp.{nat_list_cmp_total}
use Rattle.xds_resource.specs.Writes.{text_cmp}
use Rattle.xds_resource.proofs.WriteTies.{text_cmp-IsAntisymmetric}

pub tie_told : (r : Ordering) → is_eq r ≡ true → r ≡ Equal
tie_told Less e = absurd cc
tie_told Equal e = refl
tie_told Greater e = absurd cc

pub twice : {A : Type 0} (b : Bool) (x y z : A) → cond b x (cond b y z) ≡ cond b x z
twice true x y z = refl
twice false x y z = refl

module _ {K X : Type 0} {R : K → K → Ordering} (o : IsTotalOrder R) (same : IsAntisymmetric R) where
  as_before : (m : FinMap R X) (k q : K) (v : Option X) (b : Bool) → eq_by_cmp R q k ≡ b → finmap.get m k ≡ v → cond b v (finmap.get m q) ≡ finmap.get m q
  as_before m k q v true tie has = sym has ∙ ap (finmap.get m) (sym (same q k (tie_told (R q k) tie)))
  as_before m k q v false tie has = refl

  -- what stands there already
  pub insert-same : (m : FinMap R X) (k : K) (v : X) → finmap.get m k ≡ Some v → finmap.insert m k v ≡ m
  insert-same m k v has = finmap.same_map o same _ _ (λ q. finmap.get-insert o m k v q ∙ as_before m k q (Some v) (eq_by_cmp R q k) refl has)

  pub remove-none : (m : FinMap R X) (k : K) → finmap.get m k ≡ None → finmap.remove m k ≡ m
  remove-none m k none = finmap.same_map o same _ _ (λ q. finmap.get-remove o m k q ∙ as_before m k q None (eq_by_cmp R q k) refl none)

  -- a change, and what stood there put back
  pub insert-insert : (m : FinMap R X) (k : K) (x v : X) → finmap.get m k ≡ Some v → finmap.insert (finmap.insert m k x) k v ≡ m
  insert-insert m k x v has =
      finmap.same_map o same _ _ (λ q. finmap.get-insert o (finmap.insert m k x) k v q ∙ ap (cond (eq_by_cmp R q k) (Some v)) (finmap.get-insert o m k x q)
      ∙ twice (eq_by_cmp R q k) (Some v) (Some x) (finmap.get m q) ∙ as_before m k q (Some v) (eq_by_cmp R q k) refl has)

  pub remove-insert : (m : FinMap R X) (k : K) (x : X) → finmap.get m k ≡ None → finmap.remove (finmap.insert m k x) k ≡ m
  remove-insert m k x none =
      finmap.same_map o same _ _ (λ q. finmap.get-remove o (finmap.insert m k x) k q ∙ ap (cond (eq_by_cmp R q k) None) (finmap.get-insert o m k x q)
      ∙ twice (eq_by_cmp R q k) None (Some x) (finmap.get m q) ∙ as_before m k q None (eq_by_cmp R q k) refl none)

find_same_end : {X : Type 0} (xs ys zs : List (List ℕ × X)) → ((q : List ℕ) → finmap.find text_cmp q ys ≡ finmap.find text_cmp q zs) → (q : List ℕ) → finmap.find text_cmp q (xs ++ ys) ≡ finmap.find text_cmp q (xs ++ zs)
find_same_end [] ys zs ends q = ends q
find_same_end (x ∷ xs) ys zs ends q = ap (cond (eq_by_cmp text_cmp q x.0) (Some x.1)) (find_same_end xs ys zs ends q)

-- a map of what a map has
pub from_entries-entries : {X : Type 0} (xs ys : List (List ℕ × X)) → finmap.from_entries {R = text_cmp} (xs ++ finmap.entries (finmap.from_entries {R = text_cmp} ys)) ≡ finmap.from_entries (xs ++ ys)
from_entries-entries xs ys =
    finmap.same_map nat_list_cmp_total text_cmp-IsAntisymmetric _ _
    (λ q. finmap.get-from_entries nat_list_cmp_total (xs ++ finmap.entries (finmap.from_entries ys)) q
    ∙ find_same_end xs _ ys (λ k. sym (finmap.get-entries (finmap.from_entries ys) k) ∙ finmap.get-from_entries nat_list_cmp_total ys k) q
    ∙ sym (finmap.get-from_entries nat_list_cmp_total (xs ++ ys) q))

pub from_own_entries : {X : Type 0} (m : FinMap text_cmp X) → finmap.from_entries (finmap.entries m) ≡ m
from_own_entries m =
    finmap.same_map nat_list_cmp_total text_cmp-IsAntisymmetric _ _ (λ q. finmap.get-from_entries nat_list_cmp_total (finmap.entries m) q ∙ sym (finmap.get-entries m q))

module _ {K X : Type 0} {R : K → K → Ordering} (o : IsTotalOrder R) (same : IsAntisymmetric R) where
  at_insert : (m : FinMap R X) (k : K) (v : X) (q : K) (b : Bool) → eq_by_cmp R q k ≡ b → ((k ≡ q) × (finmap.get (finmap.insert m k v) q ≡ Some v)) ⊎ ((k ≢ q) × (finmap.get (finmap.insert m k v) q ≡ finmap.get m q))
  at_insert m k v q true tie = inl (sym (same q k (tie_told (R q k) tie)), finmap.get-insert o m k v q ∙ ap (λ b. cond b (Some v) (finmap.get m q)) tie)
  at_insert m k v q false tie =
      let itself = (eq_by_cmp_equiv o).refl q in
      inr (λ is. true≢false (sym itself ∙ ap (eq_by_cmp R q) (sym is) ∙ tie), finmap.get-insert o m k v q ∙ ap (λ b. cond b (Some v) (finmap.get m q)) tie)

  -- a key after an insertion: it is the one that was inserted, or it has what it had
  pub get-inserted : (m : FinMap R X) (k : K) (v : X) (q : K) → ((k ≡ q) × (finmap.get (finmap.insert m k v) q ≡ Some v)) ⊎ ((k ≢ q) × (finmap.get (finmap.insert m k v) q ≡ finmap.get m q))
  get-inserted m k v q = at_insert m k v q (eq_by_cmp R q k) refl

  at_remove : (m : FinMap R X) (k : K) (q : K) (b : Bool) → eq_by_cmp R q k ≡ b → ((k ≡ q) × (finmap.get (finmap.remove m k) q ≡ None)) ⊎ ((k ≢ q) × (finmap.get (finmap.remove m k) q ≡ finmap.get m q))
  at_remove m k q true tie = inl (sym (same q k (tie_told (R q k) tie)), finmap.get-remove o m k q ∙ ap (λ b. cond b None (finmap.get m q)) tie)
  at_remove m k q false tie =
      let itself = (eq_by_cmp_equiv o).refl q in
      inr (λ is. true≢false (sym itself ∙ ap (eq_by_cmp R q) (sym is) ∙ tie), finmap.get-remove o m k q ∙ ap (λ b. cond b None (finmap.get m q)) tie)

  -- the same after a removal
  pub get-removed : (m : FinMap R X) (k : K) (q : K) → ((k ≡ q) × (finmap.get (finmap.remove m k) q ≡ None)) ⊎ ((k ≢ q) × (finmap.get (finmap.remove m k) q ≡ finmap.get m q))
  get-removed m k q = at_remove m k q (eq_by_cmp R q k) refl
