-- Sets of numbers, and the lists in ascending order that stand for them.
use Rattle.std.proofs.Common.{◌≡◌, ◌≢◌, ⊎_elim, ℕ, ◌+◌, ◌*◌, ◌%◌, ◌^◌, ◌<◌, ◌≤◌, List, [], ◌∷◌, ◌++◌, length, take, drop, Bool, true, false, cond, ◌||◌, ◌==◌, eqb, get_or, Result, Ok, Err, refl, sym, ap, subst, ◌∙◌, arith, IsPermutation, IsSorted}
use Rattle.std.specs.Prelude.{is_ok, MatchBool, bit_xor}
use Rattle.std.specs.Bool.{OnTrue}
use Rattle.std.specs.List.{list_any, list_all, insert, dedup, Contains}
use Rattle.std.specs.List.Retain.{IsFiltered, DiffersFromLast}
use Rattle.std.specs.List.Sorted.{IsNonDecreasing, IsBinarySearchResult}
use Rattle.std.specs.Ordering.{nat_cmp, eq_by_cmp}
use Rattle.std.specs.Cmp.{nat_cmp_total, unsigned_tied}
use Rattle.std.specs.FinSet as set
use Rattle.std.specs.FinSet.{FinSet, nat_cmp-IsAntisymmetric}
use Rattle.std.proofs.lemmas.Bool.{eqb-true, eq-eqb, ne_eqb, cases_lt, or_cases, or_left, or_right, both_ways}
use Rattle.std.proofs.lemmas.List.{take_more, take_all, get_or_default, at_drop_more, at_drop_all}
use Rattle.std.proofs.lemmas.List.Filters.{dedup_is}
use Rattle.std.proofs.lemmas.List.Folds.{list_any_at, list_any_none, list_any-append, Any-from_list_any}
use Rattle.std.proofs.lemmas.List.Sums.{AllPass-from_list_all, list_all-from_AllPass}
use Rattle.std.proofs.lemmas.List.Kept.{Contains-dedup_nat, Contains-from_dedup}
use Rattle.std.proofs.lemmas.List.Sorted.{searched, list_any-IsPermutation, IsPermutation-insert, IsNonDecreasingBy-insert, IsNonDecreasingBy-from_sort, IsNonDecreasingBy-from_all_adjacent}
use Rattle.std.proofs.lemmas.Map.Keys.{IsStrictlyIncreasing-dedup}
use Rattle.xds_resource.proofs.BoolsAndLists.{true_together}
use Rattle.xds_node.specs.Prints.{mixed, shares}

-- ---- which numbers a set has

pub same : (s t : FinSet nat_cmp) → ((q : ℕ) → set.contains s q ≡ set.contains t q) → s ≡ t
same = set.same_set nat_cmp_total nat_cmp-IsAntisymmetric

-- the set of a list
abbrev pub of_list : List ℕ → FinSet nat_cmp
of_list xs = set.from_list xs

-- whether a list has a number
abbrev pub among : List ℕ → ℕ → Bool
among xs q = list_any (λ y. eqb y q) xs

pub contains-of_list : (xs : List ℕ) (q : ℕ) → set.contains (of_list xs) q ≡ among xs q
contains-of_list xs q = set.contains-from_list_nat xs q

pub contains-put : (s : FinSet nat_cmp) (x q : ℕ) → set.contains (set.insert s x) q ≡ (eqb q x || set.contains s q)
contains-put s x q = set.contains-insert nat_cmp_total s x q ∙ ap (λ b. b || set.contains s q) (unsigned_tied q x)

pub contains-both : (s t : FinSet nat_cmp) (q : ℕ) → set.contains (set.union s t) q ≡ (set.contains s q || set.contains t q)
contains-both = set.contains-union nat_cmp_total

has_of : (xs : List ℕ) (x : ℕ) → Contains xs x → among xs x ≡ true
has_of xs x there = list_any_at (λ y. eqb y x) xs there.0 x there.1 (eq-eqb (get_or xs there.0 x) x there.2)

of_has : (xs : List ℕ) (x : ℕ) → among xs x ≡ true → Contains xs x
of_has xs x has =
    let one = Any-from_list_any (λ y. eqb y x) xs has in
    (one.0, one.2, get_or_default xs one.0 x one.1 one.2 ∙ one.3 ∙ eqb-true one.1 x one.4)

pub there_already : (s : FinSet nat_cmp) (x : ℕ) → set.contains s x ≡ true → s ≡ set.insert s x
there_already s x has = same _ _ (λ q. true_together _ _ (λ is. contains-put s x q ∙ or_right (eqb q x) (set.contains s q) is)
    (λ is. ⊎_elim (λ tie. ap (set.contains s) (eqb-true q x tie) ∙ has) (λ old. old) (or_cases (eqb q x) (set.contains s q) (sym (contains-put s x q) ∙ is))))

-- ---- a look-up

pub found : (xs : List ℕ) (x : ℕ) (r : Result ℕ ℕ) → IsBinarySearchResult (λ y. nat_cmp y x) xs r → IsNonDecreasing xs → is_ok r ≡ set.contains (of_list xs) x
found xs x (Ok i) h up =
    let at = searched xs x (Ok i) h (λ a b. up a b 0) in
    sym (contains-of_list xs x ∙ list_any_at (λ y. eqb y x) xs i 0 at.0 (eq-eqb (get_or xs i 0) x at.1))
found xs x (Err i) h up =
    let at = searched xs x (Err i) h (λ a b. up a b 0) in
    sym (contains-of_list xs x
    ∙ list_any_none (λ y. eqb y x) xs (λ k d lt. ne_eqb (get_or xs k d) x (λ e.
    ⊎_elim (λ below. omega (arith, at.1 k below, e, get_or_default xs k d 0 lt)) (λ above. omega (arith, at.2 k above lt, e, get_or_default xs k d 0 lt)) (cases_lt k i))))

-- ---- one number more

pub placed : (xs ys : List ℕ) (ok : Bool) (i x : ℕ) → IsBinarySearchResult (λ y. nat_cmp y x) xs (Err i) → IsNonDecreasing xs → ys ≡ cond ok (insert xs i x) xs → IsNonDecreasing ys
placed xs ys true i x h up is =
    let at = searched xs x (Err i) h (λ a b. up a b 0) in
    subst IsNonDecreasing (sym is)
    (IsNonDecreasingBy-insert (λ y. y) xs i x up at.0 (λ k d lt. omega (arith, at.1 k lt, at.0, get_or_default xs k d 0 (omega (arith, lt, at.0))))
    (λ k d le lt. omega (arith, at.2 k le lt, get_or_default xs k d 0 lt)))
placed xs ys false i x h up is = subst IsNonDecreasing (sym is) up

put_in : (xs : List ℕ) (i x : ℕ) → of_list (insert xs i x) ≡ set.insert (of_list xs) x
put_in xs i x = same _ _ (λ q.
    contains-of_list (insert xs i x) q ∙ sym (list_any-IsPermutation (λ y. eqb y q) (x ∷ xs) (insert xs i x) (IsPermutation-insert xs i x)) ∙ sym (contains-of_list (x ∷ xs) q))

pub seen-placed : (xs ys : List ℕ) (s : FinSet nat_cmp) (ok : Bool) (i x : ℕ) → of_list xs ≡ s → ys ≡ cond ok (insert xs i x) xs → OnTrue ok (of_list ys ≡ set.insert s x)
seen-placed xs ys s true i x seen is = ap of_list is ∙ put_in xs i x ∙ ap (λ t. set.insert t x) seen
seen-placed xs ys s false i x seen is = tt

-- ---- those of a list

pub united_none : (s : FinSet nat_cmp) → s ≡ set.union s set.empty
united_none s = same _ _ (λ q. sym (contains-both s set.empty q ∙ true_together _ _ (λ is. ⊎_elim (λ a. a) (λ no. absurd (both_ways _ (set.contains-empty nat_cmp q) no)) (or_cases _ _ is)) (or_left _ _)))

united_put : (s t : FinSet nat_cmp) (x : ℕ) → set.insert (set.union s t) x ≡ set.union s (set.insert t x)
united_put s t x = same _ _ (λ q.
    contains-put (set.union s t) x q ∙ ap (λ b. eqb q x || b) (contains-both s t q) ∙ swapped (eqb q x) (set.contains s q) (set.contains t q)
    ∙ ap (λ b. set.contains s q || b) (sym (contains-put t x q)) ∙ sym (contains-both s (set.insert t x) q)) where
      swapped : (a b c : Bool) → (a || (b || c)) ≡ (b || (a || c))
      swapped true true c = refl
      swapped true false c = refl
      swapped false b c = refl

-- the first of a list, and one more
pub united_more : (s now next : FinSet nat_cmp) (xs : List ℕ) (n d : ℕ) → n < length xs → now ≡ set.union s (of_list (take n xs)) → next ≡ set.insert now (get_or xs n d)
    → next ≡ set.union s (of_list (take (n + 1) xs))
united_more s now next xs n d within so_far put =
    put ∙ ap (λ t. set.insert t (get_or xs n d)) so_far ∙ united_put s (of_list (take n xs)) (get_or xs n d)
    ∙ ap (set.union s) (sym (set.from_list_push nat_cmp_total nat_cmp-IsAntisymmetric (take n xs) (get_or xs n d)) ∙ ap of_list (sym (take_more xs n d within)))

pub united_all : (s now : FinSet nat_cmp) (xs : List ℕ) (n : ℕ) → length xs ≤ n → now ≡ set.union s (of_list (take n xs)) → now ≡ set.union s (of_list xs)
united_all s now xs n all so_far = so_far ∙ ap (λ l. set.union s (of_list l)) (take_all n xs all)

-- ---- a list that is sorted, and each number of it once

pub sorted_up : (xs : List ℕ) → IsSorted nat_cmp xs → IsNonDecreasing xs
sorted_up xs up = IsNonDecreasingBy-from_sort (λ y. y) xs up

pub seen-shuffled : (xs ys : List ℕ) → IsPermutation xs ys → of_list ys ≡ of_list xs
seen-shuffled xs ys shuffled = same _ _ (λ q. contains-of_list ys q ∙ sym (list_any-IsPermutation (λ y. eqb y q) xs ys shuffled) ∙ sym (contains-of_list xs q))

pub once_up : (xs ys : List ℕ) → IsSorted nat_cmp xs → IsFiltered (DiffersFromLast eqb) [] xs ys → IsNonDecreasing ys
once_up xs ys up once =
    subst IsNonDecreasing (sym (dedup_is eqb xs ys once)) (IsNonDecreasingBy-from_all_adjacent (λ y. y) (dedup eqb xs) (λ k d lt.
    let rises = IsStrictlyIncreasing-dedup xs up k lt in
    omega (arith, rises, get_or_default (dedup eqb xs) k d 0 (omega (arith, lt)), get_or_default (dedup eqb xs) (k + 1) d 0 lt)))

seen-once : (xs : List ℕ) → of_list (dedup eqb xs) ≡ of_list xs
seen-once xs = same _ _ (λ q.
    contains-of_list (dedup eqb xs) q
    ∙ true_together _ _ (λ is. has_of xs q (Contains-from_dedup eqb xs q (of_has _ q is))) (λ is. has_of _ q (Contains-dedup_nat xs q (of_has xs q is)))
    ∙ sym (contains-of_list xs q))

seen-joined : (xs ys : List ℕ) → of_list (xs ++ ys) ≡ set.union (of_list xs) (of_list ys)
seen-joined xs ys = same _ _ (λ q.
    contains-of_list (xs ++ ys) q ∙ list_any-append (λ y. eqb y q) xs ys ∙ (λ i. sym (contains-of_list xs q) i || sym (contains-of_list ys q) i)
    ∙ sym (contains-both (of_list xs) (of_list ys) q))

pub seen-united : (xs ys all sorted once : List ℕ) (s t : FinSet nat_cmp) → of_list xs ≡ s → of_list ys ≡ t → all ≡ xs ++ ys → IsPermutation all sorted → IsFiltered (DiffersFromLast eqb) [] sorted once
    → of_list once ≡ set.union s t
seen-united xs ys all sorted once s t one other joined shuffled alone =
    ap of_list (dedup_is eqb sorted once alone) ∙ seen-once sorted ∙ seen-shuffled all sorted shuffled ∙ ap of_list joined ∙ seen-joined xs ys ∙ (λ i. set.union (one i) (other i))

-- ---- none at all

pub empty_or_not : (xs : List ℕ) (s : FinSet nat_cmp) (b : Bool) → of_list xs ≡ s → b ≡ (length xs == 0) → MatchBool b (s ≡ set.empty) (s ≢ set.empty)
empty_or_not [] s b seen is = subst (λ a. MatchBool a (s ≡ set.empty) (s ≢ set.empty)) (sym (is ∙ eq-eqb 0 0 refl)) (sym seen)
empty_or_not (x ∷ xs) s b seen is =
    subst (λ a. MatchBool a (s ≡ set.empty) (s ≢ set.empty)) (sym (is ∙ ne_eqb (length (x ∷ xs)) 0 (λ e. omega (arith, e))))
    (λ none. both_ways (set.contains set.empty x) (set.contains-empty nat_cmp x)
    (ap (λ t. set.contains t x) (sym (seen ∙ none)) ∙ contains-put (of_list xs) x x ∙ or_left (eqb x x) (set.contains (of_list xs) x) (eq-eqb x x refl)))

-- ---- what two sets share

pub shares_it : (a b : FinSet nat_cmp) (p : ℕ) → set.contains a p ≡ true → set.contains b p ≡ true → shares a b ≡ true
shares_it a b p one other =
    let there = Any-from_list_any (eq_by_cmp nat_cmp p) (set.items b) (sym (set.contains-items b p) ∙ other) in
    let is : p ≡ there.1 = eqb-true p there.1 (sym (unsigned_tied p there.1) ∙ there.4) in
    list_any_at (set.contains a) (set.items b) there.0 there.1 there.2 (ap (set.contains a) (there.3 ∙ sym is) ∙ one)

shared_by : (a b : FinSet nat_cmp) → shares a b ≡ true → (p : ℕ) × (set.contains a p ≡ true) × (set.contains b p ≡ true)
shared_by a b is =
    let there = Any-from_list_any (set.contains a) (set.items b) is in
    let x = there.1 in (
      x,
      there.4,
      set.contains-items b x ∙ list_any_at (eq_by_cmp nat_cmp x) (set.items b) there.0 x there.2
          (ap (eq_by_cmp nat_cmp x) there.3 ∙ unsigned_tied x x ∙ eq-eqb x x refl),
    )

pub any_shares : (a : FinSet nat_cmp) (xs : List ℕ) → list_any (set.contains a) xs ≡ shares a (of_list xs)
any_shares a xs = true_together _ _
    (λ is.
    let there = Any-from_list_any (set.contains a) xs is in
    shares_it a (of_list xs) there.1 there.4
    (contains-of_list xs there.1 ∙ list_any_at (λ y. eqb y there.1) xs there.0 there.1 there.2 (eq-eqb _ _ there.3)))
    (λ is.
    let p = shared_by a (of_list xs) is in
    let there = of_has xs p.0 (sym (contains-of_list xs p.0) ∙ p.2) in
    list_any_at (set.contains a) xs there.0 p.0 there.1 (ap (set.contains a) there.2 ∙ p.1))

pub all_within : (a : FinSet nat_cmp) (xs : List ℕ) → list_all (set.contains a) xs ≡ set.is_subset (of_list xs) a
all_within a xs = true_together _ _
    (λ is. set.contains-is_subset nat_cmp_total (of_list xs) a (λ q has.
    let there = of_has xs q (sym (contains-of_list xs q) ∙ has) in
    ap (set.contains a) (sym there.2) ∙ AllPass-from_list_all (set.contains a) xs is there.0 q there.1))
    (λ is. list_all-from_AllPass (set.contains a) xs (λ k d lt.
    set.is_subset-contains nat_cmp_total (of_list xs) a is (get_or xs k d)
    (contains-of_list xs (get_or xs k d) ∙ list_any_at (λ y. eqb y (get_or xs k d)) xs k d lt (eq-eqb _ _ refl))))

-- ---- fingerprints

mixed_more : (print b : ℕ) (bs : List ℕ) → mixed print (b ∷ bs) ≡ mixed (bit_xor print b * 1099511628211 % 2 ^ 64) bs
unfolding mixed
mixed_more print b bs = refl

mixed_done : (print : ℕ) → mixed print [] ≡ print
unfolding mixed
mixed_done print = refl

-- a byte more, of those that are left
pub mixed_step : (print all : ℕ) (xs : List ℕ) (i b d : ℕ) → i < length xs → b ≡ get_or xs i d → mixed print (drop i xs) ≡ all
    → mixed (bit_xor print b * 1099511628211 % 2 ^ 64) (drop (i + 1) xs) ≡ all
mixed_step print all xs i b d within is so_far =
    ap (λ y. mixed (bit_xor print y * 1099511628211 % 2 ^ 64) (drop (i + 1) xs)) is ∙ sym (at_drop_more (mixed print) xs i d within ∙ mixed_more print (get_or xs i d) (drop (i + 1) xs)) ∙ so_far

pub mixed_end : (print all : ℕ) (xs : List ℕ) (i : ℕ) → length xs ≤ i → mixed print (drop i xs) ≡ all → print ≡ all
mixed_end print all xs i end so_far = sym (at_drop_all (mixed print) xs i end ∙ mixed_done print) ∙ so_far
