-- The best of a list: it is the greatest of its name, and the best of two lists is the greater of the best of each.
use Rattle.std.proofs.Common.{◌⊎◌, inl, inr, ◌≡◌, ◌≢◌, ℕ, ◌<◌, List, [], ◌∷◌, length, get_or, Bool, true, false, zero, suc, arith, refl, sym, ap, ◌∙◌}
use Rattle.std.specs.Prelude.{Option, Some, None, Contains, MatchOption, bytes_eq, if◌then◌else◌}
use Rattle.std.specs.declared.cmp.Ordering.{Ordering}
use Rattle.std.specs.declared.cmp.Ordering.TheVariants.{Less, Equal, Greater}
use Rattle.std.specs.Ordering.{ord_max, is_lt, is_gt, ordering_reverse}
use Rattle.std.specs.Cmp.{IsTotalOrder, upto, tied_itself}
use Rattle.std.specs.FinMap.{IsAntisymmetric}
use Rattle.std.proofs.lemmas.Slice.Eq.{bytes_eq-Decides}
use Rattle.xds_resource.specs.Writes.{StampedWrite, write_cmp}
use Rattle.xds_resource.specs.Best.{greater, if_named, best, IsGreatest, BestIsGreatest, SameWrites, BestOfBoth}
use Rattle.xds_resource.proofs.WriteTies.{write_cmp-IsAntisymmetric}
use Rattle.xds_resource.specs.WriteOrder.{write_cmp_total}

is_gt-reverse : (o : Ordering) → is_gt (ordering_reverse o) ≡ is_lt o
is_gt-reverse Less = refl
is_gt-reverse Equal = refl
is_gt-reverse Greater = refl

not_both : (o : Ordering) → is_lt o ≡ false → is_gt o ≡ false → o ≡ Equal
not_both Less lt gt = absurd cc
not_both Equal lt gt = refl
not_both Greater lt gt = absurd cc

pub not_Greater : (o : Ordering) → is_gt o ≡ false → o ≢ Greater
not_Greater o e is = cc

pub not_gt : (o : Ordering) → o ≢ Greater → is_gt o ≡ false
not_gt Less n = refl
not_gt Equal n = refl
not_gt Greater n = absurd (n refl)

-- the greater of two in a total order
module _ {K : Type 0} {R : K → K → Ordering} (o : IsTotalOrder R) where
  is_gt-is_lt : (x y : K) → is_gt (R x y) ≡ is_lt (R y x)
  is_gt-is_lt x y = ap is_gt (o.antisymm x y) ∙ is_gt-reverse (R y x)

  itself : (x : K) → is_gt (R x x) ≡ false
  itself x = ap is_gt (tied_itself o x)

  -- a < b makes b ≤ a false
  lt_not_gt : (p : Ordering) → is_lt p ≡ true → is_gt p ≡ false
  lt_not_gt Less e = refl
  lt_not_gt Equal e = refl
  lt_not_gt Greater e = absurd cc

  abbrev chosen : K → K → Bool → K
  chosen a b t = if t then a else b

  left_below : (a b : K) (t : Bool) → is_lt (R b a) ≡ t → is_gt (R a (chosen a b t)) ≡ false
  left_below a b true e = itself a
  left_below a b false e = is_gt-is_lt a b ∙ e

  right_below : (a b : K) (t : Bool) → is_lt (R b a) ≡ t → is_gt (R b (chosen a b t)) ≡ false
  right_below a b true e = lt_not_gt (R b a) e
  right_below a b false e = itself b

  pub left_below_max : (a b : K) → is_gt (R a (ord_max R a b)) ≡ false
  left_below_max a b = left_below a b (is_lt (R b a)) refl

  pub right_below_max : (a b : K) → is_gt (R b (ord_max R a b)) ≡ false
  right_below_max a b = right_below a b (is_lt (R b a)) refl

  at_most : (a b c : K) (s : Bool) → is_lt (R b a) ≡ s → is_gt (R a c) ≡ false → is_gt (R b c) ≡ false → is_gt (R (chosen a b s) c) ≡ false
  at_most a b c true e x y = x
  at_most a b c false e x y = y

  pub max_below : (a b c : K) → is_gt (R a c) ≡ false → is_gt (R b c) ≡ false → is_gt (R (ord_max R a b) c) ≡ false
  max_below a b c x y = at_most a b c (is_lt (R b a)) refl x y

  module _ (same : IsAntisymmetric R) where
    -- each at most the other
    pub both_below : (x y : K) → is_gt (R x y) ≡ false → is_gt (R y x) ≡ false → x ≡ y
    both_below x y up down = same x y (not_both (R x y) (sym (is_gt-is_lt y x) ∙ down) up)

    pub ord_max-comm : (a b : K) → ord_max R a b ≡ ord_max R b a
    ord_max-comm a b =
        both_below _ _ (max_below a b _ (right_below_max b a) (left_below_max b a)) (max_below b a _ (right_below_max a b) (left_below_max a b))

    pub ord_max-idem : (a : K) → ord_max R a a ≡ a
    ord_max-idem a = both_below _ _ (max_below a a a (itself a) (itself a)) (left_below_max a a)

    pub ord_max-assoc : (a b c : K) → ord_max R a (ord_max R b c) ≡ ord_max R (ord_max R a b) c
    ord_max-assoc a b c =
        let up = upto o in
        let a_left = up a _ _ (left_below_max a b) (left_below_max (ord_max R a b) c) in
        let b_left = up b _ _ (right_below_max a b) (left_below_max (ord_max R a b) c) in
        let b_right = up b _ _ (left_below_max b c) (right_below_max a (ord_max R b c)) in
        let c_right = up c _ _ (right_below_max b c) (right_below_max a (ord_max R b c)) in
        both_below _ _ (max_below a (ord_max R b c) _ a_left (max_below b c _ b_left (right_below_max (ord_max R a b) c)))
        (max_below (ord_max R a b) c _ (max_below a b _ (left_below_max a (ord_max R b c)) b_right) c_right)

-- rule: greatest-write
pub greater-comm : (a b : Option StampedWrite) → greater a b ≡ greater b a
greater-comm None None = refl
greater-comm None (Some w) = refl
greater-comm (Some v) None = refl
greater-comm (Some v) (Some w) = ap Some (ord_max-comm write_cmp_total write_cmp-IsAntisymmetric v w)

-- rule: greatest-write
pub greater-idem : (a : Option StampedWrite) → greater a a ≡ a
greater-idem None = refl
greater-idem (Some v) = ap Some (ord_max-idem write_cmp_total write_cmp-IsAntisymmetric v)

-- rule: greatest-write
pub greater-assoc : (a b c : Option StampedWrite) → greater a (greater b c) ≡ greater (greater a b) c
greater-assoc None b c = refl
greater-assoc (Some u) None c = refl
greater-assoc (Some u) (Some v) None = refl
greater-assoc (Some u) (Some v) (Some w) = ap Some (ord_max-assoc write_cmp_total write_cmp-IsAntisymmetric u v w)

pub greater-None : (a : Option StampedWrite) → greater a None ≡ a
greater-None None = refl
greater-None (Some v) = refl

-- rule: greatest-write
pub best_of_both : (v w : List StampedWrite) (name : List ℕ) → BestOfBoth v w name
best_of_both [] w name = refl
best_of_both (x ∷ v) w name = ap (greater (if_named name x)) (best_of_both v w name) ∙ greater-assoc (if_named name x) (best v name) (best w name)

pub Contains-head : {X : Type 0} (x : X) (xs : List X) → Contains (x ∷ xs) x
Contains-head x xs = (0, omega arith, refl)

pub Contains-tail : {X : Type 0} (x y : X) (xs : List X) → Contains xs y → Contains (x ∷ xs) y
Contains-tail x y xs h = (suc h.0, omega (arith, h.1), h.2)

Contains-cons_at : {X : Type 0} (x y : X) (xs : List X) (k : ℕ) → k < length (x ∷ xs) → get_or (x ∷ xs) k y ≡ y → (x ≡ y) ⊎ Contains xs y
Contains-cons_at x y xs zero below e = inl e
Contains-cons_at x y xs (suc k) below e = inr (k, omega arith, e)

pub Contains-cons_cases : {X : Type 0} (x y : X) (xs : List X) → Contains (x ∷ xs) y → (x ≡ y) ⊎ Contains xs y
Contains-cons_cases x y xs h = Contains-cons_at x y xs h.0 h.1 h.2

-- no write of the list has the name
abbrev pub NoneNamed : List StampedWrite → List ℕ → Type 0
NoneNamed ws name = (v : StampedWrite) → Contains ws v → v.name ≢ name

name_tells : (w : StampedWrite) (name : List ℕ) → w.name ≡ name → bytes_eq w.name name ≡ true
name_tells w name e = (bytes_eq-Decides w.name name).1 e

-- what holds of two writes holds of either
one_of_two : (v w : StampedWrite) (P : StampedWrite → Type 0) (t : Bool) → P v → P w → P (if t then v else w)
one_of_two v w P true p q = p
one_of_two v w P false p q = q

-- a write ahead of a list whose greatest of the name is known
greatest_with : (w : StampedWrite) (ws : List StampedWrite) (name : List ℕ) (t : Bool) → bytes_eq w.name name ≡ t → (r : Option StampedWrite)
    → MatchOption r (NoneNamed ws name) (IsGreatest ws name) → MatchOption (greater (if t then Some w else None) r) (NoneNamed (w ∷ ws) name) (IsGreatest (w ∷ ws) name)
greatest_with w ws name false e None none = λ v h same.
    elim (Contains-cons_cases w v ws h) [
      | inl is ↦ (let told = name_tells w name (ap (λ x. x.name) is ∙ same) in absurd cc)
      | inr rest ↦ none v rest same
    ]
greatest_with w ws name false e (Some g) is = record {
  listed = Contains-tail w g ws is.listed;
  named = is.named;
  unsurpassed = λ v h same. elim (Contains-cons_cases w v ws h) [
    | inl head ↦ (let told = name_tells w name (ap (λ x. x.name) head ∙ same) in absurd cc)
    | inr rest ↦ is.unsurpassed v rest same
  ];
}
greatest_with w ws name true e None none = record {
  listed = Contains-head w ws;
  named = (bytes_eq-Decides w.name name).0 e;
  unsurpassed = λ v h same. elim (Contains-cons_cases w v ws h) [
    | inl head ↦ not_Greater (write_cmp v w) (ap (λ x. is_gt (write_cmp x w)) (sym head) ∙ itself write_cmp_total w)
    | inr rest ↦ absurd (none v rest same)
  ];
}
greatest_with w ws name true e (Some g) is =
    let o = write_cmp_total in
    let m = ord_max write_cmp w g in
    let both = one_of_two w g (λ x. Contains (w ∷ ws) x × (x.name ≡ name)) (is_lt (write_cmp g w)) (Contains-head w ws, (bytes_eq-Decides w.name name).0 e) (Contains-tail w g ws is.listed, is.named) in
    record {
      listed = both.0;
      named = both.1;
      unsurpassed = λ v h same. elim (Contains-cons_cases w v ws h) [
        | inl head ↦ not_Greater (write_cmp v m) (ap (λ x. is_gt (write_cmp x m)) (sym head) ∙ left_below_max o w g)
        | inr rest ↦ not_Greater (write_cmp v m) (upto o v g m (not_gt _ (is.unsurpassed v rest same)) (right_below_max o w g))
      ];
    }

-- rule: greatest-write
pub best_is_greatest : (ws : List StampedWrite) (name : List ℕ) → BestIsGreatest ws name
best_is_greatest [] name = λ v h same. absurd (omega (arith, h.1))
best_is_greatest (w ∷ ws) name = greatest_with w ws name (bytes_eq w.name name) refl (best ws name) (best_is_greatest ws name)

-- the greatest of two lists with the same writes
greatest_of_same : (v w : List StampedWrite) (name : List ℕ) → SameWrites v w → (a b : Option StampedWrite)
    → MatchOption a (NoneNamed v name) (IsGreatest v name) → MatchOption b (NoneNamed w name) (IsGreatest w name) → a ≡ b
greatest_of_same v w name same None None none_v none_w = refl
greatest_of_same v w name same None (Some b) none_v is = absurd (none_v b ((same b).1 is.listed) is.named)
greatest_of_same v w name same (Some a) None is none_w = absurd (none_w a ((same a).0 is.listed) is.named)
greatest_of_same v w name same (Some a) (Some b) one two =
    ap Some (both_below write_cmp_total write_cmp-IsAntisymmetric a b
    (not_gt _ (two.unsurpassed a ((same a).0 one.listed) one.named))
    (not_gt _ (one.unsurpassed b ((same b).1 two.listed) two.named)))

-- rule: greatest-write
-- the best depends on which writes there are alone
pub best_of_same_writes : (v w : List StampedWrite) (name : List ℕ) → SameWrites v w → best v name ≡ best w name
best_of_same_writes v w name same = greatest_of_same v w name same (best v name) (best w name) (best_is_greatest v name) (best_is_greatest w name)

-- the best is the one greatest write of its name
pub IsGreatest-best : (ws : List StampedWrite) (name : List ℕ) (w : StampedWrite) → best ws name ≡ Some w → IsGreatest ws name w
IsGreatest-best ws name w e =
    let greatest = best_is_greatest ws name in
    rw e at greatest

pub best-IsGreatest : (ws : List StampedWrite) (name : List ℕ) (w : StampedWrite) → IsGreatest ws name w → best ws name ≡ Some w
best-IsGreatest ws name w is = greatest_of_same ws ws name (λ x. (λ h. h, λ h. h)) (best ws name) (Some w) (best_is_greatest ws name) is

pub best-NoneNamed : (ws : List StampedWrite) (name : List ℕ) → NoneNamed ws name → best ws name ≡ None
best-NoneNamed ws name none = greatest_of_same ws ws name (λ x. (λ h. h, λ h. h)) (best ws name) None (best_is_greatest ws name) none

pub NoneNamed-best : (ws : List StampedWrite) (name : List ℕ) → best ws name ≡ None → NoneNamed ws name
NoneNamed-best ws name e =
    let missing = best_is_greatest ws name in
    rw e at missing
