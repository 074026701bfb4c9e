-- What is known of a part of counted entries: where all was given, it is the whole in another order; and counted, it is a piece of the whole.
use Rattle.std.proofs.Common.{◌≡◌, ◌≢◌, ℕ, suc, ◌+◌, ◌<◌, ◌≤◌, List, [], ◌∷◌, ◌++◌, length, take, drop, cond, eqb, eq-eqb, ne_eqb, refl, sym, ap, subst, ◌∙◌, ⊎_elim, arith, take_all}
use Rattle.std.specs.Prelude.{All, Contains, IsPermutation}
use Rattle.std.proofs.lemmas.List.Elements.{All-head, All-tail, All-weaker, All-contains, Contains-append_left, Contains-append_right, Contains-append_cases}
use Rattle.std.proofs.lemmas.List.Sorted.{IsPermutation-refl, IsPermutation-trans, IsPermutation-middle, IsPermutation-cons}
use Rattle.xds_resource.proofs.BestWrites.{Contains-cons_cases}
use mathlib.Core.Logic.{dite}
use native.Mathlib.Decide.{ℕ_discrete}
use Rattle.xds_node.specs.Entries.{Counted, weigh, SameEach}
use Rattle.xds_node.specs.Tally.{IsPartOf}
use Rattle.xds_node.proofs.Weights.{weigh_append}
use Rattle.xds_node.proofs.Numbers.{counted_from, first_of_counted, later_of_counted, part_at}
use Rattle.xds_node.proofs.Covering.{all_by}

-- where a list weighs anything, some element does
weighty : {X : Type 0} (h : X → ℕ) (xs : List X) → 0 < weigh h xs → (front : List X) × (x : X) × (rear : List X) × (xs ≡ front ++ x ∷ rear) × (0 < h x)
weighty h [] some_weight = absurd (omega arith)
weighty h (x ∷ xs) some_weight =
    dite (ℕ_discrete (h x) 0)
    (λ (light : h x ≡ 0). let t = weighty h xs (omega arith) in (x ∷ t.0, t.1, t.2, ap (λ l. x ∷ l) t.3, t.4))
    (λ (heavy : h x ≢ 0). ([], x, xs, refl, omega arith))

weigh_none : {X : Type 0} (h : X → ℕ) (xs : List X) → All (λ x. h x ≡ 0) xs → weigh h xs ≡ 0
weigh_none h [] light = refl
weigh_none h (x ∷ xs) light =
    let one : h x ≡ 0 = All-head (λ y. h y ≡ 0) x xs light in
    let others = weigh_none h xs (All-tail (λ y. h y ≡ 0) x xs light) in
    omega arith

weigh_contained : {X : Type 0} (h : X → ℕ) (x : X) (xs : List X) → Contains xs x → h x ≤ weigh h xs
weigh_contained h x [] there = let below = there.1 in absurd (omega arith)
weigh_contained h x (y ∷ ys) there =
    ⊎_elim
    (λ (here : y ≡ x). let same : h y ≡ h x = ap h here in omega arith)
    (λ (later : Contains ys x). let part = weigh_contained h x ys later in omega arith)
    (Contains-cons_cases y x ys there)

module _ {E : Type 0} where
  -- whether an entry has this number
  at_number : ℕ → ℕ × E → ℕ
  at_number n e = cond (eqb e.0 n) 1 0

  has_number : (n : ℕ) (e : ℕ × E) → e.0 ≡ n → at_number n e ≡ 1
  unfolding at_number
  has_number n e same = ap (λ b. cond b 1 0) (eq-eqb e.0 n same)

  other_number : (n : ℕ) (e : ℕ × E) → e.0 ≢ n → at_number n e ≡ 0
  unfolding at_number
  other_number n e apart = ap (λ b. cond b 1 0) (ne_eqb e.0 n apart)

  is_number : (n : ℕ) (e : ℕ × E) → 0 < at_number n e → e.0 ≡ n
  is_number n e weight =
      dite (ℕ_discrete e.0 n)
      (λ (same : e.0 ≡ n). same)
      (λ (apart : e.0 ≢ n). let light = other_number n e apart in absurd (omega arith))

  -- the first of counted entries is taken out of a list of the same entries, each as often
  record IsTakenOut (n : ℕ) (e : ℕ × E) (es given : List (ℕ × E)) : Type 0 where
    front : List (ℕ × E)
    rear : List (ℕ × E)
    parts : given ≡ front ++ e ∷ rear
    same : SameEach (front ++ rear) es
    stands : All (Contains es) (front ++ rear)

  take_out : (n : ℕ) (e : ℕ × E) (es given : List (ℕ × E)) → Counted n (e ∷ es) → SameEach given (e ∷ es) → All (Contains (e ∷ es)) given → IsTakenOut n e es given
  take_out n e es given c same stands =
      let one = has_number n e c.0 in
      let here : weigh (at_number n) given ≡ at_number n e + weigh (at_number n) es = same (at_number n) in
      let t = weighty (at_number n) given (omega arith) in
      taken t.0 t.1 t.2 t.3 (is_number n t.1 t.4)
    where
      taken : (front : List (ℕ × E)) (g : ℕ × E) (rear : List (ℕ × E)) → given ≡ front ++ g ∷ rear → g.0 ≡ n → IsTakenOut n e es given
      taken front g rear parts number =
          let at_g : Contains (e ∷ es) g = All-contains (Contains (e ∷ es)) given g stands (subst (λ (l : List (ℕ × E)). Contains l g) (sym parts) (Contains-append_right front (g ∷ rear) g (0, omega arith, refl))) in
          let is_e : e ≡ g = first_of_counted n e g es c at_g number in
          let rest : SameEach (front ++ rear) es = (λ h.
          let all = same h in
          let cut : weigh h given ≡ weigh h front + (h g + weigh h rear) = ap (weigh h) parts ∙ weigh_append h front (g ∷ rear) in
          let sum = weigh_append h front rear in
          let eq : h e ≡ h g = ap h is_e in
          omega arith) in
          let light : weigh (at_number n) (front ++ rear) ≡ 0 = rest (at_number n) ∙ weigh_none (at_number n) es (All-weaker (λ f. n + 1 ≤ f.0) (λ f. at_number n f ≡ 0) (λ f later. other_number n f (λ k. absurd (omega arith))) es (counted_from (n + 1) es c.1)) in
          record {
            front = front;
            rear = rear;
            parts = parts ∙ ap (λ (x : ℕ × E). front ++ x ∷ rear) (sym is_e);
            same = rest;
            stands = all_by (Contains es) (front ++ rear) (λ f there.
                let in_given : Contains given f = subst (λ (l : List (ℕ × E)). Contains l f) (sym parts)
                (⊎_elim (λ (a : Contains front f). Contains-append_left front (g ∷ rear) f a) (λ (b : Contains rear f). Contains-append_right front (g ∷ rear) f (suc b.0, omega (arith, b.1), b.2)) (Contains-append_cases front rear f there)) in
                let in_known = All-contains (Contains (e ∷ es)) given f stands in_given in
                let weight = weigh_contained (at_number n) f (front ++ rear) there in
                let apart : f.0 ≢ n = λ k. let heavy = has_number n f k in absurd (omega arith) in
                let from : n ≤ f.0 = All-contains (λ x. n ≤ x.0) (e ∷ es) f (counted_from n (e ∷ es) c) in_known in
                later_of_counted n e f es c in_known (omega arith));
          }

  -- the same entries, and each as often: the one list is the other in another order
  permutes : (n : ℕ) (known given : List (ℕ × E)) → Counted n known → SameEach given known → All (Contains known) given → IsPermutation given known
  permutes n [] [] c same stands = IsPermutation-refl []
  permutes n [] (g ∷ gs) c same stands = let there = All-head (Contains []) g gs stands in let below = there.1 in absurd (omega arith)
  permutes n (e ∷ es) given c same stands =
      let t = take_out n e es given c same stands in
      let rest = permutes (n + 1) es (t.front ++ t.rear) c.1 t.same t.stands in
      subst (λ (l : List (ℕ × E)). IsPermutation l (e ∷ es)) (sym t.parts)
      (IsPermutation-trans (t.front ++ e ∷ t.rear) (e ∷ (t.front ++ t.rear)) (e ∷ es) (IsPermutation-middle t.front e t.rear) (IsPermutation-cons e (t.front ++ t.rear) es rest))

  -- of counted entries, what was given where all was given is the whole, in some order
  pub all_given : (given known : List (ℕ × E)) (n : ℕ) (all : Type 0) → Counted n known → IsPartOf given known all → all → IsPermutation given known
  all_given given known n all c part a = permutes n known given c (part.whole a) part.stands

  -- what was given in the order of its numbers is a piece of the whole
  pub piece_given : (given known : List (ℕ × E)) (n k : ℕ) (all : Type 0) → Counted n known → Counted (n + k) given → IsPartOf given known all → given ≡ take (length given) (drop k known)
  piece_given given known n k all c d part = part_at n k known given c d part.stands

  -- and the whole, where it is front long and begins with the first
  pub whole_given : (given known : List (ℕ × E)) (n : ℕ) (all : Type 0) → Counted n known → Counted n given → length given ≡ length known → IsPartOf given known all → given ≡ known
  whole_given given known n all c d long part =
      let piece = piece_given given known n 0 all c (subst (λ m. Counted m given) (omega arith) d) part in
      piece ∙ ap (λ m. take m known) long ∙ take_all (length known) known (omega arith)

  pub part_weaker : (given known : List (ℕ × E)) (all all' : Type 0) → (all' → all) → IsPartOf given known all → IsPartOf given known all'
  part_weaker given known all all' then_all part = record { most = part.most; stands = part.stands; whole = λ a. part.whole (then_all a) }
