-- What is given of a list that one token knows, as tokens change: no more, and nothing else.
use Rattle.std.proofs.Common.{◌≡◌, ◌≢◌, ◌⊎◌, ℕ, zero, suc, ◌+◌, ◌<◌, List, [], ◌∷◌, ◌++◌, length, set, refl, sym, ap, subst, ◌∙◌, ⊎_elim, arith}
use Rattle.std.specs.Prelude.{All, Contains}
use Rattle.std.proofs.lemmas.List.Elements.{All-weaker, All-contains, All-contains_itself, All-nil, All-append}
use mathlib.Core.Option.{some, some-ne-none, some-injective}
use mathlib.Core.Logic.{dite}
use native.Mathlib.Decide.{ℕ_discrete}
use lib.ListN.{get_elem?}
use Rattle.atomic_table.proofs.Lists.{at_set, at_snoc, at_longer, set_else}
use Rattle.xds_node.specs.declared.node.holding.TokenHolding.{TokenHolding}
use Rattle.xds_node.specs.Entries.{weigh}
use Rattle.xds_node.specs.Tally.{StandsIn, Covers, IsPartOf}
use Rattle.xds_node.proofs.Weights.{weigh_append, weigh_more, weigh_set, weigh_at, only}

pub all_by : {X : Type 0} (P : X → Type 0) (xs : List X) → ((x : X) → Contains xs x → P x) → All P xs
all_by P xs each = All-weaker (Contains xs) P each xs (All-contains_itself xs)

-- an element that was changed is there
pub set_there : {X : Type 0} (xs : List X) (i : ℕ) (v w : X) → get_elem? xs i ≡ some v → get_elem? (set xs i w) i ≡ some w
set_there [] i v w at = absurd (some-ne-none v (sym at))
set_there (x ∷ xs) zero v w at = refl
set_there (x ∷ xs) (suc i) v w at = set_there xs i v w at

same_there : {X : Type 0} (xs : List X) (i j : ℕ) (v u : X) → get_elem? xs i ≡ some v → get_elem? xs j ≡ some u → j ≡ i → u ≡ v
same_there xs i j v u at there same = some-injective u v (sym there ∙ ap (get_elem? xs) same ∙ at)

-- an entry of a list that is empty
pub in_none : {X : Type 0} (xs : List X) (x : X) → xs ≡ [] → Contains xs x → ⊥
in_none xs x empty h = let short : length xs ≡ 0 = ap length empty in let below = h.1 in omega arith

-- where one element has all the weight, what weighs anything is that element
pub sole : {X : Type 0} (g : X → ℕ) (xs : List X) (i j : ℕ) (v u : X) → get_elem? xs i ≡ some v → get_elem? xs j ≡ some u → weigh g xs ≡ g v → 0 < g u → j ≡ i
sole g [] i j v u at there all some_weight = absurd (some-ne-none v (sym at))
sole g (x ∷ xs) zero zero v u at there all some_weight = refl
sole g (x ∷ xs) zero (suc j) v u at there all some_weight =
    let same : g x ≡ g v = ap g (some-injective x v at) in
    let part = weigh_at g xs j u there in
    absurd (omega arith)
sole g (x ∷ xs) (suc i) zero v u at there all some_weight =
    let same : g x ≡ g u = ap g (some-injective x u there) in
    let part = weigh_at g xs i v at in
    absurd (omega arith)
sole g (x ∷ xs) (suc i) (suc j) v u at there all some_weight =
    let part = weigh_at g xs i v at in
    let rest : weigh g xs ≡ g v = omega arith in
    ap suc (sole g xs i j v u at there rest some_weight)

-- what holds of some element holds of some element after a change of one that keeps it
pub some_set : {X : Type 0} (P : X → Type 0) (xs : List X) (i : ℕ) (v w : X) → get_elem? xs i ≡ some v → (P v → P w) → (k : ℕ) × (u : X) × (get_elem? xs k ≡ some u) × P u → (k : ℕ) × (u : X) × (get_elem? (set xs i w) k ≡ some u) × P u
some_set {X} P xs i v w at keeps s =
    dite (ℕ_discrete s.0 i)
    (λ (here : s.0 ≡ i). (i, w, set_there xs i v w at, keeps (subst P (same_there xs i s.0 v s.1 at s.2 here) s.3)))
    (λ (else : s.0 ≢ i). (s.0, s.1, set_else xs i s.0 w else ∙ s.2, s.3))

-- where what has none of a weight has none of a property, what has the property is the one element that has all the weight
pub sole_has : {X : Type 0} (P : X → Type 0) (g : X → ℕ) (xs : List X) (i : ℕ) (v : X) → get_elem? xs i ≡ some v → weigh g xs ≡ g v → ((j : ℕ) (u : X) → get_elem? xs j ≡ some u → g u ≡ 0 → P u → P v) → (k : ℕ) × (u : X) × (get_elem? xs k ≡ some u) × P u → P v
sole_has {X} P g xs i v at alone idle s =
    dite (ℕ_discrete (g s.1) 0)
    (λ (lone : g s.1 ≡ 0). idle s.0 s.1 s.2 lone s.3)
    (λ (weighty : g s.1 ≢ 0). subst P (same_there xs i s.0 v s.1 at s.2 (sole g xs i s.0 v s.1 at s.2 alone (omega arith))) s.3)

module _ {E : Type 0} (known given : TokenHolding E → List (ℕ × E)) where
  -- after a change of one holding
  stands_set : (views : List (TokenHolding E)) (i : ℕ) (v w : TokenHolding E) → get_elem? views i ≡ some v → ((e : ℕ × E) → Contains (known v) e → Contains (known w) e) → (e : ℕ × E) → StandsIn known views e → StandsIn known (set views i w) e
  stands_set views i v w at grows e s = some_set (λ u. Contains (known u) e) views i v w at (grows e) s

  -- what is given of a holding that changes, and what it knows of it
  pub record Turns (v w : TokenHolding E) : Type 0 where
    pub same : (h : ℕ × E → ℕ) → weigh h (given w) + weigh h (known v) ≡ weigh h (given v) + weigh h (known w)
    pub grows : (e : ℕ × E) → Contains (known v) e → Contains (known w) e
    pub each : (e : ℕ × E) → Contains (given w) e → Contains (given v) e ⊎ Contains (known w) e

  -- rule: one-seat
  pub covers_set : (views : List (TokenHolding E)) (i : ℕ) (v w : TokenHolding E) → Covers known given views → get_elem? views i ≡ some v → Turns v w → Covers known given (set views i w)
  covers_set views i v w c at turns = record {
    same = λ h.
        let s = weigh_set (λ u. weigh h (given u)) views i v w at in
        let t = weigh_set (λ u. weigh h (known u)) views i v w at in
        let was = c.same h in
        let even = turns.same h in
        omega arith;
    stands = λ j u there.
        ⊎_elim
        (λ (here : (j ≡ i) × (w ≡ u)). subst (λ (x : TokenHolding E). All (StandsIn known (set views i w)) (given x)) here.1 mine)
        (λ (else : (j ≢ i) × (get_elem? views j ≡ some u)). All-weaker (StandsIn known views) (StandsIn known (set views i w)) (stands_set views i v w at turns.grows) (given u) (c.stands j u else.1))
        (at_set views i j w u there);
  }
    where
      mine : All (StandsIn known (set views i w)) (given w)
      mine = all_by (StandsIn known (set views i w)) (given w) (λ e in_it.
          ⊎_elim
          (λ (old : Contains (given v) e). stands_set views i v w at turns.grows e (All-contains (StandsIn known views) (given v) e (c.stands i v at) old))
          (λ (new : Contains (known w) e). (i, w, set_there views i v w at, new))
          (turns.each e in_it))

  stands_fork : (views : List (TokenHolding E)) (i : ℕ) (v w x : TokenHolding E) → get_elem? views i ≡ some v → known w ≡ known v → (e : ℕ × E) → StandsIn known views e → StandsIn known (set views i w ++ x ∷ []) e
  stands_fork views i v w x at same_known e s =
      let t = stands_set views i v w at (λ f (p : Contains (known v) f). subst (λ (l : List (ℕ × E)). Contains l f) (sym same_known) p) e s in
      (t.0, t.1, at_longer (set views i w) (x ∷ []) t.0 t.1 t.2, t.3)

  -- rule: one-seat
  -- a holding is cut in two, of which the first knows what it knew, and the second has what it was given
  pub covers_fork : (views : List (TokenHolding E)) (i : ℕ) (v w x : TokenHolding E) → Covers known given views → get_elem? views i ≡ some v → given w ≡ [] → known w ≡ known v → given x ≡ given v → known x ≡ [] → Covers known given (set views i w ++ x ∷ [])
  covers_fork views i v w x c at no_given same_known same_given no_known =
      let still = stands_fork views i v w x at same_known in
      record {
        same = λ h.
            let s = weigh_set (λ u. weigh h (given u)) views i v w at in
            let s' = weigh_more (λ (u : TokenHolding E). weigh h (given u)) (set views i w) x in
            let t = weigh_set (λ u. weigh h (known u)) views i v w at in
            let t' = weigh_more (λ (u : TokenHolding E). weigh h (known u)) (set views i w) x in
            let was = c.same h in
            let a : weigh h (given w) ≡ 0 = ap (weigh h) no_given in
            let b : weigh h (known w) ≡ weigh h (known v) = ap (weigh h) same_known in
            let d : weigh h (given x) ≡ weigh h (given v) = ap (weigh h) same_given in
            let f : weigh h (known x) ≡ 0 = ap (weigh h) no_known in
            omega arith;
        stands = λ j u there.
            ⊎_elim
            (λ (old : get_elem? (set views i w) j ≡ some u).
            ⊎_elim
            (λ (here : (j ≡ i) × (w ≡ u)). subst (λ (l : List (ℕ × E)). All (StandsIn known (set views i w ++ x ∷ [])) l) (sym no_given ∙ ap given here.1) (All-nil (StandsIn known (set views i w ++ x ∷ []))))
            (λ (else : (j ≢ i) × (get_elem? views j ≡ some u)). All-weaker (StandsIn known views) (StandsIn known (set views i w ++ x ∷ [])) still (given u) (c.stands j u else.1))
            (at_set views i j w u old))
            (λ (new : x ≡ u).
            subst (λ (l : List (ℕ × E)). All (StandsIn known (set views i w ++ x ∷ [])) l) (sym same_given ∙ ap given new)
            (All-weaker (StandsIn known views) (StandsIn known (set views i w ++ x ∷ [])) still (given v) (c.stands i v at)))
            (at_snoc (set views i w) x u j there);
      }

  -- rule: one-seat
  -- one holding is added to another, and is then nothing
  pub covers_merge : (views : List (TokenHolding E)) (i other : ℕ) (v w x n : TokenHolding E) → Covers known given views → get_elem? views i ≡ some v → get_elem? views other ≡ some w → ¬ (other ≡ i) → given x ≡ given v ++ given w → known x ≡ known v → known w ≡ [] → given n ≡ [] → known n ≡ [] → Covers known given (set (set views i x) other n)
  covers_merge views i other v w x n c at there apart sum_given same_known w_none n_given n_none =
      let there' : get_elem? (set views i x) other ≡ some w = set_else views i other x apart ∙ there in
      let first = covers_add views i v x w c at (λ e. All-contains (StandsIn known views) (given w) e (c.stands other w there)) sum_given same_known in
      record {
        same = λ h.
            let s = weigh_set (λ u. weigh h (given u)) views i v x at in
            let s' = weigh_set (λ u. weigh h (given u)) (set views i x) other w n there' in
            let t = weigh_set (λ u. weigh h (known u)) views i v x at in
            let t' = weigh_set (λ u. weigh h (known u)) (set views i x) other w n there' in
            let was = c.same h in
            let a : weigh h (given x) ≡ weigh h (given v) + weigh h (given w) = ap (weigh h) sum_given ∙ weigh_append h (given v) (given w) in
            let b : weigh h (known x) ≡ weigh h (known v) = ap (weigh h) same_known in
            let d : weigh h (known w) ≡ 0 = ap (weigh h) w_none in
            let f : weigh h (given n) ≡ 0 = ap (weigh h) n_given in
            let k : weigh h (known n) ≡ 0 = ap (weigh h) n_none in
            omega arith;
        stands = λ j u at_j.
            ⊎_elim
            (λ (here : (j ≡ other) × (n ≡ u)). subst (λ (l : List (ℕ × E)). All (StandsIn known (set (set views i x) other n)) l) (sym n_given ∙ ap given here.1) (All-nil (StandsIn known (set (set views i x) other n))))
            (λ (else : (j ≢ other) × (get_elem? (set views i x) j ≡ some u)).
            All-weaker (StandsIn known (set views i x)) (StandsIn known (set (set views i x) other n)) (stands_set (set views i x) other w n there' (λ e p. absurd (in_none (known w) e w_none p))) (given u) (first j u else.1))
            (at_set (set views i x) other j n u at_j);
      }
    where
      covers_add : (views : List (TokenHolding E)) (i : ℕ) (v x w : TokenHolding E) → Covers known given views → get_elem? views i ≡ some v → ((e : ℕ × E) → Contains (given w) e → StandsIn known views e) → given x ≡ given v ++ given w → known x ≡ known v → (j : ℕ) (u : TokenHolding E) → get_elem? (set views i x) j ≡ some u → All (StandsIn known (set views i x)) (given u)
      covers_add views i v x w c at others sum_given same_known j u at_j =
          let still = stands_set views i v x at (λ f (p : Contains (known v) f). subst (λ (l : List (ℕ × E)). Contains l f) (sym same_known) p) in
          ⊎_elim
          (λ (here : (j ≡ i) × (x ≡ u)).
          subst (λ (l : List (ℕ × E)). All (StandsIn known (set views i x)) l) (sym sum_given ∙ ap given here.1)
          (All-append (StandsIn known (set views i x)) (given v) (given w)
          (All-weaker (StandsIn known views) (StandsIn known (set views i x)) still (given v) (c.stands i v at))
          (all_by (StandsIn known (set views i x)) (given w) (λ e p. still e (others e p)))))
          (λ (else : (j ≢ i) × (get_elem? views j ≡ some u)). All-weaker (StandsIn known views) (StandsIn known (set views i x)) still (given u) (c.stands j u else.1))
          (at_set views i j x u at_j)

  -- rule: one-seat
  -- where only one token knows anything of the list, what was given to it is part of that, and all of it where no other was given any
  pub part_of : (views : List (TokenHolding E)) (i : ℕ) (v : TokenHolding E) (g : TokenHolding E → ℕ) (all : Type 0) → Covers known given views → get_elem? views i ≡ some v → weigh g views ≡ g v → ((j : ℕ) (u : TokenHolding E) → get_elem? views j ≡ some u → g u ≡ 0 → known u ≡ []) → (all → (h : ℕ × E → ℕ) → weigh (λ u. weigh h (given u)) views ≡ weigh h (given v)) → IsPartOf (given v) (known v) all
  part_of views i v g all c at alone idle others = record {
    most = λ h.
        let one = only (λ u. weigh h (known u)) g views i v at alone (λ j u there lone. ap (weigh h) (idle j u there lone)) in
        let part = weigh_at (λ u. weigh h (given u)) views i v at in
        let was = c.same h in
        omega arith;
    stands = all_by (Contains (known v)) (given v) (λ e p. mine e (All-contains (StandsIn known views) (given v) e (c.stands i v at) p));
    whole = λ a h.
        let one = only (λ u. weigh h (known u)) g views i v at alone (λ j u there lone. ap (weigh h) (idle j u there lone)) in
        let rest = others a h in
        let was = c.same h in
        omega arith;
  }
    where
      mine : (e : ℕ × E) → StandsIn known views e → Contains (known v) e
      mine e s = sole_has (λ u. Contains (known u) e) g views i v at alone (λ j u there lone p. absurd (in_none (known u) e (idle j u there lone) p)) s
