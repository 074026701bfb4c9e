-- Entries by their numbers: appended, counted, below a number, and found at their places.
use Rattle.std.proofs.Common.{◌≡◌, ℕ, zero, suc, ◌+◌, ◌<◌, ◌≤◌, List, [], ◌∷◌, ◌++◌, length, take, drop, refl, sym, ap, subst, ◌∙◌, ⊎_elim, arith}
use Rattle.std.specs.Prelude.{All, Contains}
use Rattle.std.proofs.lemmas.List.{map-append}
use Rattle.std.proofs.lemmas.List.Elements.{All-nil, All-cons, All-head, All-tail, All-weaker, All-contains}
use Rattle.xds_resource.proofs.BestWrites.{Contains-cons_cases}
use Rattle.xds_node.specs.Entries.{numbered, records_of, Counted, AllBelow}

module _ {E : Type 0} where
  pub length_numbered : (n : ℕ) (rs : List E) → length (numbered n rs) ≡ length rs
  length_numbered n [] = refl
  length_numbered n (r ∷ rs) = ap suc (length_numbered (n + 1) rs)

  pub records_numbered : (n : ℕ) (rs : List E) → records_of (numbered n rs) ≡ rs
  records_numbered n [] = refl
  records_numbered n (r ∷ rs) = ap (λ l. r ∷ l) (records_numbered (n + 1) rs)

  pub records_append : (es fs : List (ℕ × E)) → records_of (es ++ fs) ≡ records_of es ++ records_of fs
  records_append es fs = map-append (λ e. e.1) es fs

  pub numbered_append : (n : ℕ) (rs qs : List E) → numbered n (rs ++ qs) ≡ numbered n rs ++ numbered (n + length rs) qs
  numbered_append n [] qs = ap (λ k. numbered k qs) (omega arith)
  numbered_append n (r ∷ rs) qs = ap (λ l. (n, r) ∷ l) (numbered_append (n + 1) rs qs ∙ ap (λ k. numbered (n + 1) rs ++ numbered k qs) (omega arith))

  -- one record more
  pub numbered_one : (n : ℕ) (rs : List E) (r : E) → numbered n (rs ++ r ∷ []) ≡ numbered n rs ++ (n + length rs, r) ∷ []
  numbered_one n rs r = numbered_append n rs (r ∷ [])

  pub counted_numbered : (n : ℕ) (rs : List E) → Counted n (numbered n rs)
  counted_numbered n [] = tt
  counted_numbered n (r ∷ rs) = (refl, counted_numbered (n + 1) rs)

  -- entries that are counted are their records, numbered
  pub numbered_records : (n : ℕ) (es : List (ℕ × E)) → Counted n es → es ≡ numbered n (records_of es)
  numbered_records n [] c = refl
  numbered_records n (e ∷ es) c = λ i. (c.0 i, e.1) ∷ numbered_records (n + 1) es c.1 i

  pub counted_append : (n : ℕ) (es fs : List (ℕ × E)) → Counted n es → Counted (n + length es) fs → Counted n (es ++ fs)
  counted_append n [] fs c d = subst (λ k. Counted k fs) (omega arith) d
  counted_append n (e ∷ es) fs c d = (c.0, counted_append (n + 1) es fs c.1 (subst (λ k. Counted k fs) (omega arith) d))

  -- the same, from the parts
  pub counted_first : (n : ℕ) (es fs : List (ℕ × E)) → Counted n (es ++ fs) → Counted n es
  counted_first n [] fs c = tt
  counted_first n (e ∷ es) fs c = (c.0, counted_first (n + 1) es fs c.1)

  pub counted_rest : (n : ℕ) (es fs : List (ℕ × E)) → Counted n (es ++ fs) → Counted (n + length es) fs
  counted_rest n [] fs c = subst (λ k. Counted k fs) (omega arith) c
  counted_rest n (e ∷ es) fs c = subst (λ k. Counted k fs) (omega arith) (counted_rest (n + 1) es fs c.1)

  -- records behind entries
  pub counted_on : (es : List (ℕ × E)) (rs : List E) → Counted 1 es → Counted 1 (es ++ numbered (length es + 1) rs)
  counted_on es rs c = counted_append 1 es (numbered (length es + 1) rs) c (subst (λ k. Counted k (numbered (length es + 1) rs)) (omega arith) (counted_numbered (length es + 1) rs))

  pub counted_below : (n m : ℕ) (es : List (ℕ × E)) → Counted n es → n + length es ≤ m → AllBelow m es
  counted_below n m [] c few = All-nil (λ e. e.0 < m)
  counted_below n m (e ∷ es) c few = let number = c.0 in All-cons (λ e. e.0 < m) e es (omega arith) (counted_below (n + 1) m es c.1 (omega arith))

  pub counted_from : (n : ℕ) (es : List (ℕ × E)) → Counted n es → All (λ e. n ≤ e.0) es
  counted_from n [] c = All-nil (λ e. n ≤ e.0)
  counted_from n (e ∷ es) c = let number = c.0 in All-cons (λ e. n ≤ e.0) e es (omega arith) (All-weaker (λ e. n + 1 ≤ e.0) (λ e. n ≤ e.0) (λ e later. omega arith) es (counted_from (n + 1) es c.1))

  pub numbered_below : (n m : ℕ) (rs : List E) → n + length rs ≤ m → AllBelow m (numbered n rs)
  numbered_below n m rs few = counted_below n m (numbered n rs) (counted_numbered n rs) (omega (arith, length_numbered n rs))

  -- entries that stand among those below a number are below it
  pub rising : (m : ℕ) (told known : List (ℕ × E)) → AllBelow m known → All (Contains known) told → AllBelow m told
  rising m told known below stands = All-weaker (Contains known) (λ e. e.0 < m) (λ e there. All-contains (λ f. f.0 < m) known e below there) told stands

  -- the first of counted entries is the only one with its number
  pub first_of_counted : (n : ℕ) (e f : ℕ × E) (es : List (ℕ × E)) → Counted n (e ∷ es) → Contains (e ∷ es) f → f.0 ≡ n → e ≡ f
  first_of_counted n e f es c there number =
      ⊎_elim
      (λ (here : e ≡ f). here)
      (λ (later : Contains es f). let from = All-contains (λ g. n + 1 ≤ g.0) es f (counted_from (n + 1) es c.1) later in absurd (omega arith))
      (Contains-cons_cases e f es there)

  pub later_of_counted : (n : ℕ) (e f : ℕ × E) (es : List (ℕ × E)) → Counted n (e ∷ es) → Contains (e ∷ es) f → n < f.0 → Contains es f
  later_of_counted n e f es c there number =
      ⊎_elim
      (λ (here : e ≡ f). let same : e.0 ≡ f.0 = ap (λ (g : ℕ × E). g.0) here in let first = c.0 in absurd (omega arith))
      (λ (later : Contains es f). later)
      (Contains-cons_cases e f es there)

  -- the first k are passed over by entries that are counted from behind them
  later_all : (n m : ℕ) (e : ℕ × E) (es fs : List (ℕ × E)) → Counted n (e ∷ es) → n < m → Counted m fs → All (Contains (e ∷ es)) fs → All (Contains es) fs
  later_all n m e es [] c after d stands = All-nil (Contains es)
  later_all n m e es (f ∷ fs) c after d stands =
      let number = d.0 in
      All-cons (Contains es) f fs
      (later_of_counted n e f es c (All-head (Contains (e ∷ es)) f fs stands) (omega arith))
      (later_all n (m + 1) e es fs c (omega arith) d.1 (All-tail (Contains (e ∷ es)) f fs stands))

  -- counted entries that stand among counted ones are the part of those at their numbers
  pub part_at : (n k : ℕ) (known given : List (ℕ × E)) → Counted n known → Counted (n + k) given → All (Contains known) given → given ≡ take (length given) (drop k known)
  part_at n k known [] c d stands = refl
  part_at n k [] (g ∷ gs) c d stands = let there = All-head (Contains []) g gs stands in let below = there.1 in absurd (omega arith)
  part_at n zero (e ∷ es) (g ∷ gs) c d stands =
      let number = d.0 in
      let same = first_of_counted n e g es c (All-head (Contains (e ∷ es)) g gs stands) (omega arith) in
      let d' : Counted (n + 1) gs = subst (λ m. Counted m gs) (omega arith) d.1 in
      let more : gs ≡ take (length gs) es = part_at (n + 1) zero es gs c.1 (subst (λ m. Counted m gs) (omega arith) d') (later_all n (n + 1) e es gs c (omega arith) d' (All-tail (Contains (e ∷ es)) g gs stands)) in
      λ i. sym same i ∷ more i
  part_at n (suc k) (e ∷ es) (g ∷ gs) c d stands =
      part_at (n + 1) k es (g ∷ gs) c.1 (subst (λ m. Counted m (g ∷ gs)) (omega arith) d) (later_all n (n + suc k) e es (g ∷ gs) c (omega arith) d stands)
