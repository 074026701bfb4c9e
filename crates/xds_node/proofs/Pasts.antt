-- What was cut before each share, as tokens change: it stays what the keeper cut first.
use Rattle.std.proofs.Common.{◌≡◌, ◌≢◌, ◌⊎◌, ℕ, List, [], ◌∷◌, ◌++◌, length, set, sym, ap, subst, ◌∙◌, ⊎_elim, inl, inr, refl, append_assoc, arith}
use Rattle.std.specs.Prelude.{All, Contains}
use Rattle.std.proofs.lemmas.List.Elements.{All-weaker, All-contains, All-append}
use mathlib.Core.Option.{some}
use lib.ListN.{get_elem?}
use Rattle.atomic_table.proofs.Lists.{at_set, at_snoc, at_longer, set_else}
use Rattle.xds_node.specs.declared.node.holding.TokenHolding.{TokenHolding}
use Rattle.xds_node.specs.Entries.{weigh, IsBeginning}
use Rattle.xds_node.specs.Tally.{BeginsIn}
use Rattle.xds_node.proofs.Covering.{all_by, set_there, in_none, some_set, sole_has}

-- a beginning of a list is one of the list with more behind it
pub begins_longer : {X : Type 0} (front all more : List X) → IsBeginning front all → IsBeginning front (all ++ more)
begins_longer front all more b = (b.0 ++ more, ap (λ l. l ++ more) b.1 ∙ append_assoc front b.0 more)

-- a beginning of the empty list is one of any
pub begins_any : {X : Type 0} (front all : List X) → IsBeginning front [] → IsBeginning front all
begins_any [] all b = (all, refl)
begins_any (x ∷ xs) all b = let long = ap length b.1 in absurd (omega arith)

module _ {E : Type 0} where
  -- what was cut before each share of a token is what some token cut first
  abbrev pub AllBegin : List (TokenHolding E) → Type 0
  AllBegin views = (i : ℕ) (v : TokenHolding E) → get_elem? views i ≡ some v → All (BeginsIn views) v.pasts

  -- a token that changes: what it cut first stays so, and what was cut before a share of it was so before, or is what it cut first
  pub record Begins (v w : TokenHolding E) : Type 0 where
    pub grows : (past : List (ℕ × E)) → IsBeginning past v.cut → IsBeginning past w.cut
    pub each : (past : List (ℕ × E)) → Contains w.pasts past → Contains v.pasts past ⊎ IsBeginning past w.cut

  -- nothing of that changes
  pub begins_still : (v w : TokenHolding E) → w.cut ≡ v.cut → w.pasts ≡ v.pasts → Begins v w
  begins_still v w same_cut same_pasts = record {
    grows = λ past b. subst (IsBeginning past) (sym same_cut) b;
    each = λ past p. inl (subst (λ (l : List (List (ℕ × E))). Contains l past) same_pasts p);
  }

  -- after a change of one token
  begin_set : (views : List (TokenHolding E)) (i : ℕ) (v w : TokenHolding E) → get_elem? views i ≡ some v → ((past : List (ℕ × E)) → IsBeginning past v.cut → IsBeginning past w.cut) → (past : List (ℕ × E)) → BeginsIn views past → BeginsIn (set views i w) past
  begin_set views i v w at grows past s = some_set (λ u. IsBeginning past u.cut) views i v w at (grows past) s

  all_begin_set : (views : List (TokenHolding E)) (i : ℕ) (v w : TokenHolding E) → AllBegin views → get_elem? views i ≡ some v → ((past : List (ℕ × E)) → IsBeginning past v.cut → IsBeginning past w.cut) → ((past : List (ℕ × E)) → Contains w.pasts past → BeginsIn views past ⊎ IsBeginning past w.cut) → AllBegin (set views i w)
  all_begin_set views i v w all at grows each j u there =
      ⊎_elim
      (λ (here : (j ≡ i) × (w ≡ u)). subst (λ (x : TokenHolding E). All (BeginsIn (set views i w)) x.pasts) here.1 mine)
      (λ (else : (j ≢ i) × (get_elem? views j ≡ some u)). All-weaker (BeginsIn views) (BeginsIn (set views i w)) (begin_set views i v w at grows) u.pasts (all j u else.1))
      (at_set views i j w u there)
    where
      mine : All (BeginsIn (set views i w)) w.pasts
      mine = all_by (BeginsIn (set views i w)) w.pasts (λ past in_it.
          ⊎_elim
          (λ (old : BeginsIn views past). begin_set views i v w at grows past old)
          (λ (new : IsBeginning past w.cut). (i, w, set_there views i v w at, new))
          (each past in_it))

  -- rule: cuts
  pub pasts_set : (views : List (TokenHolding E)) (i : ℕ) (v w : TokenHolding E) → AllBegin views → get_elem? views i ≡ some v → Begins v w → AllBegin (set views i w)
  pasts_set views i v w all at begins =
      all_begin_set views i v w all at begins.grows (λ past in_it.
      ⊎_elim
      (λ (old : Contains v.pasts past). inl (All-contains (BeginsIn views) v.pasts past (all i v at) old))
      (λ (new : IsBeginning past w.cut). inr new)
      (begins.each past in_it))

  -- a token is cut in two, of which the first knows what was cut, and the second has the shares
  pub pasts_fork : (views : List (TokenHolding E)) (i : ℕ) (v w x : TokenHolding E) → AllBegin views → get_elem? views i ≡ some v → w.cut ≡ v.cut → w.pasts ≡ [] → x.pasts ≡ v.pasts → AllBegin (set views i w ++ x ∷ [])
  pasts_fork views i v w x all at same_cut no_past same_pasts j u there =
      ⊎_elim
      (λ (old : get_elem? (set views i w) j ≡ some u). All-weaker (BeginsIn (set views i w)) (BeginsIn (set views i w ++ x ∷ [])) longer u.pasts (first j u old))
      (λ (new : x ≡ u).
      subst (λ (l : List (List (ℕ × E))). All (BeginsIn (set views i w ++ x ∷ [])) l) (sym same_pasts ∙ ap (λ (y : TokenHolding E). y.pasts) new)
      (All-weaker (BeginsIn views) (BeginsIn (set views i w ++ x ∷ [])) (λ past s. longer past (begin_set views i v w at grows past s)) v.pasts (all i v at)))
      (at_snoc (set views i w) x u j there)
    where
      grows : (past : List (ℕ × E)) → IsBeginning past v.cut → IsBeginning past w.cut
      grows past b = subst (IsBeginning past) (sym same_cut) b

      first : AllBegin (set views i w)
      first = all_begin_set views i v w all at grows (λ past p. absurd (in_none w.pasts past no_past p))

      longer : (past : List (ℕ × E)) → BeginsIn (set views i w) past → BeginsIn (set views i w ++ x ∷ []) past
      longer past s = (s.0, s.1, at_longer (set views i w) (x ∷ []) s.0 s.1 s.2, s.3)

  -- rule: cuts
  -- one token is added to another, and is then nothing
  pub pasts_merge : (views : List (TokenHolding E)) (i other : ℕ) (v w x n : TokenHolding E) → AllBegin views → get_elem? views i ≡ some v → get_elem? views other ≡ some w → ¬ (other ≡ i) → x.cut ≡ v.cut → x.pasts ≡ v.pasts ++ w.pasts → w.cut ≡ n.cut → n.pasts ≡ [] → AllBegin (set (set views i x) other n)
  pasts_merge views i other v w x n all at there apart same_cut sum same_none no_past =
      all_begin_set (set views i x) other w n first (set_else views i other x apart ∙ there) (λ past b. subst (IsBeginning past) same_none b) (λ past p. absurd (in_none n.pasts past no_past p))
    where
      both_begin : All (BeginsIn views) x.pasts
      both_begin = subst (λ (l : List (List (ℕ × E))). All (BeginsIn views) l) (sym sum) (All-append (BeginsIn views) v.pasts w.pasts (all i v at) (all other w there))

      first : AllBegin (set views i x)
      first = all_begin_set views i v x all at (λ past b. subst (IsBeginning past) (sym same_cut) b) (λ past p. inl (All-contains (BeginsIn views) x.pasts past both_begin p))

  -- rule: cuts
  -- where only one token knows what was cut, what was cut before its shares is what it cut first
  pub begins_own : (views : List (TokenHolding E)) (i : ℕ) (v : TokenHolding E) (g : TokenHolding E → ℕ) → AllBegin views → get_elem? views i ≡ some v → weigh g views ≡ g v → ((j : ℕ) (u : TokenHolding E) → get_elem? views j ≡ some u → g u ≡ 0 → u.cut ≡ []) → All (λ past. IsBeginning past v.cut) v.pasts
  begins_own views i v g all at alone idle =
      All-weaker (BeginsIn views) (λ past. IsBeginning past v.cut)
      (λ past s. sole_has (λ u. IsBeginning past u.cut) g views i v at alone (λ j u there lone b. begins_any past v.cut (subst (IsBeginning past) (idle j u there lone) b)) s)
      v.pasts (all i v at)
