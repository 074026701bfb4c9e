-- Each step of a token keeps the balance of all tokens, and what the keeper knows of it.
use Rattle.std.proofs.Common.{◌≡◌, ◌≢◌, ℕ, ◌+◌, ◌<◌, List, [], ◌∷◌, ◌++◌, length, set, refl, sym, ap, subst, ◌∙◌, ⊎_elim, inl, inr, append_assoc, append-nil, arith}
use Rattle.std.specs.Prelude.{Contains}
use Rattle.std.proofs.lemmas.List.Elements.{Contains-append_left, Contains-append_right, Contains-append_cases, Contains-push, Contains-push_cases}
use mathlib.Core.Option.{none, some}
use lib.ListN.{get_elem?}
use Rattle.atomic_table.specs.Table.{Me, step, keeps, Allows, Splits, Joins}
use Rattle.atomic_table.proofs.Lists.{at_set, at_snoc, set_else}
use Rattle.xds_node.specs.declared.node.holding.TokenHolding.{TokenHolding}
use Rattle.xds_node.specs.Entries.{weigh}
use Rattle.xds_node.specs.Holdings.{recorded, nothing, kept_part, lent_part, both, with_entry, with_refused, with_seat, after_cut}
use Rattle.xds_node.specs.Tally.{IsIdle, Balanced, Known, Rule, Appends, Notes, Sits, Cuts, Looks}
use Rattle.xds_node.proofs.Weights.{weigh_append, weigh_more, weigh_set, weigh_length, only}
use Rattle.xds_node.proofs.Covering.{Turns, covers_set, covers_fork, covers_merge, part_of}
use Rattle.xds_node.proofs.Pasts.{Begins, begins_longer, begins_still, pasts_set, pasts_fork, pasts_merge, begins_own}

-- the balance of one holding is the same as another's
record Even {E : Type 0} (v w : TokenHolding E) : Type 0 where
  one : w.keepers ≡ v.keepers
  seats : w.seats + v.made ≡ v.seats + w.made
  told : Turns recorded (λ u. u.told) v w
  share : Turns (λ u. u.cut) (λ u. u.share) v w
  pasts : Begins v w
  idle : IsIdle w

module _ {E : Type 0} where
  -- what is given, and what is known of it, stays as it is
  unturned : (known given : TokenHolding E → List (ℕ × E)) (v w : TokenHolding E) → known w ≡ known v → given w ≡ given v → Turns known given v w
  unturned known given v w same_known same_given = record {
    same = λ h. let k = ap (weigh h) same_known in let g = ap (weigh h) same_given in omega arith;
    grows = λ e p. subst (λ (l : List (ℕ × E)). Contains l e) (sym same_known) p;
    each = λ e p. inl (subst (λ (l : List (ℕ × E)). Contains l e) same_given p);
  }

  idle_set : (views : List (TokenHolding E)) (i : ℕ) (w : TokenHolding E) → IsIdle w → ((j : ℕ) (u : TokenHolding E) → get_elem? views j ≡ some u → IsIdle u) → (j : ℕ) (u : TokenHolding E) → get_elem? (set views i w) j ≡ some u → IsIdle u
  idle_set views i w mine others j u at =
      ⊎_elim
      (λ (here : (j ≡ i) × (w ≡ u)). subst (λ (x : TokenHolding E). IsIdle x) here.1 mine)
      (λ (there : (j ≢ i) × (get_elem? views j ≡ some u)). others j u there.1)
      (at_set views i j w u at)

  -- rule: one-seat
  -- one holding changes, and its own balance stays
  moved : (views : List (TokenHolding E)) (i : ℕ) (v w : TokenHolding E) → Balanced views → get_elem? views i ≡ some v → Even v w → Balanced (set views i w)
  moved views i v w b at even = record {
    one = let s = weigh_set (λ u. u.keepers) views i v w at in let was = b.one in let same = even.one in omega arith;
    seats =
        let s = weigh_set (λ u. u.seats) views i v w at in
        let t = weigh_set (λ u. u.made) views i v w at in
        let was = b.seats in
        let same = even.seats in
        omega arith;
    told = covers_set recorded (λ u. u.told) views i v w b.told at even.told;
    share = covers_set (λ u. u.cut) (λ u. u.share) views i v w b.share at even.share;
    pasts = pasts_set views i v w b.pasts at even.pasts;
    idle = idle_set views i w even.idle b.idle;
  }

  forks : (views : List (TokenHolding E)) (i : ℕ) (v : TokenHolding E) → Balanced views → get_elem? views i ≡ some v → Balanced (set views i (kept_part v) ++ lent_part v ∷ [])
  forks views i v b at =
      let w = kept_part v in
      let x = lent_part v in
      let mine = b.idle i v at in
      record {
        one =
            let s = weigh_set (λ u. u.keepers) views i v w at in
            let t = weigh_more (λ (u : TokenHolding E). u.keepers) (set views i w) x in
            let was = b.one in
            omega arith;
        seats =
            let s = weigh_set (λ u. u.seats) views i v w at in
            let s' = weigh_more (λ (u : TokenHolding E). u.seats) (set views i w) x in
            let t = weigh_set (λ u. u.made) views i v w at in
            let t' = weigh_more (λ (u : TokenHolding E). u.made) (set views i w) x in
            let was = b.seats in
            omega arith;
        told = covers_fork recorded (λ u. u.told) views i v w x b.told at refl refl refl refl;
        share = covers_fork (λ u. u.cut) (λ u. u.share) views i v w x b.share at refl refl refl refl;
        pasts = pasts_fork views i v w x b.pasts at refl refl refl;
        idle = λ j u there.
            ⊎_elim
            (λ (old : get_elem? (set views i w) j ≡ some u). idle_set views i w (record { apart = mine.apart; silent = λ _. refl }) b.idle j u old)
            (λ (new : x ≡ u). subst (λ (y : TokenHolding E). IsIdle y) new (record { apart = λ _. (refl, refl, refl); silent = mine.silent }))
            (at_snoc (set views i w) x u j there);
      }

  merges : (views : List (TokenHolding E)) (i : ℕ) (v : TokenHolding E) (other : ℕ) (w : TokenHolding E) → Balanced views → get_elem? views i ≡ some v → ¬ (other ≡ i) → get_elem? (set views i (both v w)) other ≡ some w → w.keepers ≡ 0 → Balanced (set (set views i (both v w)) other nothing)
  merges views i v other w b at apart there lent =
      let x = both v w in
      let first = set views i x in
      let mine = b.idle i v at in
      let was_there : get_elem? views other ≡ some w = sym (set_else views i other x apart) ∙ there in
      let theirs = b.idle other w was_there in
      let void = theirs.apart lent in
      let no_made : w.made ≡ 0 = void.0 in
      let no_record : recorded w ≡ [] = rw (void.1, void.2) refl in
      let silent : x.seats ≡ 0 → x.told ≡ [] = λ e.
      let told : v.told ≡ [] = mine.silent (omega arith) in
      let told' : w.told ≡ [] = theirs.silent (omega arith) in
      rw (told, told') refl in
      record {
        one =
            let s = weigh_set (λ u. u.keepers) views i v x at in
            let t = weigh_set (λ u. u.keepers) first other w nothing there in
            let was = b.one in
            omega arith;
        seats =
            let s = weigh_set (λ u. u.seats) views i v x at in
            let s' = weigh_set (λ u. u.seats) first other w nothing there in
            let t = weigh_set (λ u. u.made) views i v x at in
            let t' = weigh_set (λ u. u.made) first other w nothing there in
            let was = b.seats in
            omega arith;
        told = covers_merge recorded (λ u. u.told) views i other v w x nothing b.told at was_there apart refl refl no_record refl refl;
        share = covers_merge (λ u. u.cut) (λ u. u.share) views i other v w x nothing b.share at was_there apart refl refl void.1 refl refl;
        pasts = pasts_merge views i other v w x nothing b.pasts at was_there apart refl refl void.1 refl;
        idle = idle_set first other nothing (record { apart = λ _. (refl, refl, refl); silent = λ _. refl }) (idle_set views i x (record { apart = mine.apart; silent = silent }) b.idle);
      }

  no_length : (xs : List (ℕ × E)) (h : ℕ × E → ℕ) → weigh (λ _. 1) xs ≡ 0 → weigh h xs ≡ 0
  no_length [] h void = refl
  no_length (x ∷ xs) h void = absurd (omega arith)

  -- what the keeper knows
  learns : (views : List (TokenHolding E)) (i : ℕ) (v : TokenHolding E) → Balanced views → get_elem? views i ≡ some v → v.keepers ≡ 1 → Known v
  learns views i v b at keeper =
      let alone : weigh (λ u. u.keepers) views ≡ v.keepers = b.one ∙ sym keeper in
      record {
        told = part_of recorded (λ u. u.told) views i v (λ u. u.keepers) (v.seats ≡ v.made) b.told at alone
            (λ j u there void. let e = (b.idle j u there).apart void in rw (e.1, e.2) refl)
            (λ same h.
            let made = only (λ u. u.made) (λ u. u.keepers) views i v at alone (λ j u there void. ((b.idle j u there).apart void).0) in
            only (λ u. weigh h u.told) (λ u. u.seats) views i v at (b.seats ∙ made ∙ sym same) (λ j u there void. ap (weigh h) ((b.idle j u there).silent void)));
        share = part_of (λ u. u.cut) (λ u. u.share) views i v (λ u. u.keepers) (length v.share ≡ length v.cut) b.share at alone
            (λ j u there void. ((b.idle j u there).apart void).1)
            (λ same h.
            let many = b.share.same (λ _. 1) in
            let cut = only (λ u. weigh (λ _. 1) u.cut) (λ u. u.keepers) views i v at alone (λ j u there void. ap (weigh (λ _. 1)) ((b.idle j u there).apart void).1) in
            let long = weigh_length v.share in
            let long_cut = weigh_length v.cut in
            only (λ u. weigh h u.share) (λ u. weigh (λ _. 1) u.share) views i v at (omega arith) (λ j u there void. no_length u.share h void));
        pasts = begins_own views i v (λ u. u.keepers) b.pasts at alone (λ j u there void. ((b.idle j u there).apart void).1);
      }

  -- what the calls of the table ask, whatever becomes of its word (f), which the rule does not look at

  -- rule: one-seat
  pub lends : (id : ℕ) (v : TokenHolding E) → Splits Rule id v (kept_part v) (lent_part v)
  lends id v s b at = forks s.views id v b at

  -- rule: one-seat
  pub gives : (id : ℕ) (v : TokenHolding E) (other : ℕ) (w : TokenHolding E) → w.keepers ≡ 0 → Joins Rule id v other w (both v w) nothing
  gives id v other w lent s b at apart there = merges s.views id v other w b at apart there lent

  -- rule: one-seat
  pub appends : (slots id : ℕ) (m : Me E (TokenHolding E)) (f : ℕ → ℕ) (n : ℕ) (e : E) → m.0.keepers ≡ 1 → 0 < m.0.seats → Allows Rule slots id m 0 f (Appends (step slots 0 n n (some e)) m)
  appends slots id m f n e keeper seated s b wide at small =
      let v = m.0 in
      let longer : recorded (with_entry n e v) ≡ recorded v ++ (n, e) ∷ [] = sym (append_assoc v.cut v.journal ((n, e) ∷ [])) in
      let even : Even v (with_entry n e v) = record {
        one = refl;
        seats = refl;
        told = record {
          same = λ h.
              let t = weigh_more h v.told (n, e) in
              let r = ap (weigh h) longer ∙ weigh_more h (recorded v) (n, e) in
              omega arith;
          grows = λ x p. subst (λ (l : List (ℕ × E)). Contains l x) (sym longer) (Contains-append_left (recorded v) ((n, e) ∷ []) x p);
          each = λ x p. ⊎_elim (λ (old : Contains v.told x). inl old) (λ (new : (n, e) ≡ x). inr (subst (λ (l : List (ℕ × E)). Contains l x) (sym longer) (subst (Contains (recorded v ++ (n, e) ∷ [])) new (Contains-push (recorded v) (n, e))))) (Contains-push_cases v.told (n, e) x p);
        };
        share = unturned (λ u. u.cut) (λ u. u.share) v (with_entry n e v) refl refl;
        pasts = begins_still v (with_entry n e v) refl refl;
        idle = record { apart = λ void. absurd (omega arith); silent = λ void. absurd (omega arith) };
      } in
      (with_entry n e v, keeps, tt, moved s.views id v (with_entry n e v) b at even, refl)

  -- a note changes nothing that the rule looks at
  pub notes : (slots id : ℕ) (m : Me E (TokenHolding E)) (f : ℕ → ℕ) (e : E) → Allows Rule slots id m 0 f (Notes (step slots 0 0 0 (some e)) m)
  notes slots id m f e s b wide at small =
      let v = m.0 in
      let w = with_refused e v in
      let mine = b.idle id v at in
      let even : Even v w = record {
        one = refl;
        seats = refl;
        told = unturned recorded (λ u. u.told) v w refl refl;
        share = unturned (λ u. u.cut) (λ u. u.share) v w refl refl;
        pasts = begins_still v w refl refl;
        idle = record { apart = mine.apart; silent = mine.silent };
      } in
      (w, keeps, tt, moved s.views id v w b at even, refl)

  -- rule: one-seat
  pub sits : (slots id : ℕ) (m : Me E (TokenHolding E)) (f : ℕ → ℕ) → m.0.keepers ≡ 1 → Allows Rule slots id m 0 f (Sits (step slots 0 0 0 none) m)
  sits slots id m f keeper s b wide at small =
      let v = m.0 in
      let even : Even v (with_seat v) = record {
        one = refl;
        seats = omega arith;
        told = unturned recorded (λ u. u.told) v (with_seat v) refl refl;
        share = unturned (λ u. u.cut) (λ u. u.share) v (with_seat v) refl refl;
        pasts = begins_still v (with_seat v) refl refl;
        idle = record { apart = λ void. absurd (omega arith); silent = λ void. absurd (omega arith) };
      } in
      (with_seat v, keeps, tt, moved s.views id v (with_seat v) b at even, refl)

  -- rule: cuts
  pub cuts : (slots id : ℕ) (m : Me E (TokenHolding E)) (f : ℕ → ℕ) → m.0.keepers ≡ 1 → Allows Rule slots id m 0 f (Cuts (step slots 0 0 0 none) m)
  cuts slots id m f keeper s b wide at small =
      let v = m.0 in
      let mine = b.idle id v at in
      let even : Even v (after_cut v) = record {
        one = refl;
        seats = refl;
        told = unturned recorded (λ u. u.told) v (after_cut v) (append-nil (recorded v)) refl;
        share = record {
          same = λ h. omega (arith, weigh_append h v.cut v.journal, weigh_append h v.share v.journal);
          grows = λ x p. Contains-append_left v.cut v.journal x p;
          each = λ x p. ⊎_elim (λ (old : Contains v.share x). inl old) (λ (new : Contains v.journal x). inr (Contains-append_right v.cut v.journal x new)) (Contains-append_cases v.share v.journal x p);
        };
        pasts = record {
          grows = λ past begins. begins_longer past v.cut v.journal begins;
          each = λ past p. ⊎_elim (λ (old : Contains v.pasts past). inl old) (λ (new : v.cut ≡ past). inr (v.journal, ap (λ l. l ++ v.journal) new)) (Contains-push_cases v.pasts v.cut past p);
        };
        idle = record { apart = λ void. absurd (omega arith); silent = mine.silent };
      } in
      (after_cut v, keeps, tt, moved s.views id v (after_cut v) b at even, refl)

  pub looks : (slots id : ℕ) (m : Me E (TokenHolding E)) (f : ℕ → ℕ) → m.0.keepers ≡ 1 → Allows Rule slots id m 0 f (Looks (step slots 0 0 0 none) m)
  looks slots id m f keeper s b wide at small =
      let v = m.0 in
      let even : Even v v = record { one = refl; seats = refl; told = unturned recorded (λ u. u.told) v v refl refl; share = unturned (λ u. u.cut) (λ u. u.share) v v refl refl; pasts = begins_still v v refl refl; idle = b.idle id v at } in
      (v, keeps, tt, moved s.views id v v b at even, (refl, learns s.views id v b at keeper))
