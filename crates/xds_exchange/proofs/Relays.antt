-- Each move keeps the rule of a channel.
use Rattle.std.proofs.Common.{◌≡◌, ◌≢◌, ℕ, zero, suc, true, false, true≢false, List, [], ◌∷◌, ◌++◌, length, set, sym, refl, ap, ◌∙◌, subst, ⊎_elim, append_assoc, append-nil}
use Rattle.std.specs.Prelude.{Option}
use mathlib.Core.Option.{some, some-ne-none, some-injective}
use lib.ListN.{get_elem?}
use Rattle.atomic_table.proofs.Lists.{at_set, at_snoc}
use Rattle.crossbeam_channel.specs.Fifo.{Pushes, Pops, Forks, Merges, Learns}
use Rattle.xds_exchange.specs.declared.rule.Log.{Log}
use Rattle.xds_exchange.specs.Relays.{log, item_of, items_of, Fits, Relayed}

-- what stands in a list with one more at its end, and not in the list, stands at the end
at_end : {X : Type 0} (l : List X) (a b : X) (j : ℕ) → get_elem? l j ≢ some b → get_elem? (l ++ a ∷ []) j ≡ some b → j ≡ length l
at_end [] a b zero other at = refl
at_end [] a b (suc j) other at = absurd (some-ne-none b (sym at))
at_end (x ∷ xs) a b zero other at = absurd (other at)
at_end (x ∷ xs) a b (suc j) other at = ap suc (at_end xs a b j other at)

module _ {T : Type 0} where
  -- ---- messages

  items_more : (messages : List (Option T)) (x : Option T) → items_of (messages ++ x ∷ []) ≡ items_of messages ++ item_of x
  items_more [] x = append-nil (item_of x)
  items_more (m ∷ ms) x = ap (λ l. item_of m ++ l) (items_more ms x) ∙ sym (append_assoc (item_of m) (items_of ms) (item_of x))

  -- ---- views

  -- What holds of every view holds still once one was replaced, if it holds of the new one, and of the others as before.
  replaced : (Holds : ℕ → Log T → Type 0) (views : List (Log T)) (pass : ℕ) (w : Log T) → Holds pass w → ((j : ℕ) (u : Log T) → j ≢ pass → get_elem? views j ≡ some u → Holds j u)
      → (j : ℕ) (u : Log T) → get_elem? (set views pass w) j ≡ some u → Holds j u
  replaced Holds views pass w new others j u at =
      ⊎_elim (λ (same : (j ≡ pass) × (w ≡ u)). subst (λ (y : ℕ × Log T). Holds y.0 y.1) (λ i. (sym same.0 i, same.1 i)) new)
      (λ (other : (j ≢ pass) × (get_elem? views j ≡ some u)). others j u other.0 other.1) (at_set views pass j w u at)

  -- a view that may do nothing fits
  idle_fits : (putter taker : ℕ) (put taken : List T) (pass : ℕ) → Fits putter taker put taken pass (log false false [] [])
  idle_fits putter taker put taken pass = ((λ may. absurd (true≢false (sym may))), λ may. absurd (true≢false (sym may)))

  -- ---- the moves

  -- the first pass may do both, and nothing was put yet
  first_fits : (j : ℕ) (u : Log T) → get_elem? (log true true [] [] ∷ []) j ≡ some u → Fits 0 0 [] [] j u
  first_fits zero u at = subst (Fits 0 0 [] [] 0) (some-injective _ u at) ((λ may. (refl, refl)), λ may. (refl, refl))
  first_fits (suc j) u at = absurd (some-ne-none u (sym at))

  pub begins : Relayed {T = T} [] (log true true [] [] ∷ [])
  begins = record { putter = 0; taker = 0; put = []; taken = []; in_order = refl; fit = first_fits }

  pub puts : (n pass : ℕ) (v : Log T) (x : Option T) → v.puts ≡ true → Pushes Relayed n pass v x (λ w. w ≡ log v.puts v.takes (v.put ++ item_of x) v.taken)
  puts n pass v x may messages views room h at =
      let mine = h.fit pass v at in
      let me = mine.0 may in
      let w : Log T = log v.puts v.takes (v.put ++ item_of x) v.taken in
      let all = h.put ++ item_of x in (
        w,
        record {
          putter = h.putter;
          taker = h.taker;
          put = all;
          taken = h.taken;
          in_order = ap (λ l. l ++ item_of x) h.in_order ∙ append_assoc h.taken (items_of messages) (item_of x) ∙ ap (λ l. h.taken ++ l) (sym (items_more messages x));
          fit = replaced (Fits h.putter h.taker all h.taken) views pass w ((λ can. (me.0, ap (λ l. l ++ item_of x) me.1)), mine.1)
              (λ j u other there. ((λ can. absurd (other (((h.fit j u there).0 can).0 ∙ sym me.0))), (h.fit j u there).1));
        },
        refl,
      )

  pub takes : (pass : ℕ) (v : Log T) → v.takes ≡ true → Pops Relayed pass v (λ x w. w ≡ log v.puts v.takes v.put (v.taken ++ item_of x))
  takes pass v may x messages views h at =
      let mine = h.fit pass v at in
      let me = mine.1 may in
      let w : Log T = log v.puts v.takes v.put (v.taken ++ item_of x) in
      let all = h.taken ++ item_of x in (
        w,
        record {
          putter = h.putter;
          taker = h.taker;
          put = h.put;
          taken = all;
          in_order = h.in_order ∙ sym (append_assoc h.taken (item_of x) (items_of messages));
          fit = replaced (Fits h.putter h.taker h.put all) views pass w (mine.0, λ can. (me.0, ap (λ l. l ++ item_of x) me.1))
              (λ j u other there. ((h.fit j u there).0, λ can. absurd (other (((h.fit j u there).1 can).0 ∙ sym me.0))));
        },
        refl,
      )

  -- once the pass that may do both puts alone, no other pass but the new one takes
  pub forks : (pass : ℕ) (v : Log T) → v.puts ≡ true → v.takes ≡ true → Forks Relayed pass v (log true false v.put []) (log false true [] v.taken)
  forks pass v may_put may_take messages views h at =
      let mine = h.fit pass v at in
      let left : Log T = log true false v.put [] in
      let right : Log T = log false true [] v.taken in
      let now : List (Log T) = set views pass left in
      let Puts : ℕ → Log T → Type 0 = λ j u. (u.puts ≡ true → (j ≡ h.putter) × (u.put ≡ h.put)) × (u.takes ≢ true) in
      let others : (j : ℕ) (u : Log T) → get_elem? now j ≡ some u → Puts j u =
      replaced Puts views pass left ((λ can. mine.0 may_put), λ can. true≢false (sym can)) (λ j u other there. ((h.fit j u there).0, λ can. other (((h.fit j u there).1 can).0 ∙ sym (mine.1 may_take).0))) in
      record {
        putter = h.putter;
        taker = length now;
        put = h.put;
        taken = h.taken;
        in_order = h.in_order;
        fit = λ j u there. ⊎_elim (λ before. ((others j u before).0, λ can. absurd ((others j u before).1 can)))
            (λ (new : right ≡ u). (
              (λ can. absurd (true≢false (sym (ap (λ (y : Log T). y.puts) new ∙ can)))),
              λ can. (at_end now right u j (λ before. (others j u before).1 can) there, ap (λ (y : Log T). y.taken) (sym new) ∙ (mine.1 may_take).1),
            )) (at_snoc now right u j there);
      }

  -- once the pass that puts has the other's, it may do both
  pub merges : (pass : ℕ) (v : Log T) (other : ℕ) (u : Log T) → v.puts ≡ true → u.takes ≡ true → Merges Relayed pass v other u (log true true v.put u.taken) (log false false [] [])
  merges pass v other u may_put may_take messages views h at two after =
      let mine = h.fit pass v at in
      let both : Log T = log true true v.put u.taken in
      let now : List (Log T) = set views pass both in
      let before : get_elem? views other ≡ some u = ⊎_elim (λ same. absurd (two same.0)) (λ there. there.1) (at_set views pass other both u after) in
      let theirs = (h.fit other u before).1 may_take in
      let Apart : ℕ → Log T → Type 0 = λ j y. j ≢ other → Fits h.putter pass h.put h.taken j y in
      let apart : (j : ℕ) (y : Log T) → get_elem? now j ≡ some y → Apart j y =
      replaced Apart views pass both (λ far. ((λ can. mine.0 may_put), λ can. (refl, theirs.1))) (λ j y away there far. ((h.fit j y there).0, λ can. absurd (far (((h.fit j y there).1 can).0 ∙ sym theirs.0)))) in
      record {
        putter = h.putter;
        taker = pass;
        put = h.put;
        taken = h.taken;
        in_order = h.in_order;
        fit = replaced (Fits h.putter pass h.put h.taken) now other (log false false [] []) (idle_fits h.putter pass h.put h.taken other) (λ j y far there. apart j y there far);
      }

  pub learns : (pass : ℕ) (v : Log T) → v.puts ≡ true → v.takes ≡ true → Learns Relayed pass v (λ messages. v.put ≡ v.taken ++ items_of messages)
  learns pass v may_put may_take messages views h at =
      let mine = h.fit pass v at in
      (mine.0 may_put).1 ∙ h.in_order ∙ ap (λ l. l ++ items_of messages) (sym (mine.1 may_take).1)
