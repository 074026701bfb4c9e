-- Tables stay sound through a change, and as numbers are taken out.
use Rattle.std.proofs.Common.{◌≡◌, ◌≢◌, ◌⊎◌, inl, inr, ℕ, ◌+◌, ◌<◌, ◌≤◌, max, List, [], ◌∷◌, ◌++◌, map, true, Option, Some, None, refl, sym, ap, subst, ◌∙◌, arith}
use Rattle.std.specs.Prelude.{◌↔◌, is_some, IfSome}
use Rattle.std.specs.List.{fold}
use Rattle.std.specs.Ordering.{nat_cmp}
use Rattle.std.specs.Cmp.{nat_cmp_total}
use Rattle.std.specs.FinMap as finmap
use Rattle.std.specs.FinMap.{nat_cmp-IsAntisymmetric}
use Rattle.std.proofs.lemmas.Cmp.{nat_list_cmp_total}
use Rattle.std.proofs.lemmas.Option.{same_Some}
use Rattle.xds_resource.specs.Stamps.{max_counter}
use Rattle.xds_resource.specs.Writes.{StampedWrite, text_cmp}
use Rattle.xds_resource.proofs.WriteTies.{text_cmp-IsAntisymmetric}
use Rattle.xds_catalogue.specs.Holdings.{Entries, IsCatalogue}
use Rattle.xds_catalogue.specs.Changes.{surpasses}
use Rattle.xds_catalogue.specs.Local.{greatest_counter}
use Rattle.xds_catalogue.specs.Tables.{TwoMaps, IsAmong, IsSoundBut, IsSound, no_tables, with_write, without_number}
use Rattle.xds_catalogue.proofs.Counters.{greatest_counter-held}
use Rattle.xds_catalogue.proofs.Lookups.{get-inserted, get-removed}
use Rattle.xds_catalogue.proofs.OneWrite.{is_news-held, entries-news}
use Rattle.xds_catalogue.proofs.Numbering.{if_some, some_from}

-- what a number of the map says
abbrev pub Listed : List ℕ → TwoMaps → ℕ → List ℕ → Type 0
Listed leftover t k name = (k ≤ t.changes) × ((finmap.get t.named.latest name ≡ Some k) ⊎ IsAmong k leftover)

-- what a number of an entry says
abbrev pub Counted : TwoMaps → List ℕ → ℕ → Type 0
Counted t name k = (1 ≤ k) × (k ≤ t.changes) × (finmap.get t.numbers k ≡ Some name)

-- the number that the next change gets is new
fresh_at : (leftover : List ℕ) (t : TwoMaps) → IsSoundBut leftover t → (o : Option (List ℕ)) → finmap.get t.numbers (t.changes + 1) ≡ o → o ≡ None
fresh_at leftover t sound None has = refl
fresh_at leftover t sound (Some name) has =
    let listed = some_from _ name (Listed leftover t (t.changes + 1)) has (sound.listed (t.changes + 1)) in
    let within = listed.0 in
    absurd (omega arith)

pub fresh : (leftover : List ℕ) (t : TwoMaps) → IsSoundBut leftover t → finmap.get t.numbers (t.changes + 1) ≡ None
fresh leftover t sound = fresh_at leftover t sound _ refl

-- the greatest counter, after one write more
fold_push : (n : ℕ) (ws : List StampedWrite) (w : StampedWrite) → fold max n (map (λ w. w.counter) (ws ++ w ∷ [])) ≡ max (fold max n (map (λ w. w.counter) ws)) w.counter
fold_push n [] w = refl
fold_push n (x ∷ ws) w = fold_push (max n x.counter) ws w

greatest_counter-news : (m : Entries) (w : StampedWrite) → IsCatalogue m → surpasses w (finmap.get m w.name) ≡ true → greatest_counter (finmap.insert m w.name w) ≡ max (greatest_counter m) w.counter
greatest_counter-news m w named above =
    ap greatest_counter (sym (entries-news m w named (is_news-held m w named ∙ above))) ∙ greatest_counter-held (finmap.values m ++ w ∷ []) ∙ fold_push 0 (finmap.values m) w

-- a write that is news leaves the number that it replaces
module _ (leftover after : List ℕ) (t : TwoMaps) (w : StampedWrite) (sound : IsSoundBut leftover t) (room : t.changes < max_counter) (stamped : w.counter ≤ max_counter)
    (above : surpasses w (finmap.get t.named.entries w.name) ≡ true) (left : (k : ℕ) → IsAmong k after ↔ (IsAmong k leftover ⊎ (finmap.get t.named.latest w.name ≡ Some k))) where
  named_put : IsCatalogue (with_write t w).named.entries
  named_put q = elim (get-inserted nat_list_cmp_total text_cmp-IsAntisymmetric t.named.entries w.name w q) [
    | inl (here, has) ↦ subst (λ o. IfSome o (λ v. v.name ≡ q)) (sym has) here
    | inr (other, has) ↦ subst (λ o. IfSome o (λ v. v.name ≡ q)) (sym has) (sound.named q)
  ]

  each_put : (q : List ℕ) → is_some (finmap.get (with_write t w).named.latest q) ≡ is_some (finmap.get (with_write t w).named.entries q)
  each_put q = elim (get-inserted nat_list_cmp_total text_cmp-IsAntisymmetric t.named.entries w.name w q) [
    | inl (here, has) ↦ elim (get-inserted nat_list_cmp_total text_cmp-IsAntisymmetric t.named.latest w.name (t.changes + 1) q) [
      | inl (again, numbered) ↦ ap is_some numbered ∙ sym (ap is_some has)
      | inr (other, numbered) ↦ absurd (other here)
    ]
    | inr (other, has) ↦ elim (get-inserted nat_list_cmp_total text_cmp-IsAntisymmetric t.named.latest w.name (t.changes + 1) q) [
      | inl (here, numbered) ↦ absurd (other here)
      | inr (again, numbered) ↦ ap is_some numbered ∙ sound.each q ∙ sym (ap is_some has)
    ]
  ]

  number_kept : (k : ℕ) (q : List ℕ) → k ≤ t.changes → finmap.get t.numbers k ≡ Some q → finmap.get (with_write t w).numbers k ≡ Some q
  number_kept k q within has = elim (get-inserted nat_cmp_total nat_cmp-IsAntisymmetric t.numbers (t.changes + 1) w.name k) [
    | inl (here, _) ↦ absurd (omega arith)
    | inr (other, keeps) ↦ keeps ∙ has
  ]

  number_new : finmap.get (with_write t w).numbers (t.changes + 1) ≡ Some w.name
  number_new = elim (get-inserted nat_cmp_total nat_cmp-IsAntisymmetric t.numbers (t.changes + 1) w.name (t.changes + 1)) [
    | inl (here, has) ↦ has
    | inr (other, keeps) ↦ absurd (other refl)
  ]

  counted_put : (q : List ℕ) → IfSome (finmap.get (with_write t w).named.latest q) (Counted (with_write t w) q)
  counted_put q = elim (get-inserted nat_list_cmp_total text_cmp-IsAntisymmetric t.named.latest w.name (t.changes + 1) q) [
    | inl (here, has) ↦ subst (λ o. IfSome o (Counted (with_write t w) q)) (sym has) (omega arith, omega arith, number_new ∙ ap Some here)
    | inr (other, has) ↦ subst (λ o. IfSome o (Counted (with_write t w) q)) (sym has) (if_some _ (Counted (with_write t w) q) (λ k is.
        let old = some_from _ k (Counted t q) is (sound.counted q) in
        let from = old.0 in
        let to = old.1 in
        (from, omega arith, number_kept k q to old.2)))
  ]

  latest_here : (q : List ℕ) → w.name ≡ q → finmap.get (with_write t w).named.latest q ≡ Some (t.changes + 1)
  latest_here q is = elim (get-inserted nat_list_cmp_total text_cmp-IsAntisymmetric t.named.latest w.name (t.changes + 1) q) [
    | inl (here, has) ↦ has
    | inr (other, keeps) ↦ absurd (other is)
  ]

  -- an entry keeps its number, or is the one that changed
  still_listed : (k : ℕ) (q : List ℕ) → finmap.get t.named.latest q ≡ Some k → (finmap.get (with_write t w).named.latest q ≡ Some k) ⊎ IsAmong k after
  still_listed k q is = elim (get-inserted nat_list_cmp_total text_cmp-IsAntisymmetric t.named.latest w.name (t.changes + 1) q) [
    | inl (here, has) ↦ inr ((left k).1 (inr (ap (finmap.get t.named.latest) here ∙ is)))
    | inr (other, keeps) ↦ inl (keeps ∙ is)
  ]

  old_listed : (k : ℕ) (q : List ℕ) → Listed leftover t k q → Listed after (with_write t w) k q
  old_listed k q listed =
      let within = listed.0 in (
        omega arith,
        elim listed.1 [
          | inl is ↦ still_listed k q is
          | inr among ↦ inr ((left k).1 (inl among))
        ],
      )

  listed_put : (k : ℕ) → IfSome (finmap.get (with_write t w).numbers k) (Listed after (with_write t w) k)
  listed_put k = elim (get-inserted nat_cmp_total nat_cmp-IsAntisymmetric t.numbers (t.changes + 1) w.name k) [
    | inl (here, has) ↦ subst (λ o. IfSome o (Listed after (with_write t w) k)) (sym has) (omega arith, inl (latest_here w.name refl ∙ ap Some here))
    | inr (other, keeps) ↦ subst (λ o. IfSome o (Listed after (with_write t w) k)) (sym keeps) (if_some _ (Listed after (with_write t w) k) (λ q is. old_listed k q (some_from _ q (Listed leftover t k) is (sound.listed k))))
  ]

  -- no entry has a number that is left over
  not_latest : (k : ℕ) (q : List ℕ) → IsAmong k leftover ⊎ (finmap.get t.named.latest w.name ≡ Some k) → finmap.get (with_write t w).named.latest q ≢ Some k
  not_latest k q among is = elim (get-inserted nat_list_cmp_total text_cmp-IsAntisymmetric t.named.latest w.name (t.changes + 1) q) [
    | inl (here, has) ↦
        let next : t.changes + 1 ≡ k = same_Some _ _ (sym has ∙ is) in
        elim among [
          | inl old ↦ let within = (sound.passed k old).0 in absurd (omega arith)
          | inr old ↦ let within = (some_from _ k (Counted t w.name) old (sound.counted w.name)).1 in absurd (omega arith)
        ]
    | inr (other, keeps) ↦ elim among [
      | inl old ↦ (sound.passed k old).1 q (sym keeps ∙ is)
      | inr old ↦
          let first = (some_from _ k (Counted t w.name) old (sound.counted w.name)).2 in
          let second = (some_from _ k (Counted t q) (sym keeps ∙ is) (sound.counted q)).2 in
          other (same_Some _ _ (sym first ∙ second))
    ]
  ]

  left_within : (k : ℕ) → IsAmong k leftover ⊎ (finmap.get t.named.latest w.name ≡ Some k) → k ≤ (with_write t w).changes
  left_within k among = elim among [
    | inl old ↦ let within = (sound.passed k old).0 in omega arith
    | inr old ↦ let within = (some_from _ k (Counted t w.name) old (sound.counted w.name)).1 in omega arith
  ]

  pub with_write-sound : IsSoundBut after (with_write t w)
  with_write-sound = record {
    named = named_put;
    each = each_put;
    counted = counted_put;
    listed = listed_put;
    passed = λ k among. (left_within k ((left k).0 among), λ q. not_latest k q ((left k).0 among));
    short = omega arith;
    bounded = let old = sound.bounded in omega arith;
    greatest = ap (λ n. max n w.counter) sound.greatest ∙ sym (greatest_counter-news t.named.entries w sound.named above);
  }

either_left : (n k : ℕ) (rest : List ℕ) → n ≢ k → IsAmong k (n ∷ rest) → IsAmong k rest
either_left n k rest apart (inl is) = absurd (apart (sym is))
either_left n k rest apart (inr among) = among

-- a number that is left over is taken out
module _ (n : ℕ) (rest : List ℕ) (t : TwoMaps) (sound : IsSoundBut (n ∷ rest) t) where
  counted_out : (q : List ℕ) (k : ℕ) → finmap.get t.named.latest q ≡ Some k → Counted t q k → Counted (without_number t n) q k
  counted_out q k is (from, to, has) = elim (get-removed nat_cmp_total nat_cmp-IsAntisymmetric t.numbers n k) [
    | inl (here, _) ↦ absurd ((sound.passed n (inl refl)).1 q (is ∙ ap Some (sym here)))
    | inr (other, keeps) ↦ (from, to, keeps ∙ has)
  ]

  listed_out : (k : ℕ) → IfSome (finmap.get (without_number t n).numbers k) (Listed rest (without_number t n) k)
  listed_out k = elim (get-removed nat_cmp_total nat_cmp-IsAntisymmetric t.numbers n k) [
    | inl (here, none) ↦ subst (λ o. IfSome o (Listed rest (without_number t n) k)) (sym none) tt
    | inr (other, keeps) ↦ subst (λ o. IfSome o (Listed rest (without_number t n) k)) (sym keeps) (if_some _ (Listed rest (without_number t n) k) (λ q is.
        let old = some_from _ q (Listed (n ∷ rest) t k) is (sound.listed k) in (
          old.0,
          elim old.1 [
            | inl latest ↦ inl latest
            | inr among ↦ inr (either_left n k rest other among)
          ],
        )))
  ]

  pub without_number-sound : IsSoundBut rest (without_number t n)
  without_number-sound = record {
    named = sound.named;
    each = sound.each;
    counted = λ q. if_some _ (Counted (without_number t n) q) (λ k is. counted_out q k is (some_from _ k (Counted t q) is (sound.counted q)));
    listed = listed_out;
    passed = λ k among. sound.passed k (inr among);
    short = sound.short;
    greatest = sound.greatest;
    bounded = sound.bounded;
  }

-- tables that hold nothing
pub no_tables-sound : IsSound no_tables
no_tables-sound = record {
  named = λ q. subst (λ o. IfSome o (λ w. w.name ≡ q)) (sym (finmap.get-empty text_cmp q)) tt;
  each = λ q. ap is_some (finmap.get-empty text_cmp q) ∙ sym (ap is_some (finmap.get-empty text_cmp q));
  counted = λ q. subst (λ o. IfSome o (Counted no_tables q)) (sym (finmap.get-empty text_cmp q)) tt;
  listed = λ k. subst (λ o. IfSome o (Listed [] no_tables k)) (sym (finmap.get-empty nat_cmp k)) tt;
  passed = λ k none. absurd none;
  short = omega arith;
  greatest = sym (greatest_counter-held []);
  bounded = omega arith;
}
