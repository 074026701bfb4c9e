-- Counters of a list's writes and of the catalogue that it makes.
use Rattle.std.proofs.Common.{inl, inr, ◌≡◌, ◌≢◌, ℕ, ◌<◌, ◌≤◌, max, zero, suc, List, [], ◌∷◌, map, length, get_or, Option, Some, None, refl, sym, ap, subst, arith}
use Rattle.std.specs.Prelude.{Contains, MatchOption}
use Rattle.std.specs.List.{fold}
use Rattle.std.specs.declared.cmp.Ordering.{Ordering}
use Rattle.std.specs.declared.cmp.Ordering.TheVariants.{Greater}
use Rattle.std.specs.Ordering.{nat_cmp, ordering_then}
use Rattle.std.specs.Cmp.{nat_cmp_is}
use Rattle.std.specs.FinMap as finmap
use Rattle.std.proofs.lemmas.Bool.{cases_lt}
use Rattle.xds_resource.specs.Writes.{StampedWrite}
use Rattle.xds_resource.specs.Best.{best, IsGreatest}
use Rattle.xds_resource.proofs.BestWrites.{best_is_greatest}
use Rattle.xds_catalogue.specs.Holdings.{catalogue_of}
use Rattle.xds_catalogue.specs.Local.{greatest_counter_of, greatest_counter}
use Rattle.xds_catalogue.proofs.Catalogues.{best-entries_of}

above_start : (n : ℕ) (ks : List ℕ) → n ≤ fold max n ks
above_start n [] = omega arith
above_start n (k ∷ ks) = omega (arith, above_start (max n k) ks)

above_each : (n : ℕ) (ws : List StampedWrite) (w : StampedWrite) (i : ℕ) → i < length ws → get_or ws i w ≡ w → w.counter ≤ fold max n (map (λ w. w.counter) ws)
above_each n [] w i within is = absurd (omega arith)
above_each n (x ∷ ws) w zero within is =
    let same = ap (λ y. y.counter) is in
    omega (arith, same, above_start (max n x.counter) (map (λ w. w.counter) ws))
above_each n (x ∷ ws) w (suc i) within is = above_each (max n x.counter) ws w i (omega arith) is

-- no write has a greater counter
pub counter-le : (ws : List StampedWrite) (w : StampedWrite) → Contains ws w → w.counter ≤ greatest_counter_of ws
counter-le ws w (i, within, is) = above_each 0 ws w i within is

below_bound : (n m : ℕ) (ws : List StampedWrite) → n ≤ m → ((w : StampedWrite) → Contains ws w → w.counter ≤ m) → fold max n (map (λ w. w.counter) ws) ≤ m
below_bound n m [] start each = start
below_bound n m (x ∷ ws) start each =
    let head : x.counter ≤ m = each x (0, omega arith, refl) in
    below_bound (max n x.counter) m ws (omega arith) (λ w h. each w (suc h.0, omega (arith, h.1), h.2))

-- and it is the least such number
pub greatest_counter_of-le : (m : ℕ) (ws : List StampedWrite) → ((w : StampedWrite) → Contains ws w → w.counter ≤ m) → greatest_counter_of ws ≤ m
greatest_counter_of-le m ws each = below_bound 0 m ws (omega arith) each

counters_tell : (m n : ℕ) (o : Ordering) → ordering_then (nat_cmp m n) o ≢ Greater → m ≤ n
counters_tell m n o not_greater = elim (cases_lt n m) [
  | inl above ↦ absurd (not_greater (ap (λ r. ordering_then r o) (sym (nat_cmp_is m n Greater above))))
  | inr within ↦ within
]

-- writes that are best under the same names have the same greatest counter
counter_of_best : (v w : List StampedWrite) (x : StampedWrite) → Contains v x → (o : Option StampedWrite)
    → MatchOption o ((y : StampedWrite) → Contains v y → y.name ≢ x.name) (IsGreatest v x.name)
    → MatchOption o ((y : StampedWrite) → Contains w y → y.name ≢ x.name) (IsGreatest w x.name) → x.counter ≤ greatest_counter_of w
counter_of_best v w x listed None none_v none_w = absurd (none_v x listed refl)
counter_of_best v w x listed (Some b) in_v in_w =
    let below : x.counter ≤ b.counter = counters_tell x.counter b.counter _ (in_v.unsurpassed x listed refl) in
    let within = counter-le w b in_w.listed in
    omega (arith, below, within)

half_same : (v w : List StampedWrite) → ((q : List ℕ) → best v q ≡ best w q) → greatest_counter_of v ≤ greatest_counter_of w
half_same v w same =
    greatest_counter_of-le (greatest_counter_of w) v (λ x listed. counter_of_best v w x listed (best v x.name) (best_is_greatest v x.name)
    (subst (λ o. MatchOption o ((y : StampedWrite) → Contains w y → y.name ≢ x.name) (IsGreatest w x.name)) (sym (same x.name)) (best_is_greatest w x.name)))

both_le : (m n : ℕ) → m ≤ n → n ≤ m → m ≡ n
both_le m n a b = omega arith

-- rule: tombstones
pub greatest_counter-held : (ws : List StampedWrite) → greatest_counter (catalogue_of ws) ≡ greatest_counter_of ws
greatest_counter-held ws =
    both_le _ _ (half_same (finmap.values (catalogue_of ws)) ws (best-entries_of ws)) (half_same ws (finmap.values (catalogue_of ws)) (λ q. sym (best-entries_of ws q)))
