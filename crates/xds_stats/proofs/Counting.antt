-- What a replica holds, counted entry by entry.
use Rattle.std.proofs.Common.{◌≡◌, ℕ, ◌+◌, ◌<◌, ◌≤◌, List, ◌∷◌, drop, length, get_or, sym, ap, ◌∙◌}
use Rattle.std.proofs.lemmas.List.{drop_more, drop_all}
use Rattle.xds_resource.specs.Writes.{StampedWrite}
use Rattle.xds_stats.specs.Looks.{counted, counted_more}
use Rattle.xds_stats.specs.declared.look.TypeSizes.{TypeSizes}

module _ (ws : List StampedWrite) (i : ℕ) where
  -- what is left begins with the next one
  next_one : (w : StampedWrite) → i < length ws → w ≡ get_or ws i w → drop i ws ≡ w ∷ drop (i + 1) ws
  next_one w within is = drop_more ws i w within ∙ ap (λ y. y ∷ drop (i + 1) ws) (sym is)

  pub count_more : (w : StampedWrite) (held next all : TypeSizes) → i < length ws → w ≡ get_or ws i w → next ≡ counted_more w held
      → counted (drop i ws) held ≡ all → counted (drop (i + 1) ws) next ≡ all
  count_more w held next all within is made so_far =
      ap (counted (drop (i + 1) ws)) made ∙ sym (ap (λ l. counted l held) (next_one w within is)) ∙ so_far

  pub count_all : (held all : TypeSizes) → length ws ≤ i → counted (drop i ws) held ≡ all → held ≡ all
  count_all held all over so_far = sym (ap (λ l. counted l held) (drop_all i ws over)) ∙ so_far
