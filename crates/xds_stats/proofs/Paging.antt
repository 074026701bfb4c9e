-- Lines of each replica, put behind a text one by one.
use Rattle.std.proofs.Common.{◌≡◌, ℕ, ◌+◌, ◌<◌, ◌≤◌, List, ◌++◌, drop, length, get_or, sym, ap, append_assoc, append-nil, ◌∙◌}
use Rattle.std.specs.List.{flat_map}
use Rattle.std.proofs.lemmas.List.{drop_more, drop_all}
use Rattle.xds_stats.specs.Pages.{with_each}
use Rattle.xds_stats.specs.declared.pages.ReplicaNumbers.{ReplicaNumbers}

module _ (put : List ℕ → ReplicaNumbers → List ℕ) (xs : List ReplicaNumbers) (i : ℕ) where
  pub put_more : (x : ReplicaNumbers) (text next all : List ℕ) → i < length xs → next ≡ put text (get_or xs i x)
      → with_each put text (drop i xs) ≡ all → with_each put next (drop (i + 1) xs) ≡ all
  put_more x text next all within made so_far =
      ap (λ t. with_each put t (drop (i + 1) xs)) made ∙ sym (ap (with_each put text) (drop_more xs i x within)) ∙ so_far

  pub put_all : (text begun whole : List ℕ) → length xs ≤ i → with_each put text (drop i xs) ≡ with_each put begun xs → begun ≡ whole → text ≡ with_each put whole xs
  put_all text begun whole all so_far is =
      sym (ap (with_each put text) (drop_all i xs all)) ∙ so_far ∙ ap (λ t. with_each put t xs) is

-- the same of lines that depend on nothing else
module _ {A : Type 0} (line : A → List ℕ) (xs : List A) (i : ℕ) where
  pub line_more : (x : A) (text next all : List ℕ) → i < length xs → next ≡ text ++ line (get_or xs i x)
      → text ++ flat_map line (drop i xs) ≡ all → next ++ flat_map line (drop (i + 1) xs) ≡ all
  line_more x text next all within made so_far =
      ap (λ t. t ++ flat_map line (drop (i + 1) xs)) made ∙ append_assoc text (line (get_or xs i x)) (flat_map line (drop (i + 1) xs))
      ∙ sym (ap (λ l. text ++ flat_map line l) (drop_more xs i x within)) ∙ so_far

  pub line_all : (text all : List ℕ) → length xs ≤ i → text ++ flat_map line (drop i xs) ≡ all → text ≡ all
  line_all text all over so_far =
      sym (append-nil text) ∙ sym (ap (λ l. text ++ flat_map line l) (drop_all i xs over)) ∙ so_far
