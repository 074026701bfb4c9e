-- What a round tells comes to the merge of all.
use Rattle.std.proofs.Common.{◌≡◌, ℕ, Result, Ok, Err, sym, ap, subst, ◌∙◌}
use Rattle.std.specs.Prelude.{IfOk, OnErr}
use Rattle.xds_resource.specs.declared.refusal.Refusal.{Refusal}
use Rattle.xds_resource.specs.PerType.{PerType, at, each}
use Rattle.xds_message.proofs.BatchLemmas.{by_type-in_order}
use Rattle.xds_core.specs.Since.{changed_since}
use Rattle.xds_core.specs.Stores.{Store, merged, grown, all_entries}
use Rattle.xds_core.specs.Steps.{Core}
use Rattle.xds_exchange.specs.Merges.{AllMerged}
use Rattle.xds_exchange.specs.Rounds.{Knows, IsKept, HasAll, told}
use Rattle.xds_exchange.proofs.OneMerge.{parts_one_merge}
use Rattle.xds_exchange.proofs.Knowing.{changes_all, entries_joined, all_known, zeros_know}

module _ (from : Store) (old new : Core) (marks : PerType ℕ) (kept_from : IsKept from) (kept_to : IsKept old.store) (knows : Knows from marks old.store) where
  -- rule: marks
  pub has_all : (parts growth : ℕ) → AllMerged old (told from marks) parts growth new → HasAll from old.store new.store
  has_all parts growth h =
      let once = parts_one_merge old.store (told from marks) kept_to in
      let all = ap (λ (k : Core). k.store) h.left ∙ once.0 ∙ ap (merged old.store) (by_type-in_order (changed_since from marks)) ∙ (changes_all from old.store marks kept_from kept_to knows).0 in
      record { all = all; joined = λ t. ap (λ (s : Store). (at s t).entries) all ∙ entries_joined from old.store t }

  pub grown_all : (parts growth : ℕ) → AllMerged old (told from marks) parts growth new → growth ≡ grown old.store (all_entries from)
  grown_all parts growth h =
      let once = parts_one_merge old.store (told from marks) kept_to in
      h.grows ∙ once.1 ∙ ap (grown old.store) (by_type-in_order (changed_since from marks)) ∙ (changes_all from old.store marks kept_from kept_to knows).1

-- rule: marks
pub knows_again : {X : Type 0} (from old new : Store) (marks : PerType ℕ) (r : Result X Refusal) → IsKept from → IsKept old → IfOk r (λ x. HasAll from old new) → OnErr r (marks ≡ each 0) → Knows from marks new
knows_again from old new marks (Ok x) kept_from kept_to has lost = subst (Knows from marks) (sym has.all) (all_known from old marks kept_from kept_to)
knows_again from old new marks (Err e) kept_from kept_to has lost = subst (λ m. Knows from m new) (sym lost) (zeros_know from new kept_from)
