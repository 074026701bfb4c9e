-- Calls that commit nothing, by what each says of the trees where the disk is clean.
use Rattle.std.proofs.Common.{◌≡◌, ℕ, Bool, true, false, IsTrue, true≢false, refl, sym, ap, ◌∙◌}
use Rattle.sqlite_trees.specs.Tree.{Trees}
use Rattle.sqlite_trees.specs.View.{View, IsClean, IsQuiet, IsRolledBack}
use Rattle.sqlite_trees.proofs.Doubt.{no_doubt}
use Rattle.xds_store.specs.Steps.{IsPending}

module _ {S : Type 0} (view : S → View) (recovers : S → Trees → Type 0) (shut_if_dirty : (s : S) → (view s).is_clean ≡ false → (view s).is_open ≡ false) where
  clean_at : (s : S) (b : Bool) → (view s).is_clean ≡ b → IsTrue (view s).is_open → IsClean (view s)
  clean_at s true e is = no_doubt (view s).is_clean e
  clean_at s false e is = absurd (true≢false (sym is ∙ shut_if_dirty s e))

  -- an open store is clean
  pub open_clean : (s : S) → IsTrue (view s).is_open → IsClean (view s)
  open_clean s is = clean_at s (view s).is_clean refl is

  module _ (faults : S → ℕ) (Shielded : S → Type 0) (old new : S) (quiet : IsQuiet view faults recovers Shielded old new) where
    pub pending : (IsClean (view new) → IsTrue (view new).is_open → IsTrue (view old).is_open × ((view new).committed ≡ (view old).committed)) → IsPending view recovers old new
    pending same = record {
      clean = quiet.clean;
      was_open = λ is. (same (open_clean new is) is).0;
      committed = λ is. (same (open_clean new is) is).1;
      outcomes = quiet.outcomes;
    }

    pub pending_on_rollback : IsRolledBack (view old) (view new) → IsPending view recovers old new
    pending_on_rollback back = pending (λ clean is. ((back.kept clean).was_open is, (back.kept clean).committed is))

    -- a call after which only what the record leaves out may differ
    pub pending_on_same : (v : View) → (IsTrue v.is_open → IsTrue (view old).is_open) → v.committed ≡ (view old).committed → (IsClean (view new) → view new ≡ v) → IsPending view recovers old new
    pending_on_same v was same is = pending (λ clean o. (was (rw (sym (is clean)) o), ap (λ x. x.committed) (is clean) ∙ same))

  pub committed_on_rollback : (old new : S) → IsRolledBack (view old) (view new) → IsTrue (view new).is_open → IsTrue (view old).is_open × ((view new).committed ≡ (view old).committed)
  committed_on_rollback old new back is = let kept = back.kept (open_clean new is) in (kept.was_open is, kept.committed is)
