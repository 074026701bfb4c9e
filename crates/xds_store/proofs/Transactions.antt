-- A call that begins a transaction, makes something and commits it: what is committed then, and what a crash leaves.
use Rattle.std.proofs.Common.{◌≡◌, inl, inr, ℕ, ◌≤◌, Bool, true, false, IsTrue, true≢false, refl, sym, ap, subst, ◌∙◌, arith}
use Rattle.sqlite_trees.specs.Tree.{Trees}
use Rattle.sqlite_trees.specs.View.{View, IsClean}
use Rattle.sqlite_trees.proofs.Doubt.{no_doubt}
use Rattle.xds_store.specs.Numbers.{AreTaken}
use Rattle.xds_store.specs.Steps.{IsPending, IsFresh, Survives}
use Rattle.xds_store.specs.Tables.{next_number}

module _ {S : Type 0} (view : S → View) (recovers : S → Trees → Type 0)
    (shut_if_dirty : (s : S) → (view s).is_clean ≡ false → (view s).is_open ≡ false)
    (broken_if_shut : (s : S) → (view s).is_open ≡ false → IsTrue (view s).is_broken) where
  open_at : (s : S) (b : Bool) → (view s).is_open ≡ b → (view s).is_broken ≡ false → IsTrue (view s).is_open
  open_at s true e sound = rw e refl
  open_at s false e sound = absurd (true≢false (sym (broken_if_shut s e) ∙ sound))

  pub sound_open : (s : S) → (view s).is_broken ≡ false → IsTrue (view s).is_open
  sound_open s sound = open_at s (view s).is_open refl sound

  clean_at : (s : S) (b : Bool) → (view s).is_clean ≡ b → (view s).is_broken ≡ false → IsClean (view s)
  clean_at s true e sound = no_doubt (view s).is_clean e
  clean_at s false e sound = absurd (true≢false (sym (sound_open s sound) ∙ shut_if_dirty s e))

  pub sound_clean : (s : S) → (view s).is_broken ≡ false → IsClean (view s)
  sound_clean s sound = clean_at s (view s).is_clean refl sound

  -- a transaction that has changed nothing sees what was committed
  pub fresh_trees : (old a : S) → IsPending view recovers old a → IsFresh (view a) → (view a).trees ≡ (view old).committed
  fresh_trees old a one fresh = fresh.same ∙ one.committed (sound_open a fresh.sound)

  -- what the transaction began with is what was committed
  pub began : (old a b : S) → IsPending view recovers old a → (IsClean (view a) → IsFresh (view a)) → IsPending view recovers a b → (view b).is_broken ≡ false
      → (view a).trees ≡ (view old).committed
  began old a b one fresh two sound =
      let clean : IsClean (view a) = omega (arith, two.clean, sound_clean b sound) in
      (fresh clean).same ∙ one.committed (two.was_open (sound_open b sound))

  module _ (Made : Trees → Trees → Type 0) (old a b new : S) (one : IsPending view recovers old a) (fresh : IsClean (view a) → IsFresh (view a)) (two : IsPending view recovers a b)
      (made : IsClean (view b) → Made (view a).trees (view b).trees) where
    made_of_it : (view b).is_broken ≡ false → Made (view old).committed (view b).trees
    made_of_it sound = subst (λ (trees : Trees). Made trees (view b).trees) (began old a b one fresh two sound) (made (sound_clean b sound))

    pub survives : Survives recovers b new (λ db. ((view b).is_broken ≡ false) × (db ≡ (view b).trees)) → Survives recovers old new (λ db. Made (view old).committed db)
    survives crash = λ db left. elim (crash db left) [
      | inl was ↦ inl (one.outcomes db (two.outcomes db was))
      | inr is ↦ inr (subst (λ (trees : Trees). Made (view old).committed trees) (sym is.1) (made_of_it is.0))
    ]

    pub committed : (IsClean (view new) → ((view b).is_broken ≡ false) × ((view new).committed ≡ (view b).trees)) → IsClean (view new) → Made (view old).committed (view new).committed
    committed ok clean = let is = ok clean in subst (λ (trees : Trees). Made (view old).committed trees) (sym is.1) (made_of_it is.0)

    -- numbers that are taken stay so
    pub kept : Survives recovers b new (λ db. ((view b).is_broken ≡ false) × (db ≡ (view b).trees)) → ((s : S) → IsTrue (view s).is_open → recovers s (view s).committed)
        → ((was db : Trees) → Made was db → next_number was ≤ next_number db) → (next : ℕ) → AreTaken recovers old next → AreTaken recovers new next
    kept crash stays grows next taken = λ db left. elim (crash db left) [
      | inl was ↦ taken db (one.outcomes db (two.outcomes db was))
      | inr is ↦ (
          let still_open = one.was_open (two.was_open (sound_open b is.0)) in
          let made_db : Made (view old).committed db = subst (λ (trees : Trees). Made (view old).committed trees) (sym is.1) (made_of_it is.0) in
          omega (arith, taken (view old).committed (stays old still_open), grows (view old).committed db made_db)
          )
    ]

    -- what was free at the beginning is no number that was taken
    pub above : ((s : S) → IsTrue (view s).is_open → recovers s (view s).committed) → (first : ℕ) → ((was db : Trees) → Made was db → next_number was ≤ first)
        → (IsClean (view new) → ((view b).is_broken ≡ false) × ((view new).committed ≡ (view b).trees)) → IsClean (view new) → (next : ℕ) → AreTaken recovers old next → next ≤ first
    above stays first free ok clean next taken =
        let sound = (ok clean).0 in
        let still_open = one.was_open (two.was_open (sound_open b sound)) in
        omega (arith, taken (view old).committed (stays old still_open), free (view old).committed (view b).trees (made_of_it sound))

    -- and each that was taken is below whatever a crash leaves
    pub taken : ((s : S) (db : Trees) → IsTrue (view s).is_open → recovers s db → db ≡ (view s).committed) → (IsClean (view new) → IsTrue (view new).is_open) → (end : ℕ)
        → ((was db : Trees) → Made was db → next_number db ≡ end) → (IsClean (view new) → ((view b).is_broken ≡ false) × ((view new).committed ≡ (view b).trees)) → IsClean (view new) → AreTaken recovers new end
    taken settled is_open end noted ok clean = λ db left.
        let same = settled new db (is_open clean) left in
        omega (arith, ap next_number same, noted (view old).committed (view new).committed (committed ok clean))
