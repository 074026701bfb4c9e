-- Replica numbers: what a call that takes some makes of a store, and what stays so whatever a crash leaves.
--     max_number    the greatest replica number
--     Notes         the number is the next free one, and no other tree changes
--     Takes         the numbers from the first on are taken: those were free
--     AreTaken      whatever a crash leaves now, the numbers below this one are taken
use Rattle.std.specs.Prelude.{◌≡◌, ◌≢◌, ℕ, ◌+◌, ◌≤◌}
use Rattle.sqlite_trees.specs.Tree.{Trees}
use Rattle.xds_store.specs.Tables.{numbers_tree, next_number}

-- the greatest replica number
abbrev pub max_number : ℕ
max_number = 65535

-- the number is the next free one, and no other tree changes
pub record Notes (old new : Trees) (next : ℕ) : Type 0 where
  pub noted : next_number new ≡ next
  pub others : (tree : ℕ) → tree ≢ numbers_tree → new tree ≡ old tree

-- rule: new-numbers
-- the numbers from the first on are taken: those were free, and the free ones below are passed over
pub record Takes (old new : Trees) (first count : ℕ) : Type 0 where
  pub free : next_number old ≤ first
  pub fits : first + count ≤ max_number + 1
  pub noted : Notes old new (first + count)

-- rule: new-numbers
-- whatever a crash leaves now, the numbers below this one are taken
abbrev pub AreTaken : {S : Type 0} → (S → Trees → Type 0) → S → ℕ → Type 0
AreTaken recovers s next = (db : Trees) → recovers s db → next ≤ next_number db
