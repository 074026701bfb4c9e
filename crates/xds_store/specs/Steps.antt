-- What a call leaves of a store's trees: what is committed, and what a crash may leave.
--     IsPending      nothing is committed: a crash leaves nothing new
--     IsFresh        the transaction has changed nothing yet
--     Survives       a crash leaves what it could leave before, or what the call commits
use Rattle.std.specs.Prelude.{◌≡◌, ◌⊎◌, ◌≤◌, false, IsTrue}
use Rattle.sqlite_trees.specs.Tree.{Trees}
use Rattle.sqlite_trees.specs.View.{View, doubt}

-- nothing is committed: a crash leaves nothing new
pub record IsPending {S : Type 0} (view : S → View) (recovers : S → Trees → Type 0) (old new : S) : Type 0 where
  pub clean : doubt (view old).is_clean ≤ doubt (view new).is_clean
  pub was_open : IsTrue (view new).is_open → IsTrue (view old).is_open
  pub committed : IsTrue (view new).is_open → (view new).committed ≡ (view old).committed
  pub outcomes : (db : Trees) → recovers new db → recovers old db

-- the transaction has changed nothing yet
pub record IsFresh (v : View) : Type 0 where
  pub sound : v.is_broken ≡ false
  pub same : v.trees ≡ v.committed

-- rule: stored
-- a crash leaves what it could leave before, or what the call commits
abbrev pub Survives : {S : Type 0} → (S → Trees → Type 0) → S → S → (Trees → Type 0) → Type 0
Survives recovers old new Made = (db : Trees) → recovers new db → recovers old db ⊎ Made db
