-- What a batch makes of the stored writes: of each type the catalogue of both.
--     AreWrites    each row of the table is that of a write
--     stored_in    a type's stored writes
--     kept         the catalogue of a type's stored writes
--     IsJoined     the stored writes and those of a batch are joined, as catalogues are, and no other tree changes
--     IsFound      the row is one of those that a seek by some key gives
use Rattle.std.specs.Prelude.{◌≡◌, ◌≢◌, ℕ, List, ◌∷◌, ◌++◌}
use Rattle.sqlite_value.specs.Keys.{plain}
use Rattle.sqlite_value.specs.Order.{Row}
use Rattle.sqlite_trees.specs.Tree.{Trees, from_key}
use Rattle.xds_resource.specs.declared.types.TypeName.{TypeName}
use Rattle.xds_resource.specs.PerType.{PerType, at}
use Rattle.xds_resource.specs.Writes.{StampedWrite}
use Rattle.xds_catalogue.specs.Holdings.{Entries, catalogue_of}
use Rattle.xds_store.specs.Rows.{AreRows, stored}
use Rattle.xds_store.specs.Tables.{writes_tree}

-- each row of the table is that of a write
abbrev pub AreWrites : Trees → Type 0
AreWrites trees = AreRows (trees writes_tree)

-- rule: stored
-- a type's stored writes
abbrev pub stored_in : Trees → TypeName → List StampedWrite
stored_in trees t = stored t (trees writes_tree)

-- the catalogue of a type's stored writes
abbrev pub kept : Trees → TypeName → Entries
kept trees t = catalogue_of (stored_in trees t)

-- rule: greatest-write, rule: stored
-- The stored writes and those of a batch are joined, as catalogues are, and no other tree changes.
pub record IsJoined (old new : Trees) (batch : PerType (List StampedWrite)) : Type 0 where
  pub others : (tree : ℕ) → tree ≢ writes_tree → new tree ≡ old tree
  pub writes : AreWrites old → AreWrites new
  pub joined : AreWrites old → (t : TypeName) → kept new t ≡ catalogue_of (stored_in old t ++ at batch t)

-- the row is one of those that a seek by some key gives
pub record IsFound (rows : List Row) (r : Row) : Type 0 where
  pub key : Row
  pub later : List Row
  pub is : from_key plain key rows ≡ r ∷ later
