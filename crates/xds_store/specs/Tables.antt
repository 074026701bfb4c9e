-- The two tables of a store, and the number in the first of them.
--     numbers_tree                the tree of the table of numbers
--     writes_tree                 the tree of the table of writes
--     HasTables                   the trees are there, of the right shapes
--     next_in                     the next free replica number of some rows, 1 where none is noted
--     next_number                 the next free replica number of a store
use Rattle.std.specs.Prelude.{◌≡◌, ℕ, pos, List, [], ◌∷◌, filter}
use Rattle.sqlite_value.specs.Keys.{plain}
use Rattle.sqlite_value.specs.Order.{Row, column}
use Rattle.sqlite_trees.specs.declared.store.Shape.TheVariants.{Table, Index}
use Rattle.sqlite_trees.specs.Objects.{number_in}
use Rattle.sqlite_trees.specs.Tree.{Trees, has_rowid}
use Rattle.sqlite_trees.specs.View.{View}

-- the trees of the two
abbrev pub numbers_tree : ℕ
numbers_tree = 0

abbrev pub writes_tree : ℕ
writes_tree = 1

-- the trees are there, of the right shapes
pub record HasTables (v : View) : Type 0 where
  pub numbers : v.shape numbers_tree ≡ Table
  pub writes : v.shape writes_tree ≡ Index plain

-- the next free replica number, 1 where none is noted: it stands in the one row of its table, in the column behind the key
abbrev pub next_in : List Row → ℕ
next_in [] = 1
next_in (r ∷ rows) = number_in (column r 2)

abbrev pub next_number : Trees → ℕ
next_number trees = next_in (filter (has_rowid (pos 1)) (trees numbers_tree))
