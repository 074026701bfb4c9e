-- The row that a write is stored as, and the write that a row is read as.
--     body_value                 the value of a body, and NULL of a deletion
--     groups_data                groups as a list of texts
--     row_with                   the row of a write, with this text of its groups
--     IsRowOf                    the row is one that the write is stored as
--     text_of                    the text that a value is, empty where it is none
--     texts_of                   the texts of the items of a list
--     texts_in                   the texts of a value that is a list
--     body_in                    the body that a row has
--     groups_in                  the groups that a text lists
--     typed_in                   the write that a row is read as, with its type
--     IsRow                      a row that is read as what it is stored for
--     AreRows                    rows that each are
--     stored                     the writes of a type, of those that the table has
--     best_in                    the best write of a name, of those of a type
--     Puts                       the table has the best of what it had and of these writes, at each name of each type
use Rattle.std.specs.Prelude.{◌≡◌, ◌≢◌, ℕ, pos, List, [], ◌∷◌, map, Option, Some, None, unwrap_or}
use Rattle.std.specs.List.{AllByRecursion}
use Rattle.serde_json.specs.Data.{Data, null, boolean, number, string, array, object, Items, no_items, item}
use Rattle.serde_json.specs.Read.{read}
use Rattle.serde_json.specs.View.{items_of}
use Rattle.sqlite_value.specs.declared.value.Value.{Value}
use Rattle.sqlite_value.specs.declared.value.Value.TheVariants.{Null, Int, Real, Text, Blob}
use Rattle.sqlite_value.specs.Order.{Row, column, bytes}
use Rattle.sqlite_trees.specs.Objects.{number_in}
use Rattle.sqlite_trees.specs.Tree.{Trees}
use Rattle.xds_resource.specs.declared.types.TypeName.{TypeName}
use Rattle.xds_resource.specs.declared.types.TypeName.TheVariants.{Cluster}
use Rattle.xds_resource.specs.Best.{greater, best}
use Rattle.xds_resource.specs.Resources.{value_of}
use Rattle.xds_resource.specs.TypedWrites.{TypedWrite, writes_of}
use Rattle.xds_resource.specs.Types.{row, type_of_word}
use Rattle.xds_resource.specs.Writes.{StampedWrite}
use Rattle.xds_store.specs.Tables.{writes_tree}

-- the value of a body, and NULL of a deletion
abbrev pub body_value : Option (List ℕ) → Value
body_value None = Null
body_value (Some text) = Text text

-- groups as a list of texts
abbrev pub groups_data : List (List ℕ) → Data
groups_data groups = array (items_of (map string groups))

-- the row of a write, with this text of its groups
abbrev pub row_with : TypedWrite → List ℕ → Row
row_with x groups = Text (row x.0).word ∷ Text x.1.name ∷ Int (pos x.1.counter) ∷ Int (pos x.1.writer) ∷ body_value x.1.body ∷ Text groups ∷ []

-- the row is one that the write is stored as: its groups are a JSON list of texts
pub record IsRowOf (r : Row) (x : TypedWrite) : Type 0 where
  pub groups : List ℕ
  pub is : r ≡ row_with x groups
  pub listed : read groups ≡ Some (groups_data x.1.groups)

-- the body that a row has
abbrev pub body_in : Value → Option (List ℕ)
body_in Null = None
body_in (Int n) = None
body_in (Real x) = None
body_in (Text text) = Some text
body_in (Blob b) = None

-- a text, the texts of a list, and of a value
abbrev pub text_of : Data → List ℕ
text_of null = []
text_of (boolean b) = []
text_of (number n) = []
text_of (string s) = s
text_of (array ds) = []
text_of (object ms) = []

abbrev pub texts_of : Items → List (List ℕ)
texts_of no_items = []
texts_of (item d ds) = text_of d ∷ texts_of ds

abbrev pub texts_in : Data → List (List ℕ)
texts_in null = []
texts_in (boolean b) = []
texts_in (number n) = []
texts_in (string s) = []
texts_in (array ds) = texts_of ds
texts_in (object ms) = []

-- the groups that a text lists
abbrev pub groups_in : List ℕ → List (List ℕ)
groups_in text = texts_in (value_of text)

-- the write that a row is read as, with its type
abbrev pub typed_in : Row → TypedWrite
typed_in r = (
  unwrap_or (type_of_word (bytes (column r 0))) Cluster,
  record { name = bytes (column r 1); counter = number_in (column r 2); writer = number_in (column r 3); body = body_in (column r 4); groups = groups_in (bytes (column r 5)) },
)

-- a row that is read as what it is stored for
abbrev pub IsRow : Row → Type 0
IsRow r = IsRowOf r (typed_in r)

abbrev pub AreRows : List Row → Type 0
AreRows = AllByRecursion IsRow

-- the writes of a type, of those that the table has
abbrev pub stored : TypeName → List Row → List StampedWrite
stored t rows = writes_of t (map typed_in rows)

-- the best write of a name, of those of a type
abbrev pub best_in : TypeName → List Row → List ℕ → Option StampedWrite
best_in t rows name = best (stored t rows) name

-- The table has the best of what it had and of these writes, at each name of each type. No other tree changes.
pub record Puts (old new : Trees) (xs : List TypedWrite) : Type 0 where
  pub others : (tree : ℕ) → tree ≢ writes_tree → new tree ≡ old tree
  pub rows : AreRows (old writes_tree) → AreRows (new writes_tree)
  pub best_of_both : AreRows (old writes_tree) → (t : TypeName) (name : List ℕ)
      → best_in t (new writes_tree) name ≡ greater (best_in t (old writes_tree) name) (best (writes_of t xs) name)
