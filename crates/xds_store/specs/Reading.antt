-- Reading the rows of the table one after another.
--     Batch      writes of each type
--     with_row   the batch with the write of a row behind those of its type
--     ReadsOn    the next row's write is added to the batch, or there is none
--     IsReadTo   of some rows the first ones are read
--     IsWhole    all are read
use Rattle.std.specs.Prelude.{◌≡◌, List, [], ◌∷◌, ◌++◌, map, Bool, true, false, Option, Some}
use Rattle.sqlite_value.specs.Order.{Row}
use Rattle.xds_message.specs.Batches.{by_type}
use Rattle.xds_resource.specs.declared.types.TypeName.{TypeName}
use Rattle.xds_resource.specs.PerType.{PerType, at, with_at}
use Rattle.xds_resource.specs.Writes.{StampedWrite}
use Rattle.xds_store.specs.Rows.{IsRow, AreRows, typed_in, stored}

abbrev pub Batch : Type 0
Batch = PerType (List StampedWrite)

-- the batch with the write of a row behind those of its type
abbrev pub with_row : Batch → Row → Batch
with_row batch r = with_at batch (typed_in r).0 (at batch (typed_in r).0 ++ (typed_in r).1 ∷ [])

-- the next row's write is added to the batch, or there is none
abbrev pub ReadsOn : Option (List Row) → Option (List Row) → Batch → Batch → Bool → Type 0
ReadsOn left later batch more true = (r : Row) × (rows : List Row) × (left ≡ Some (r ∷ rows)) × (later ≡ Some rows) × IsRow r × (more ≡ with_row batch r)
ReadsOn left later batch more false = (left ≡ Some []) × (more ≡ batch)

-- of some rows the first ones are read
pub record IsReadTo (rows : List Row) (cursor : Option (List Row)) (batch : Batch) : Type 0 where
  pub done : List Row
  pub left : List Row
  pub all : rows ≡ done ++ left
  pub next : cursor ≡ Some left
  pub read : batch ≡ by_type (map typed_in done)
  pub are_rows : AreRows done

-- rule: stored
-- all are read
pub record IsWhole (rows : List Row) (batch : Batch) : Type 0 where
  pub are_rows : AreRows rows
  pub stands : (t : TypeName) → at batch t ≡ stored t rows
