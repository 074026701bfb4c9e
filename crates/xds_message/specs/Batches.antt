-- Which JSON values spell a batch of stamped writes, and the object that is written for one. A batch keeps the writes of each type in their order; how writes of different types stand to each other counts for nothing. This project's own.
--     typed_write                 a write of any type, with its type
--     by_type                     the batch of some writes: of each type those that are of it, in their order
--     typed                       the writes of one type, with it
--     in_order                    all writes of a batch
--     AreWrites                   a list of writes, of which there are none where nothing is set
--     IsBatch                     the batch that a list of writes comes to
--     SpellsBatch                 which values spell it
--     batch_fields                the fields that are written for it
--     batch_object                the object that is written for a batch: no list is written where there is no write
--     IsSound                     what every write that is held keeps
--     SpellsOneBatch              a value spells one batch at most
--     IsBatchSpelledByItsObject   the object of a batch spells it
--     IsBatchOfItsWrites          the writes of a batch come to the batch
use Rattle.std.specs.Prelude.{◌≡◌, List, [], ◌∷◌, map, All, Option, codes}
use Rattle.std.specs.List.{AllZip, flat_map}
use Rattle.serde_json.specs.Data.{Data, array}
use Rattle.serde_json.specs.Find.{get}
use Rattle.serde_json.specs.View.{items_of}
use Rattle.xds_resource.specs.declared.any.AnyWrite.{AnyWrite}
use Rattle.xds_resource.specs.declared.types.TypeName.{TypeName}
use Rattle.xds_resource.specs.Any.{write_type, stamped_write}
use Rattle.xds_resource.specs.PerType.{PerType, at, per_type}
use Rattle.xds_resource.specs.Resources.{IsWritable}
use Rattle.xds_resource.specs.Stamps.{IsStamp}
use Rattle.xds_resource.specs.TypedWrites.{TypedWrite, writes_of}
use Rattle.xds_resource.specs.Types.{types}
use Rattle.xds_resource.specs.Writes.{StampedWrite}
use Rattle.xds_json.specs.Spelling.{IsObject, IsOrDefault, set_value}
use Rattle.xds_json.specs.WrittenFields.{Fields, list_data, object_set}
use Rattle.xds_message.specs.StampedWrites.{IsSpelledBy, write_object}

-- a write of any type, with its type
abbrev pub typed_write : AnyWrite → TypedWrite
typed_write w = (write_type w, stamped_write w)

-- the batch of some writes: of each type those that are of it, in their order
abbrev pub by_type : List TypedWrite → PerType (List StampedWrite)
by_type ws = per_type (λ t. writes_of t ws)

-- the writes of one type, with it
abbrev pub typed : TypeName → List StampedWrite → List TypedWrite
typed t ws = map (λ w. (t, w)) ws

-- all writes of a batch: by type in the table's order, and those of a type in their order
abbrev pub in_order : PerType (List StampedWrite) → List TypedWrite
in_order b = flat_map (λ t. typed t (at b t)) types

-- a list of writes, of which there are none where nothing is set
abbrev pub AreWrites : Option Data → List TypedWrite → Type 0
AreWrites o ws = IsOrDefault [] (λ d vs. (ds : List Data) × (d ≡ array (items_of ds)) × AllZip IsSpelledBy ds vs) (set_value o) ws

-- the batch that a list of writes comes to
abbrev pub IsBatch : Option Data → PerType (List StampedWrite) → Type 0
IsBatch o b = (ws : List TypedWrite) × AreWrites o ws × (by_type ws ≡ b)

pub record SpellsBatch (d : Data) (b : PerType (List StampedWrite)) : Type 0 where
  pub is_object : IsObject d
  pub writes : IsBatch (get (codes "writes") d) b

abbrev pub batch_fields : PerType (List StampedWrite) → Fields
batch_fields b = (codes "writes", list_data (map (λ x. write_object x.0 x.1) (in_order b))) ∷ []

-- the object that is written for a batch: no list is written where there is no write
abbrev pub batch_object : PerType (List StampedWrite) → Data
batch_object b = object_set (batch_fields b)

-- what every write that is held keeps: it may stand in a catalogue of its type, and its stamp is in range
pub record IsSound (x : TypedWrite) : Type 0 where
  pub writable : IsWritable x.0 x.1
  pub stamped : IsStamp x.1.counter x.1.writer

-- A value spells one batch at most.
abbrev pub SpellsOneBatch : Data → Type 0
SpellsOneBatch d = (a b : PerType (List StampedWrite)) → SpellsBatch d a → SpellsBatch d b → a ≡ b

-- The object of a batch spells it.
abbrev pub IsBatchSpelledByItsObject : PerType (List StampedWrite) → Type 0
IsBatchSpelledByItsObject b = All IsSound (in_order b) → SpellsBatch (batch_object b) b

-- The writes of a batch come to the batch.
abbrev pub IsBatchOfItsWrites : PerType (List StampedWrite) → Type 0
IsBatchOfItsWrites b = by_type (in_order b) ≡ b
