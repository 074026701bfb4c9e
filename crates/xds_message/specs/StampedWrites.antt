-- Which JSON values spell a stamped write, and the object that is written for one. This project's own.
--     IsBodyOf                    the text of the resource of this type and name that a value is
--     IsBody                      the body that a write puts, and none where nothing is set
--     AreGroups                   the groups that a list of texts comes to
--     SpellsWrite                 which values spell it
--     IsSpelledBy                 the same of a type and a write together
--     write_fields                the fields that are written for it
--     write_object                the object that is written for a write
--     SpellsOneWrite              a value spells one write at most
--     IsWriteSpelledByItsObject   the object of a write spells it
use Rattle.std.specs.Prelude.{◌≡◌, ℕ, List, [], ◌∷◌, map, true, Option, Some, None, Ok, IsSomeAnd, option_map, codes}
use Rattle.serde_json.specs.Data.{Data, number, string, unsigned}
use Rattle.serde_json.specs.Find.{get}
use Rattle.xds_resource.specs.declared.types.TypeName.{TypeName}
use Rattle.xds_resource.specs.Types.{row}
use Rattle.xds_resource.specs.Stamps.{IsStamp}
use Rattle.xds_resource.specs.Writes.{StampedWrite}
use Rattle.xds_resource.specs.Groups.{groups_of}
use Rattle.xds_resource.specs.Resources.{is_valid_name, value_of, from_value, IsWritable}
use Rattle.xds_json.specs.Spelling.{IsObject, IsOrDefault, IsTexts, set_value}
use Rattle.xds_json.specs.WrittenFields.{Fields, list_data, object_set}

-- the text of the resource of this type and name that a value is
abbrev pub IsBodyOf : TypeName → List ℕ → Data → List ℕ → Type 0
IsBodyOf t name d text = from_value t d ≡ Ok (record { name = name; body = text })

-- the body that a write puts, and none where nothing is set
abbrev pub IsBody : TypeName → List ℕ → Option Data → Option (List ℕ) → Type 0
IsBody t name o body = IsOrDefault None (λ d b. IsSomeAnd b (IsBodyOf t name d)) (set_value o) body

-- the groups that a list of texts comes to, of which there are none where nothing is set
abbrev pub AreGroups : Option Data → List (List ℕ) → Type 0
AreGroups o groups = (texts : List (List ℕ)) × IsTexts o texts × (groups_of texts ≡ Ok groups)

pub record SpellsWrite (d : Data) (t : TypeName) (w : StampedWrite) : Type 0 where
  pub is_object : IsObject d
  pub type_url : get (codes "typeUrl") d ≡ Some (string (row t).url)
  pub name : get (codes "name") d ≡ Some (string w.name)
  pub valid : is_valid_name w.name ≡ true
  pub counter : get (codes "counter") d ≡ Some (number (unsigned w.counter))
  pub writer : get (codes "writer") d ≡ Some (number (unsigned w.writer))
  pub stamp : IsStamp w.counter w.writer
  pub body : IsBody t w.name (get (codes "body") d) w.body
  pub groups : AreGroups (get (codes "groups") d) w.groups
  -- a deletion has no groups
  pub bare : w.body ≡ None → w.groups ≡ []

-- the same of a type and a write together
abbrev pub IsSpelledBy : Data → TypeName × StampedWrite → Type 0
IsSpelledBy d p = SpellsWrite d p.0 p.1

abbrev pub write_fields : TypeName → StampedWrite → Fields
write_fields t w =
    (codes "body", option_map value_of w.body) ∷ (codes "counter", Some (number (unsigned w.counter))) ∷ (codes "groups", list_data (map string w.groups))
    ∷ (codes "name", Some (string w.name)) ∷ (codes "typeUrl", Some (string (row t).url)) ∷ (codes "writer", Some (number (unsigned w.writer))) ∷ []

-- the object that is written for a write: a deletion has no body, and no list is written where there are no groups
abbrev pub write_object : TypeName → StampedWrite → Data
write_object t w = object_set (write_fields t w)

-- A value spells one write at most.
abbrev pub SpellsOneWrite : Data → Type 0
SpellsOneWrite d = (s t : TypeName) (v w : StampedWrite) → SpellsWrite d s v → SpellsWrite d t w → (s ≡ t) × (v ≡ w)

-- The object of a write spells it.
abbrev pub IsWriteSpelledByItsObject : TypeName → StampedWrite → Type 0
IsWriteSpelledByItsObject t w = IsWritable t w → IsStamp w.counter w.writer → SpellsWrite (write_object t w) t w
