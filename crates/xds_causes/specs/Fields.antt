-- What the fields of a message's object hold, as their readers have it. This project's own.
--     shape_text     what is told that a field is to hold
--     HasNumber      a number from 1 to the most stands there
--     HasName        the name of a resource stands there
--     Holds          the object has a field of these names as one of this shape is to be
--     Wanted         a field: its lowerCamelCase name, that of the proto file, and what it is to hold
--     wanted         the field that a value of the program says
--     Fits           so the object has the field
--     IsFirstWrong   the first of some fields that the object doesn't have so, if there is one
--     Tells          a test is false where something is so, and else true
--     WasRefused     whether a read was refused, and that for another reason than memory
use Rattle.std.specs.Prelude.{◌≡◌, ◌≢◌, ◌≤◌, ◌⊎◌, ℕ, List, [], ◌∷◌, Option, Some, None, Bool, true, false, codes, Result, Ok, Err, ⊤}
use Rattle.serde_json.specs.Data.{Data, number, string, unsigned}
use Rattle.serde_json.specs.Find.{get}
use Rattle.xds_resource.specs.declared.refusal.Refusal.{Refusal}
use Rattle.xds_resource.specs.declared.refusal.Refusal.TheVariants.{OutOfMemory}
use Rattle.xds_resource.specs.Fields.{field}
use Rattle.xds_resource.specs.Resources.{is_valid_name}
use Rattle.xds_json.specs.Spelling.{IsInner, IsText, IsTexts}
use Rattle.xds_json.specs.Parts.{Failure, Identity, SpellsFailure, SpellsIdentity}
use Rattle.xds_json.specs.Versions.{IsVersions, VersionMap}
use Rattle.xds_causes.specs.declared.fields.Field.{Field}
use Rattle.xds_causes.specs.declared.fields.Shape.{Shape}
use Rattle.xds_causes.specs.declared.fields.Shape.TheVariants as shapes

-- what is told that a field is to hold
abbrev pub shape_text : Shape → List ℕ
shape_text shapes.Text = codes "a text"
shape_text shapes.Texts = codes "a list of texts"
shape_text shapes.Node = codes "an object with the texts \"id\" and \"cluster\""
shape_text shapes.Detail = codes "an object with the number \"code\" and the text \"message\""
shape_text shapes.Versions = codes "an object whose values are texts"
shape_text shapes.Counter = codes "a number from 1 to 9223372036854775807"
shape_text shapes.Writer = codes "a number from 1 to 65535"
shape_text shapes.Name = codes "the name of a resource: a text, not empty and not *"

-- a number from 1 to the most stands there
abbrev pub HasNumber : ℕ → Option Data → Type 0
HasNumber most o = (n : ℕ) × (o ≡ Some (number (unsigned n))) × (1 ≤ n) × (n ≤ most)

-- the name of a resource stands there
abbrev pub HasName : Option Data → Type 0
HasName o = (name : List ℕ) × (o ≡ Some (string name)) × (is_valid_name name ≡ true)

-- the object has a field of these names as one of this shape is to be
abbrev pub Holds : Shape → List ℕ → List ℕ → Data → Type 0
Holds shapes.Text camel proto d = (text : List ℕ) × IsText (field camel proto d) text
Holds shapes.Texts camel proto d = (texts : List (List ℕ)) × IsTexts (field camel proto d) texts
Holds shapes.Node camel proto d = (node : Option Identity) × IsInner SpellsIdentity (field (codes "node") (codes "node") d) node
Holds shapes.Detail camel proto d = (detail : Option Failure) × IsInner SpellsFailure (field (codes "errorDetail") (codes "error_detail") d) detail
Holds shapes.Versions camel proto d = (versions : VersionMap) × IsVersions (field camel proto d) versions
Holds shapes.Counter camel proto d = HasNumber 9223372036854775807 (get camel d)
Holds shapes.Writer camel proto d = HasNumber 65535 (get camel d)
Holds shapes.Name camel proto d = HasName (get camel d)

-- a field: its lowerCamelCase name, that of the proto file, and what it is to hold
pub record Wanted : Type 0 where
  pub camel : List ℕ
  pub proto : List ℕ
  pub shape : Shape

-- the field that a value of the program says
abbrev pub wanted : Field → Wanted
wanted f = record { camel = f.camel.now; proto = f.proto.now; shape = f.shape }

-- so the object has the field
abbrev pub Fits : Wanted → Data → Type 0
Fits w d = Holds w.shape w.camel w.proto d

-- the first of some fields that the object doesn't have so, if there is one
abbrev pub IsFirstWrong : List Wanted → Data → Option Wanted → Type 0
IsFirstWrong [] d o = o ≡ None
IsFirstWrong (w ∷ ws) d o = ((Fits w d → ⊥) × (o ≡ Some w)) ⊎ (Fits w d × IsFirstWrong ws d o)

-- a test is false where something is so, and else true
abbrev pub Tells : Type 0 → Bool → Type 0
Tells Is false = Is
Tells Is true = Is → ⊥

-- whether a read was refused, and that for another reason than memory
abbrev pub WasRefused : {X : Type 0} → Bool → Result X Refusal → Type 0
WasRefused false (Ok x) = ⊤
WasRefused false (Err e) = ⊥
WasRefused true (Ok x) = ⊥
WasRefused true (Err e) = e ≢ OutOfMemory
