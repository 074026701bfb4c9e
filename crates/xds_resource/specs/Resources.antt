-- Which texts and JSON values are resources of a type, and why others are refused. A resource is the proto3 JSON form of
-- an Any: the message's object with one more key `@type`. The limits are this project's own.
--     NamedBody, named_body_code   a resource: its name, and the compact text of its object
--     max_text                     at most this many bytes
--     max_nesting                  at most this deep
--     max_name                     a name has at most this many bytes
--     value_of                     the value that a text reads as, and `null` for one that is no JSON
--     is_valid_name                a name that a resource may have
--     name_text                    the text of a name field, empty where it is absent or `null`
--     type_text                    the text at `@type` of a value, if there is one
--     has_type                     whether that is the URL of a type
--     resource_name                the name of the resource that a value is of a type
--     is_resource                  whether a value is an object of the type, whose name field is a text
--     name_or_empty                the name of a value, empty where it has none
--     resource_of                  the resource that a value is
--     object_conditions            what the object of a resource has to be like
--     from_object                  what a shallow, whole value is as a resource of the type
--     front_conditions             what any resource's text has to be like
--     ReadsAs                      the text reads as the value, and is none that every type refuses
--     text_conditions              why a text is refused, in order
--     value_conditions             why a value is refused, in order
--     parsed                       what a text is as a resource of the type
--     from_value                   what a value is as a resource of the type
--     IsCanonical                  the body is the compact text, not too long, of a whole
--     named_type                   the type of the table that a value's `@type` names
--     IsRefused                    a text of any type is refused as one of the type that it names
--     IsWritable                   a write of the type
--     written                      the write that puts a resource, for these groups
--     deleted                      the write that deletes the resource of a name
use Rattle.std.specs.Prelude.{ℕ, ◌≡◌, ◌≤◌, List, [], ◌∷◌, ◌++◌, length, Bool, true, false, not, ◌&&◌, nat_lt, bytes_eq, Option, Some, None, is_some, is_none, MatchOption, unwrap_or, Result, Ok, Err, codes, refl}
use Rattle.std.specs.Coded.{Coded, code_by, coded×, coded_ℕ, coded_list}
use Rattle.std.specs.Option.{ForSome, option_and_then, option_map_or}
use Rattle.serde_json.specs.Data.{Data, null, boolean, number, string, array, object, depth}
use Rattle.serde_json.specs.Read.{read}
use Rattle.serde_json.specs.Find.{get, as_str}
use Rattle.serde_json.specs.Written.{compact_text, has_float}
use Rattle.xds_resource.specs.declared.types.TypeName.{TypeName}
use Rattle.xds_resource.specs.declared.refusal.Refusal.{Refusal}
use Rattle.xds_resource.specs.declared.refusal.Refusal.TheVariants.{NotJson, TooDeep, NotWhole, BadResource, BadName, TooLong}
use Rattle.xds_resource.specs.Types.{row, type_of_url}
use Rattle.xds_resource.specs.Fields.{field}
use Rattle.xds_resource.specs.Refusals.{unless_refused}
use Rattle.xds_resource.specs.Groups.{IsGroups}
use Rattle.xds_resource.specs.Writes.{StampedWrite}

-- a resource: its name, and the compact text of its object
pub record NamedBody : Type 0 where
  pub name : List ℕ
  pub body : List ℕ

abbrev pub named_body_code : Coded NamedBody
named_body_code =
    code_by (List ℕ × List ℕ) (coded× (coded_list coded_ℕ) (coded_list coded_ℕ)) (λ r. (r.name, r.body)) (λ p. record { name = p.0; body = p.1 }) (λ _. refl)

-- at most this many bytes
abbrev pub max_text : ℕ
max_text = 1048576

-- at most this deep
abbrev pub max_nesting : ℕ
max_nesting = 100

-- a name has at most this many bytes
abbrev pub max_name : ℕ
max_name = 1024

-- the value that a text reads as, and `null` for one that is no JSON
abbrev pub value_of : List ℕ → Data
value_of text = unwrap_or (read text) null

-- a name that a resource may have
abbrev pub is_valid_name : List ℕ → Bool
is_valid_name name = nat_lt 0 (length name) && not (nat_lt max_name (length name)) && not (bytes_eq name (codes "*"))

-- the text of a name field, empty where it is absent or `null`, and none where it holds something else
abbrev pub name_text : Option Data → Option (List ℕ)
name_text None = Some []
name_text (Some null) = Some []
name_text (Some (boolean b)) = None
name_text (Some (number n)) = None
name_text (Some (string s)) = Some s
name_text (Some (array ds)) = None
name_text (Some (object ms)) = None

-- what the value's `@type` says
abbrev pub type_text : Data → Option (List ℕ)
type_text d = option_and_then as_str (get (codes "@type") d)

abbrev pub has_type : TypeName → Data → Bool
has_type t d = option_map_or (λ url. bytes_eq url (row t).url) (type_text d) false

-- the name of the resource that a value is of a type
abbrev pub resource_name : TypeName → Data → Option (List ℕ)
resource_name t d = name_text (field (row t).name_field (row t).proto_name_field d)

-- an object of the type, whose name field is a text
abbrev pub is_resource : TypeName → Data → Bool
is_resource t d = has_type t d && is_some (resource_name t d)

abbrev pub name_or_empty : TypeName → Data → List ℕ
name_or_empty t d = unwrap_or (resource_name t d) []

-- the resource that a value is
abbrev pub resource_of : TypeName → Data → NamedBody
resource_of t d = record { name = name_or_empty t d; body = compact_text d }

-- what the object of a resource has to be like
abbrev pub object_conditions : TypeName → Data → List (Bool × Refusal)
object_conditions t d = (not (is_resource t d), BadResource) ∷ (not (is_valid_name (name_or_empty t d)), BadName) ∷ []

-- what a shallow, whole value is as a resource of the type
abbrev pub from_object : TypeName → Data → Result NamedBody Refusal
from_object t d = unless_refused (object_conditions t d) (resource_of t d)

-- What any resource's text has to be like. The last is never why one is refused, since the compact text of what was read
-- is no longer than the text.
abbrev pub front_conditions : List ℕ → List (Bool × Refusal)
front_conditions text =
    (nat_lt max_text (length text), TooLong) ∷ (is_none (read text), NotJson) ∷ (nat_lt max_nesting (depth (value_of text)), TooDeep) ∷ (has_float (value_of text), NotWhole)
    ∷ (nat_lt max_text (length (compact_text (value_of text))), TooLong) ∷ []

-- the text reads as the value, and is none that every type refuses
abbrev pub ReadsAs : List ℕ → Data → Type 0
ReadsAs text d = unless_refused (front_conditions text) (value_of text) ≡ Ok d

-- why a text is refused, in order
abbrev pub text_conditions : TypeName → List ℕ → List (Bool × Refusal)
text_conditions t text = front_conditions text ++ object_conditions t (value_of text)

-- why a value is refused, in order
abbrev pub value_conditions : TypeName → Data → List (Bool × Refusal)
value_conditions t d =
    (has_float d, NotWhole) ∷ (nat_lt max_text (length (compact_text d)), TooLong) ∷ (nat_lt max_nesting (depth d), TooDeep) ∷ object_conditions t d

-- what a text is as a resource of the type
abbrev pub parsed : TypeName → List ℕ → Result NamedBody Refusal
parsed t text = unless_refused (text_conditions t text) (resource_of t (value_of text))

-- what a value is as a resource of the type
abbrev pub from_value : TypeName → Data → Result NamedBody Refusal
from_value t d = unless_refused (value_conditions t d) (resource_of t d)

-- The body is the compact text, not too long, of a whole, shallow value that is this resource, and reads as that value.
pub record IsCanonical (t : TypeName) (r : NamedBody) : Type 0 where
  pub reads : read r.body ≡ Some (value_of r.body)
  pub text : compact_text (value_of r.body) ≡ r.body
  pub short : length r.body ≤ max_text
  pub whole : has_float (value_of r.body) ≡ false
  pub shallow : depth (value_of r.body) ≤ max_nesting
  pub object : from_object t (value_of r.body) ≡ Ok r

-- the type of the table that a value's `@type` names
abbrev pub named_type : Data → Option TypeName
named_type d = option_and_then type_of_url (type_text d)

-- A text of any type is refused as one of the type that it names, and where it names none as one of each type.
abbrev pub IsRefused : List ℕ → Refusal → Type 0
IsRefused text e = MatchOption (named_type (value_of text)) ((t : TypeName) → parsed t text ≡ Err e) (λ t. parsed t text ≡ Err e)

-- A write of the type: its name is valid, what it puts is a resource of that name, and it lists groups as they are kept. A
-- deletion has none.
pub record IsWritable (t : TypeName) (w : StampedWrite) : Type 0 where
  pub named : is_valid_name w.name ≡ true
  pub body : ForSome w.body (λ b. IsCanonical t (record { name = w.name; body = b }))
  pub groups : IsGroups w.groups
  pub bare : w.body ≡ None → w.groups ≡ []

-- the write that puts a resource, for these groups
abbrev pub written : ℕ → ℕ → NamedBody → List (List ℕ) → StampedWrite
written counter writer r groups = record { name = r.name; counter = counter; writer = writer; body = Some r.body; groups = groups }

-- rule: tombstones
-- the write that deletes the resource of a name
abbrev pub deleted : ℕ → ℕ → List ℕ → StampedWrite
deleted counter writer name = record { name = name; counter = counter; writer = writer; body = None; groups = [] }
