-- What a field is written as in the proto3 JSON mapping, where one that holds its default is left out; and the objects of the
-- parts that requests of both variants have.
--     text_data                        the value of a text, and nothing where it is empty
--     list_data                        the value of a list, and nothing where it is empty
--     code_data                        the value of a code, and nothing where it is 0
--     Fields                           names, each with the value that is set there
--     put_set                          members with a value at a key, where there is one
--     members_set                      the members of those fields that have a value
--     object_set                       the object of these members
--     identity_fields                  the fields that are written for it
--     identity_object                  the object that is written for it
--     failure_fields                   the fields that are written for it
--     failure_object                   the object that is written for it
use Rattle.std.specs.Prelude.{ℕ, zero, suc, ℤ, pos, negsuc, List, [], ◌∷◌, Option, Some, None, codes}
use Rattle.serde_json.specs.Data.{Data, number, string, array, object, Members, no_members, put}
use Rattle.serde_json.specs.Find.{of_integer}
use Rattle.serde_json.specs.View.{items_of}
use Rattle.xds_json.specs.Parts.{Identity, Failure}

-- ---- what a field is written as, and nothing for its default

abbrev pub text_data : List ℕ → Option Data
text_data [] = None
text_data (c ∷ cs) = Some (string (c ∷ cs))

abbrev pub list_data : List Data → Option Data
list_data [] = None
list_data (d ∷ ds) = Some (array (items_of (d ∷ ds)))

abbrev pub code_data : ℤ → Option Data
code_data (pos zero) = None
code_data (pos (suc n)) = Some (number (of_integer (pos (suc n))))
code_data (negsuc n) = Some (number (of_integer (negsuc n)))

-- ---- a message as the list of its fields

-- names, each with the value that is set there
abbrev pub Fields : Type 0
Fields = List (List ℕ × Option Data)

-- the members, with a value at a key where there is one
abbrev pub put_set : List ℕ → Option Data → Members → Members
put_set key None ms = ms
put_set key (Some d) ms = put key d ms

abbrev pub members_set : Fields → Members
members_set [] = no_members
members_set (f ∷ fs) = put_set f.0 f.1 (members_set fs)

abbrev pub object_set : Fields → Data
object_set fields = object (members_set fields)

abbrev pub identity_fields : Identity → Fields
identity_fields m = (codes "id", text_data m.id) ∷ (codes "cluster", text_data m.cluster) ∷ []

abbrev pub identity_object : Identity → Data
identity_object m = object_set (identity_fields m)

abbrev pub failure_fields : Failure → Fields
failure_fields m = (codes "code", code_data m.code) ∷ (codes "message", text_data m.message) ∷ []

abbrev pub failure_object : Failure → Data
failure_object m = object_set (failure_fields m)
