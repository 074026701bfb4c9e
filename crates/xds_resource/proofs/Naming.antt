-- What a text is as a resource of a type, from the value that it reads as and the type that it names.
use Rattle.std.proofs.Common.{◌≡◌, ℕ, List, Bool, true, false, Option, Some, None, Ok, Err, cond, not, refl, ap, sym, ◌∙◌, subst, arith}
use Rattle.std.proofs.lemmas.Bool.{le-ltb}
use Rattle.std.proofs.lemmas.Bool.Decides.{nat_tests}
use Rattle.std.specs.Prelude.{find, bytes_eq}
use Rattle.std.specs.Option.{ForSome, option_and_then, option_map_or}
use Rattle.std.specs.Prelude.{MatchOption, nat_lt, nat_le, length, ◌≤◌}
use Rattle.serde_json.specs.Data.{depth}
use Rattle.serde_json.specs.Written.{compact_text, has_float}
use Rattle.serde_json.specs.Data.{Data}
use Rattle.xds_resource.specs.declared.types.TypeName.{TypeName}
use Rattle.xds_resource.specs.declared.types.TypeName.TheVariants.{Cluster, Endpoint, Listener, Route, Secret}
use Rattle.xds_resource.specs.declared.refusal.Refusal.{Refusal}
use Rattle.xds_resource.specs.declared.refusal.Refusal.TheVariants.{BadResource, BadName}
use Rattle.xds_resource.specs.Types.{row, types, type_of_url}
use Rattle.xds_resource.specs.Resources.{max_text, max_nesting, from_value, ReadsAs, IsRefused, value_of, type_text, has_type, named_type, front_conditions, object_conditions, resource_of, from_object, parsed, NamedBody, IsCanonical, is_valid_name, is_resource, name_or_empty}
use Rattle.xds_resource.specs.Refusals.{unless_refused}
use Rattle.xds_resource.proofs.Refusing.{unless_refused-append, unless_refused-refused, unless_refused-value}

-- a text that no type refuses is what its value is
pub parsed-from_object : (t : TypeName) (text : List ℕ) (d : Data) → ReadsAs text d → parsed t text ≡ from_object t d
parsed-from_object t text d reads =
    unless_refused-append (front_conditions text) (object_conditions t (value_of text)) (value_of text) d (resource_of t (value_of text)) reads
    ∙ ap (from_object t) (unless_refused-value (front_conditions text) (value_of text) d reads)

-- where the table has no such type, no type is named
none_found : (p : TypeName → Bool) → find p types ≡ None → (t : TypeName) → p t ≡ false
none_found p h Cluster = grind arith
none_found p h Endpoint = grind arith
none_found p h Listener = grind arith
none_found p h Route = grind arith
none_found p h Secret = grind arith

untyped : (o : Option (List ℕ)) → option_and_then type_of_url o ≡ None → (t : TypeName) → option_map_or (λ url. bytes_eq url (row t).url) o false ≡ false
untyped None h t = refl
untyped (Some url) h t = none_found (λ s. bytes_eq url (row s).url) h t

refused_untyped : (t : TypeName) (d : Data) → has_type t d ≡ false → from_object t d ≡ Err BadResource
refused_untyped t d h = rw h refl

abbrev RefusedAs : List ℕ → Refusal → Option TypeName → Type 0
RefusedAs text e o = MatchOption o ((t : TypeName) → parsed t text ≡ Err e) (λ t. parsed t text ≡ Err e)

names_same : (text : List ℕ) (d : Data) (o : Option TypeName) → ReadsAs text d → named_type d ≡ o → named_type (value_of text) ≡ o
names_same text d o reads named = ap named_type (unless_refused-value (front_conditions text) (value_of text) d reads) ∙ named

-- a text that names no type is refused as a resource of each
pub IsRefused-untyped : (text : List ℕ) (d : Data) → ReadsAs text d → named_type d ≡ None → IsRefused text BadResource
IsRefused-untyped text d reads none =
    subst (RefusedAs text BadResource) (sym (names_same text d None reads none))
    (λ t. parsed-from_object t text d reads ∙ refused_untyped t d (untyped (type_text d) none t))

-- a text that names a type is refused as one of that type is
pub IsRefused-typed : (text : List ℕ) (d : Data) (t : TypeName) (e : Refusal) → ReadsAs text d → named_type d ≡ Some t → parsed t text ≡ Err e → IsRefused text e
IsRefused-typed text d t e reads named refused = subst (RefusedAs text e) (sym (names_same text d (Some t) reads named)) refused

refused_as : (text : List ℕ) (e : Refusal) (o : Option TypeName) → ((t : TypeName) → parsed t text ≡ Err e) → RefusedAs text e o
refused_as text e None refused = refused
refused_as text e (Some t) refused = refused t

-- a text that no type takes is refused as a resource of any
pub IsRefused-front : (text : List ℕ) (e : Refusal) → unless_refused (front_conditions text) (value_of text) ≡ Err e → IsRefused text e
IsRefused-front text e refused =
    refused_as text e (named_type (value_of text)) (λ t. unless_refused-refused (front_conditions text) (object_conditions t (value_of text)) (value_of text) (resource_of t (value_of text)) e refused)

conditions_valid : (a b : Bool) (x r : NamedBody) → b ≡ is_valid_name x.name → cond (not a) (Err BadResource) (cond (not b) (Err BadName) (Ok x)) ≡ Ok r → is_valid_name r.name ≡ true
conditions_valid true true x r is e = let same : x ≡ r = cc in ap (λ y. is_valid_name y.name) (sym same) ∙ sym is
conditions_valid true false x r is e = absurd cc
conditions_valid false b x r is e = absurd cc

-- a resource has a valid name
pub canonical-valid : (t : TypeName) (r : NamedBody) → IsCanonical t r → is_valid_name r.name ≡ true
canonical-valid t r canonical =
    let d = value_of r.body in
    conditions_valid (is_resource t d) (is_valid_name (name_or_empty t d)) (resource_of t d) r refl canonical.object

-- the body of a resource is one for its name
pub canonical-body : (t : TypeName) (r : NamedBody) → IsCanonical t r → ForSome (Some r.body) (λ b. IsCanonical t (record { name = r.name; body = b }))
canonical-body t r canonical = λ b e. let same : r.body ≡ b = cc in subst (λ x. IsCanonical t (record { name = r.name; body = x })) same canonical

-- a value that is whole, short and shallow is what its object is
pub from_value-from_object : (t : TypeName) (d : Data) → has_float d ≡ false → length (compact_text d) ≤ max_text → nat_le (depth d) max_nesting ≡ true → from_value t d ≡ from_object t d
from_value-from_object t d whole short shallow =
    let not_long : nat_lt max_text (length (compact_text d)) ≡ false = le-ltb _ _ short in
    let not_deep : nat_lt max_nesting (depth d) ≡ false = grind (arith, nat_tests) in
    rw (whole, not_long, not_deep) refl
