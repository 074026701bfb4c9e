-- The type that a resource's text names is its own.
use Rattle.std.proofs.Common.{◌≡◌, List, [], ◌∷◌, ◌++◌, ℕ, Bool, true, false, cond, Option, Some, None, Result, Ok, Err, refl, ap, ◌∙◌}
use Rattle.std.specs.Prelude.{bytes_eq, not, ◌&&◌}
use Rattle.std.specs.Option.{option_map, option_and_then, option_map_or}
use Rattle.std.specs.Result.{result_ok}
use Rattle.xds_resource.specs.declared.types.TypeName.{TypeName}
use Rattle.xds_resource.specs.declared.refusal.Refusal.{Refusal}
use Rattle.xds_resource.specs.declared.refusal.Refusal.TheVariants.{BadResource}
use Rattle.xds_resource.specs.Types.{row, type_of_url}
use Rattle.xds_resource.specs.Refusals.{unless_refused}
use Rattle.xds_resource.specs.Resources.{NamedBody, named_type, parsed, value_of, type_text, has_type, resource_of, front_conditions, object_conditions, from_object}
use Rattle.xds_resource.proofs.NameMaps.{bytes_eq_tells}
use Rattle.xds_script.specs.Commands.{resource_in}
use Rattle.xds_message.proofs.StampedWriteLemmas.{type_of_url-url}

passed : {A : Type 0} (b : Bool) (e : Refusal) (r : Result A Refusal) (a : A) → cond b (Err e) r ≡ Ok a → r ≡ Ok a
passed true e r a h = cc
passed false e r a h = h

-- what passes all conditions passes the last of them
last_passed : {A : Type 0} (cs ds : List (Bool × Refusal)) (a b : A) → unless_refused (cs ++ ds) a ≡ Ok b → unless_refused ds a ≡ Ok b
last_passed [] ds a b h = h
last_passed (c ∷ cs) ds a b h = last_passed cs ds a b (passed c.0 c.1 (unless_refused (cs ++ ds) a) b h)

typed : {A : Type 0} (has named : Bool) (r : Result A Refusal) (a : A) → cond (not (has && named)) (Err BadResource) r ≡ Ok a → has ≡ true
typed true named r a h = refl
typed false named r a h = cc

named : (t : TypeName) (url : Option (List ℕ)) → option_map_or (λ u. bytes_eq u (row t).url) url false ≡ true → option_and_then type_of_url url ≡ Some t
named t None h = cc
named t (Some url) h = ap type_of_url (bytes_eq_tells url (row t).url h) ∙ type_of_url-url t

-- a text that is a resource of a type names that type
pub named_type-parsed : (t : TypeName) (text : List ℕ) (r : NamedBody) → parsed t text ≡ Ok r → named_type (value_of text) ≡ Some t
named_type-parsed t text r is =
    let object : from_object t (value_of text) ≡ Ok r = last_passed (front_conditions text) (object_conditions t (value_of text)) (resource_of t (value_of text)) r is in
    named t (type_text (value_of text)) (typed (has_type t (value_of text)) _ _ r object)

-- so that it is that resource
pub resource_in-parsed : (t : TypeName) (text : List ℕ) (r : NamedBody) → parsed t text ≡ Ok r → resource_in text ≡ Some (t, r)
resource_in-parsed t text r is =
    ap (option_and_then (λ s. option_map (λ x. (s, x)) (result_ok (parsed s text)))) (named_type-parsed t text r is)
    ∙ ap (λ o. option_map (λ x. (t, x)) (result_ok o)) is
