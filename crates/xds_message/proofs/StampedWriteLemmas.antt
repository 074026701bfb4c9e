-- A value spells one stamped write at most, and the object that is written for one spells it, is shallow and holds no float.
use Rattle.std.proofs.Common.{◌≡◌, ◌≤◌, ℕ, suc, List, [], map, length, false, Option, Some, None, Result, Ok, Err, option_map, codes, refl, sym, ap, ◌∙◌, subst, arith}
use Rattle.std.proofs.lemmas.Bool.{le-leb}
use Rattle.std.specs.Option.{ForSome}
use Rattle.serde_json.specs.Written.{has_float}
use Rattle.serde_json.specs.Data.{Data, null, boolean, number, string, array, object, unsigned, depth}
use Rattle.serde_json.specs.Find.{get}
use Rattle.xds_resource.specs.declared.types.TypeName.{TypeName}
use Rattle.xds_resource.specs.declared.types.TypeName.TheVariants.{Cluster, Endpoint, Listener, Route, Secret}
use Rattle.xds_resource.specs.declared.refusal.Refusal.{Refusal}
use Rattle.xds_resource.specs.Fields.{first_of}
use Rattle.xds_resource.specs.Types.{row, type_of_url}
use Rattle.xds_resource.specs.Writes.{StampedWrite}
use Rattle.xds_resource.specs.Groups.{groups_of}
use Rattle.xds_resource.specs.Resources.{max_text, max_nesting, NamedBody, value_of, from_object, from_value, IsCanonical, IsWritable}
use Rattle.xds_resource.proofs.Naming.{from_value-from_object}
use Rattle.xds_json.specs.Spelling.{IsTexts, set_value}
use Rattle.xds_json.specs.WrittenFields.{list_data}
use Rattle.xds_message.specs.StampedWrites.{IsBodyOf, IsBody, AreGroups, SpellsWrite, SpellsOneWrite, write_fields, write_object, IsWriteSpelledByItsObject}
use Rattle.xds_json.proofs.OneField.{IsOrDefault-unique, IsSomeAnd-unique, IsTexts-unique}
use Rattle.xds_json.proofs.FieldsReadBack.{get_member-members_set, IsTexts-list_data}
use Rattle.xds_json.proofs.FieldsWithin.{IsWithin, HasNoFloat, members_depth-members_set, members_have_float-members_set, IsWithin-list_data, HasNoFloat-list_data, items_depth-texts, items_have_float-texts}

-- ---- one write

pub type_of_url-url : (t : TypeName) → type_of_url (row t).url ≡ Some t
type_of_url-url Cluster = refl
type_of_url-url Endpoint = refl
type_of_url-url Listener = refl
type_of_url-url Route = refl
type_of_url-url Secret = refl

same_some : (s t : TypeName) → Some s ≡ Some t → s ≡ t
same_some s t e = cc

pub url-injective : (s t : TypeName) → (row s).url ≡ (row t).url → s ≡ t
url-injective s t e = same_some s t (sym (type_of_url-url s) ∙ ap type_of_url e ∙ type_of_url-url t)

pub same_text : (o : Option Data) (s t : List ℕ) → o ≡ Some (string s) → o ≡ Some (string t) → s ≡ t
same_text o s t p q = let same = sym p ∙ q in cc

pub same_number : (o : Option Data) (m n : ℕ) → o ≡ Some (number (unsigned m)) → o ≡ Some (number (unsigned n)) → m ≡ n
same_number o m n p q = let same = sym p ∙ q in cc

abbrev body_or_empty : Result NamedBody Refusal → List ℕ
body_or_empty (Ok r) = r.body
body_or_empty (Err e) = []

same_body : (r : Result NamedBody Refusal) (name a b : List ℕ) → r ≡ Ok (record { name = name; body = a }) → r ≡ Ok (record { name = name; body = b }) → a ≡ b
same_body r name a b p q = ap body_or_empty (sym p ∙ q)

IsBodyOf-unique : (t : TypeName) (name : List ℕ) (d : Data) (a b : List ℕ) → IsBodyOf t name d a → IsBodyOf t name d b → a ≡ b
IsBodyOf-unique t name d a b p q = same_body (from_value t d) name a b p q

IsBody-unique : (t : TypeName) (name : List ℕ) (o : Option Data) (a b : Option (List ℕ)) → IsBody t name o a → IsBody t name o b → a ≡ b
IsBody-unique t name o a b p q =
    IsOrDefault-unique None _ (λ d x y v w. IsSomeAnd-unique (IsBodyOf t name d) (IsBodyOf-unique t name d) x y v w) (set_value o) a b p q

same_groups : (r : Result (List (List ℕ)) Refusal) (gs hs : List (List ℕ)) → r ≡ Ok gs → r ≡ Ok hs → gs ≡ hs
same_groups r gs hs p q = let same = sym p ∙ q in cc

pub AreGroups-unique : (o : Option Data) (gs hs : List (List ℕ)) → AreGroups o gs → AreGroups o hs → gs ≡ hs
AreGroups-unique o gs hs p q =
    let same = IsTexts-unique o p.0 q.0 p.1 q.1 in
    same_groups (groups_of q.0) gs hs (ap groups_of (sym same) ∙ p.2) q.2

same_write : (t : TypeName) (d : Data) (v w : StampedWrite) → SpellsWrite d t v → SpellsWrite d t w → v ≡ w
same_write t d v w p q =
    let name = same_text _ v.name w.name p.name q.name in
    let counter = same_number _ v.counter w.counter p.counter q.counter in
    let writer = same_number _ v.writer w.writer p.writer q.writer in
    let body = IsBody-unique t w.name _ v.body w.body (subst (λ n. IsBody t n (get (codes "body") d) v.body) name p.body) q.body in
    let groups = AreGroups-unique _ v.groups w.groups p.groups q.groups in
    λ i. record { name = name i; counter = counter i; writer = writer i; body = body i; groups = groups i }

pub SpellsWrite-unique : (d : Data) → SpellsOneWrite d
SpellsWrite-unique d s t v w p q =
    let same = url-injective s t (same_text _ (row s).url (row t).url p.type_url q.type_url) in
    (same, same_write t d v w (subst (λ x. SpellsWrite d x v) same p) q)

-- ---- the written object

set_value-from_object : (t : TypeName) (d : Data) (r : NamedBody) → from_object t d ≡ Ok r → set_value (Some d) ≡ Some d
set_value-from_object t null r h = cc
set_value-from_object t (boolean b) r h = refl
set_value-from_object t (number n) r h = refl
set_value-from_object t (string s) r h = refl
set_value-from_object t (array ds) r h = refl
set_value-from_object t (object ms) r h = refl

pub from_value-canonical : (t : TypeName) (r : NamedBody) → IsCanonical t r → from_value t (value_of r.body) ≡ Ok r
from_value-canonical t r h =
    from_value-from_object t (value_of r.body) h.whole (subst (λ s. length s ≤ max_text) (sym h.text) h.short) (le-leb (depth (value_of r.body)) max_nesting h.shallow) ∙ h.object

IsBody-value_of : (t : TypeName) (name : List ℕ) (body : Option (List ℕ)) → ForSome body (λ b. IsCanonical t (record { name = name; body = b })) → IsBody t name (option_map value_of body) body
IsBody-value_of t name None h = refl
IsBody-value_of t name (Some b) h =
    let d = value_of b in
    let r : NamedBody = record { name = name; body = b } in
    rw (set_value-from_object t d r (h b refl).object) (from_value-canonical t r (h b refl))

pub first_of-None : (o : Option Data) → first_of o None ≡ o
first_of-None None = refl
first_of-None (Some d) = refl

pub SpellsWrite-write_object : (t : TypeName) (w : StampedWrite) → IsWriteSpelledByItsObject t w
SpellsWrite-write_object t w h stamp =
    let at = λ (key : List ℕ). get_member-members_set key (write_fields t w) in
    record {
      is_object = refl;
      type_url = at (codes "typeUrl");
      name = at (codes "name");
      valid = h.named;
      counter = at (codes "counter");
      writer = at (codes "writer");
      stamp = stamp;
      body = subst (λ o. IsBody t w.name o w.body) (sym (at (codes "body") ∙ first_of-None (option_map value_of w.body))) (IsBody-value_of t w.name w.body h.body);
      groups = (w.groups, subst (λ o. IsTexts o w.groups) (sym (at (codes "groups") ∙ first_of-None (list_data (map string w.groups)))) (IsTexts-list_data w.groups), h.groups);
      bare = h.bare;
    }

-- ---- how deep the object nests, and that it holds no float

no_float : (t : TypeName) (name : List ℕ) (body : Option (List ℕ)) → ForSome body (λ b. IsCanonical t (record { name = name; body = b })) → HasNoFloat (option_map value_of body)
no_float t name None h = tt
no_float t name (Some b) h = (h b refl).whole

within : (t : TypeName) (name : List ℕ) (body : Option (List ℕ)) → ForSome body (λ b. IsCanonical t (record { name = name; body = b })) → IsWithin max_nesting (option_map value_of body)
within t name None h = tt
within t name (Some b) h = (h b refl).shallow

pub has_float-write_object : (t : TypeName) (w : StampedWrite) → IsWritable t w → has_float (write_object t w) ≡ false
has_float-write_object t w h =
    members_have_float-members_set (write_fields t w)
    (no_float t w.name w.body h.body, (refl, (HasNoFloat-list_data (map string w.groups) (items_have_float-texts w.groups), (refl, (refl, (refl, tt))))))

pub depth-write_object : (t : TypeName) (w : StampedWrite) → IsWritable t w → depth (write_object t w) ≤ suc max_nesting
depth-write_object t w h =
    let zeros : 0 ≤ max_nesting = omega arith in
    let listed : IsWithin max_nesting (list_data (map string w.groups)) = IsWithin-list_data (map string w.groups) 99 (omega (arith, items_depth-texts w.groups)) in
    let all = members_depth-members_set (write_fields t w) max_nesting (within t w.name w.body h.body, (zeros, (listed, (zeros, (zeros, (zeros, tt)))))) in
    omega arith
