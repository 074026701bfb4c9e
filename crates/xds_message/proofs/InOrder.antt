-- A write that was read in order is the write that its JSON spells.
use Rattle.std.proofs.Common.{◌≡◌, ◌≤◌, ℕ, List, [], ◌∷◌, Bool, true, false, not, ◌&&◌, bytes_eq, length, Option, Some, None, Result, Ok, IsSomeAnd, codes, unwrap_or, refl, sym, ap, ap₂, ◌∙◌, subst}
use Rattle.std.specs.Prelude.{is_some}
use Rattle.std.specs.Option.{option_map_or}
use Rattle.serde_json.specs.Data.{Data, null, boolean, number, string, array, object, depth}
use Rattle.serde_json.specs.Find.{get}
use Rattle.serde_json.specs.Read.{read}
use Rattle.serde_json.specs.Written.{compact_text, has_float}
use Rattle.xds_resource.specs.declared.types.TypeName.{TypeName}
use Rattle.xds_resource.specs.declared.refusal.Refusal.{Refusal}
use Rattle.xds_resource.specs.declared.refusal.Refusal.TheVariants.{BadResource, BadName}
use Rattle.xds_resource.specs.Refusals.{unless_refused}
use Rattle.xds_resource.specs.Types.{row}
use Rattle.xds_resource.specs.Resources.{NamedBody, IsCanonical, from_object, from_value, is_valid_name, max_nesting, max_text, resource_name, type_text, value_of, written}
use Rattle.xds_resource.proofs.NameMaps.{bytes_eq_same}
use Rattle.xds_json.specs.Spelling.{IsObject, IsOrDefault, set_value}
use Rattle.xds_message.specs.StampedWrites.{IsBodyOf, SpellsWrite}
use Rattle.xds_message.proofs.ReadWrites.{IsHeaded}
use Rattle.xds_message.proofs.StampedWriteLemmas.{from_value-canonical}

pub object_of_member : (k : List ℕ) (d x : Data) → get k d ≡ Some x → IsObject d
object_of_member k null x e = absurd (cc)
object_of_member k (boolean b) x e = absurd (cc)
object_of_member k (number n) x e = absurd (cc)
object_of_member k (string s) x e = absurd (cc)
object_of_member k (array ds) x e = absurd (cc)
object_of_member k (object ms) x e = refl

-- ---- the resource that a body is

-- what an object is by its type and its name
abbrev by_parts : TypeName → List ℕ → Option (List ℕ) → Option (List ℕ) → Result NamedBody Refusal
by_parts t body o n =
    unless_refused ((not (option_map_or (λ url. bytes_eq url (row t).url) o false && is_some n), BadResource) ∷ (not (is_valid_name (unwrap_or n [])), BadName) ∷ []) (record { name = unwrap_or n []; body = body })

by_both : (a b : Bool) (r : NamedBody) → a ≡ true → b ≡ true → unless_refused ((not (a && true), BadResource) ∷ (not b, BadName) ∷ []) r ≡ Ok r
by_both a b r p q = ap₂ (λ x y. unless_refused ((not (x && true), BadResource) ∷ (not y, BadName) ∷ []) r) p q

from_parts : (t : TypeName) (d : Data) (name : List ℕ) → type_text d ≡ Some (row t).url → resource_name t d ≡ Some name → is_valid_name name ≡ true → from_object t d ≡ Ok (record { name = name; body = compact_text d })
from_parts t d name typed named valid = ap₂ (by_parts t (compact_text d)) typed named ∙ by_both (bytes_eq (row t).url (row t).url) (is_valid_name name) _ (bytes_eq_same (row t).url) valid

pub canonical_body : (t : TypeName) (d : Data) (name text : List ℕ) → text ≡ compact_text d → read text ≡ Some d → length text ≤ max_text → has_float d ≡ false → depth d ≤ max_nesting → type_text d ≡ Some (row t).url
    → resource_name t d ≡ Some name → is_valid_name name ≡ true → IsCanonical t (record { name = name; body = text })
canonical_body t d name text is reads short whole shallow typed named valid =
    let same : value_of text ≡ d = ap (λ o. unwrap_or o null) reads in
    record {
      reads = reads ∙ ap Some (sym same);
      text = ap compact_text same ∙ sym is;
      short = short;
      whole = ap has_float same ∙ whole;
      shallow = subst (λ x. depth x ≤ max_nesting) (sym same) shallow;
      object = ap (from_object t) same ∙ from_parts t d name typed named valid ∙ ap (λ s. Ok (record { name = name; body = s })) (sym is);
    }

pub body_is : (t : TypeName) (d : Data) (r : NamedBody) → read r.body ≡ Some d → IsCanonical t r → from_value t d ≡ Ok r
body_is t d r reads canonical = ap (from_value t) (sym (ap (λ o. unwrap_or o null) reads)) ∙ from_value-canonical t r canonical

-- ---- the write

set_body : (t : TypeName) (d : Data) (r : NamedBody) → from_value t d ≡ Ok r → set_value (Some d) ≡ Some d
set_body t null r h = absurd (cc)
set_body t (boolean b) r h = refl
set_body t (number n) r h = refl
set_body t (string s) r h = refl
set_body t (array ds) r h = refl
set_body t (object ms) r h = refl

pub spells_put : (d : Data) (t : TypeName) (name : List ℕ) (counter writer : ℕ) (groups : List (List ℕ)) (body : Data) (r : NamedBody) → IsHeaded d t name counter writer groups → get (codes "body") d ≡ Some body
    → r.name ≡ name → from_value t body ≡ Ok r → SpellsWrite d t (written counter writer r groups)
spells_put d t name counter writer groups body r h at called is =
    let set : set_value (get (codes "body") d) ≡ Some body = ap set_value at ∙ set_body t body r is in
    record {
      is_object = h.is_object;
      type_url = h.type_url;
      name = h.name ∙ ap (λ n. Some (string n)) (sym called);
      valid = subst (λ n. is_valid_name n ≡ true) (sym called) h.valid;
      counter = h.counter;
      writer = h.writer;
      stamp = h.stamp;
      body = subst (λ o. IsOrDefault None (λ v b. IsSomeAnd b (IsBodyOf t r.name v)) o (Some r.body)) (sym set) is;
      groups = h.groups;
      bare = λ none. absurd (cc);
    }
