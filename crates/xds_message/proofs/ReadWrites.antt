-- What is read of a write part by part is the write that the value spells.
use Rattle.std.proofs.Common.{◌≡◌, ◌≢◌, ◌⊎◌, ℕ, List, [], ◌∷◌, true, Option, Some, None, Result, Ok, Err, IsSomeAnd, codes, inl, inr, refl, sym, ap, ◌∙◌, subst, arith}
use Rattle.std.specs.Prelude.{Contains, IfErr}
use Rattle.serde_json.specs.Data.{Data, number, string, unsigned}
use Rattle.serde_json.specs.Find.{get}
use Rattle.xds_resource.specs.declared.types.TypeName.{TypeName}
use Rattle.xds_resource.specs.declared.refusal.Refusal.{Refusal}
use Rattle.xds_resource.specs.declared.refusal.Refusal.TheVariants.{NotJson, BadMessage, OutOfMemory}
use Rattle.xds_resource.specs.Fields.{first_of}
use Rattle.xds_resource.specs.Types.{row}
use Rattle.xds_resource.specs.Stamps.{IsStamp}
use Rattle.xds_resource.specs.Writes.{StampedWrite}
use Rattle.xds_resource.specs.Resources.{NamedBody, is_valid_name, from_value, deleted}
use Rattle.xds_resource.proofs.Refusing.{memory_or_not}
use Rattle.xds_json.specs.Spelling.{IsObject, IsOrDefault, Reads, set_value}
use Rattle.xds_json.proofs.Lists.{Reads-same}
use Rattle.xds_message.specs.StampedWrites.{IsBodyOf, AreGroups, SpellsWrite}
use Rattle.xds_message.proofs.StampedWriteLemmas.{same_text, same_number, AreGroups-unique}
use Rattle.xds_message.proofs.ReadGroups.{same_twice}

-- all that a value says of a write but its body
pub record IsHeaded (d : Data) (t : TypeName) (n : List ℕ) (k : ℕ) (r : ℕ) (gs : List (List ℕ)) : Type 0 where
  pub is_object : IsObject d
  pub type_url : get (codes "typeUrl") d ≡ Some (string (row t).url)
  pub name : get (codes "name") d ≡ Some (string n)
  pub valid : is_valid_name n ≡ true
  pub counter : get (codes "counter") d ≡ Some (number (unsigned k))
  pub writer : get (codes "writer") d ≡ Some (number (unsigned r))
  pub stamp : IsStamp k r
  pub groups : AreGroups (get (codes "groups") d) gs

-- the resource that a body is
pub resource_put : (t : TypeName) (name : List ℕ) (d : Data) (o : Option (List ℕ)) → IsSomeAnd o (IsBodyOf t name d) → (r : NamedBody) × ((r.name ≡ name) × (from_value t d ≡ Ok r))
resource_put t name d None is = absurd is
resource_put t name d (Some b) is = (record { name = name; body = b }, (refl, is))

-- a write with another body
abbrev pub bodied : List ℕ → ℕ → ℕ → List (List ℕ) → Option (List ℕ) → StampedWrite
bodied name counter writer groups body = record { name = name; counter = counter; writer = writer; body = body; groups = groups }

module _ (d : Data) (t : TypeName) (name : List ℕ) (counter writer : ℕ) (groups : List (List ℕ)) (h : IsHeaded d t name counter writer groups) where
  same_head : (w : StampedWrite) → SpellsWrite d t w → w ≡ bodied name counter writer groups w.body
  same_head w p =
      let a = same_text _ w.name name p.name h.name in
      let b = same_number _ w.counter counter p.counter h.counter in
      let c = same_number _ w.writer writer p.writer h.writer in
      let e = AreGroups-unique _ w.groups groups p.groups h.groups in
      λ i. record { name = a i; counter = b i; writer = c i; body = w.body; groups = e i }

  spelled : (body : Option (List ℕ)) → IsOrDefault None (λ v b. IsSomeAnd b (IsBodyOf t name v)) (set_value (get (codes "body") d)) body → (body ≡ None → groups ≡ []) → SpellsWrite d t (bodied name counter writer groups body)
  spelled body is bare = record {
    is_object = h.is_object;
    type_url = h.type_url;
    name = h.name;
    valid = h.valid;
    counter = h.counter;
    writer = h.writer;
    stamp = h.stamp;
    body = is;
    groups = h.groups;
    bare = bare;
  }

  once : (o : Option Data) → o ≡ set_value (first_of (get (codes "body") d) (get (codes "body") d)) → o ≡ set_value (get (codes "body") d)
  once o is = is ∙ ap set_value (same_twice (get (codes "body") d))

  -- of a write that puts a body
  pub Reads-put : {X : Type 0} (v : Data) (view_of : X → StampedWrite) (r : Result X Refusal) → Some v ≡ set_value (first_of (get (codes "body") d) (get (codes "body") d))
      → Reads (λ w. IsSomeAnd w.body (IsBodyOf t name v) × (w ≡ bodied name counter writer groups w.body)) view_of r → Reads (SpellsWrite d t) view_of r
  Reads-put v view_of r set reads =
      let is = once (Some v) set in
      Reads-same (λ w. IsSomeAnd w.body (IsBodyOf t name v) × (w ≡ bodied name counter writer groups w.body)) (SpellsWrite d t) view_of r
      (λ w p.
      subst (SpellsWrite d t) (sym p.1)
      (spelled w.body (subst (λ o. IsOrDefault None (λ u b. IsSomeAnd b (IsBodyOf t name u)) o w.body) is p.0) (λ none. absurd (subst (λ o. IsSomeAnd o (IsBodyOf t name v)) none p.0))))
      (λ w s.
      let named = same_text _ w.name name s.name h.name in
      (subst (λ n. IsSomeAnd w.body (IsBodyOf t n v)) named (subst (λ o. IsOrDefault None (λ u b. IsSomeAnd b (IsBodyOf t w.name u)) o w.body) (sym is) s.body), same_head w s))
      reads

  -- of a deletion
  pub Reads-deletion : {X : Type 0} (view_of : X → StampedWrite) (r : Result X Refusal) → None ≡ set_value (first_of (get (codes "body") d) (get (codes "body") d))
      → Reads (λ w. (groups ≡ []) × (w ≡ deleted counter writer name)) view_of r → Reads (SpellsWrite d t) view_of r
  Reads-deletion view_of r unset reads =
      let is = once None unset in
      Reads-same (λ w. (groups ≡ []) × (w ≡ deleted counter writer name)) (SpellsWrite d t) view_of r
      (λ w p.
      subst (SpellsWrite d t) (ap (λ gs. bodied name counter writer gs None) p.0 ∙ sym p.1)
      (spelled None (subst (λ o. IsOrDefault None (λ u b. IsSomeAnd b (IsBodyOf t name u)) o None) is refl) (λ none. p.0)))
      (λ w s.
      let none : w.body ≡ None = subst (λ o. IsOrDefault None (λ u b. IsSomeAnd b (IsBodyOf t w.name u)) o w.body) (sym is) s.body in
      let bare = sym (AreGroups-unique _ w.groups groups s.groups h.groups) ∙ s.bare none in
      (bare, same_head w s ∙ (λ i. bodied name counter writer (bare i) (none i))))
      reads

refusal_among : (e : Refusal) → (e ≡ OutOfMemory) ⊎ (e ≢ OutOfMemory) → (e ≢ OutOfMemory → e ≡ BadMessage) → Contains (NotJson ∷ BadMessage ∷ OutOfMemory ∷ []) e
refusal_among e (inl memory) other = (2, omega arith, sym memory)
refusal_among e (inr is_other) other = (1, omega arith, sym (other is_other))

-- the refusals of who reads a value are among those of who reads its text
pub refusals_among : {X Y : Type 0} (P : Y → Type 0) (view : X → Y) (r : Result X Refusal) → Reads P view r → IfErr r (λ e. Contains (NotJson ∷ BadMessage ∷ OutOfMemory ∷ []) e)
refusals_among P view (Ok x) h = tt
refusals_among P view (Err e) h = refusal_among e (memory_or_not e) (λ is_other. (h is_other).0)
