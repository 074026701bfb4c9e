-- The message that an answer is written as has no float, is shallow, and is the answer again.
use Rattle.std.proofs.Common.{◌≡◌, ◌≤◌, ℕ, suc, List, [], ◌∷◌, map, All, Bool, true, false, Option, Some, None, Ok, refl, sym, ap, ◌∙◌, subst, arith, inl, inr}
use Rattle.std.specs.Prelude.{is_some, String, string_bytes, Result, Err, IfOk, if◌then◌else◌}
use Rattle.std.specs.declared.alloc.Global.{Global}
use Rattle.std.specs.List.{AllZip}
use Rattle.std.proofs.lemmas.Bool.{true≢false}
use Rattle.std.proofs.lemmas.List.Elements.{All-map, All-weaker, All-head, All-tail}
use Rattle.serde_json.specs.Data.{Data, null, boolean, number, string, array, object, depth}
use Rattle.serde_json.specs.Read.{max_depth, read as reading}
use Rattle.serde_json.specs.Written.{compact_text, has_float}
use Rattle.xds_resource.specs.declared.types.TypeName.{TypeName}
use Rattle.xds_resource.specs.declared.refusal.Refusal.{Refusal}
use Rattle.xds_resource.specs.Resources.{NamedBody, from_object, value_of, max_nesting}
use Rattle.xds_json.specs.Spelling.{IsObject, IsJson}
use Rattle.xds_message.proofs.StampedWriteLemmas.{from_value-canonical}
use Rattle.xds_message.specs.Messages.{Response, SpellsResponse}
use Rattle.xds_message.specs.DeltaMessages.{DeltaResponse, SpellsDeltaResponse}
use Rattle.xds_message.specs.Written.{response_object}
use Rattle.xds_message.specs.DeltaWritten.{delta_response_object}
use Rattle.xds_ledger.specs.declared.variant.VariantName.{VariantName}
use Rattle.xds_ledger.specs.declared.variant.VariantName.TheVariants as variants
use Rattle.xds_ledger.specs.Variants.{is_delta}
use Rattle.xds_check.specs.Answers.{Label, Statement, Answer, IsStatement, IsAnswer, sotw_message, delta_message, labelled_resource, label_or_none}
use Rattle.xds_check.specs.Texts.{IsStated, IsLabelled, IsSotwAnswer, IsDeltaAnswer, SpellsAnswer, answer_json}

-- ---- bodies

pub all_whole : (a : Answer) → IsAnswer a → All (λ x. has_float (value_of x.body) ≡ false) a.statements
all_whole a is = All-weaker (IsStatement a.variant a.kind) (λ x. has_float (value_of x.body) ≡ false) (λ x s. s.canonical.whole) a.statements is.statements

pub all_shallow : (a : Answer) → IsAnswer a → All (λ x. depth (value_of x.body) ≤ max_nesting) a.statements
all_shallow a is = All-weaker (IsStatement a.variant a.kind) (λ x. depth (value_of x.body) ≤ max_nesting) (λ x s. s.canonical.shallow) a.statements is.statements

-- what is a resource of a type is an object
is_object : (t : TypeName) (d : Data) (r : NamedBody) → from_object t d ≡ Ok r → IsObject d
is_object t null r h = absurd cc
is_object t (boolean b) r h = absurd cc
is_object t (number n) r h = absurd cc
is_object t (string s) r h = absurd cc
is_object t (array ds) r h = absurd cc
is_object t (object ms) r h = refl

pub all_objects : (a : Answer) → IsAnswer a → All (λ x. IsObject (value_of x.body)) a.statements
all_objects a is = All-weaker (IsStatement a.variant a.kind) (λ x. IsObject (value_of x.body)) (λ x s. is_object a.kind (value_of x.body) (record { name = x.name; body = x.body }) s.canonical.object) a.statements is.statements

-- ---- the state of the world

no_label : (label : Option Label) → is_some label ≡ false → label ≡ None
no_label None e = refl
no_label (Some l) e = absurd (true≢false e)

stated_again : (v : VariantName) (t : TypeName) (xs : List Statement) → is_delta v ≡ false → All (IsStatement v t) xs → AllZip (IsStated t) (map (λ x. value_of x.body) xs) xs
stated_again v t [] e all = tt
stated_again v t (x ∷ xs) e all =
    let s = All-head (IsStatement v t) x xs all in
    ((from_value-canonical t (record { name = x.name; body = x.body }) s.canonical, no_label x.label (s.labelled ∙ e)), stated_again v t xs e (All-tail (IsStatement v t) x xs all))

not_delta : (v : VariantName) → is_delta v ≡ false → v ≡ variants.StateOfTheWorld
not_delta variants.StateOfTheWorld e = refl
not_delta variants.Delta e = absurd (true≢false e)

pub sotw_again : (a : Answer) → is_delta a.variant ≡ false → IsAnswer a → IsSotwAnswer (sotw_message a) a
sotw_again a e is = record {
  variant = not_delta a.variant e;
  kind = refl;
  version_info = refl;
  nonce = refl;
  statements = stated_again a.variant a.kind a.statements e is.statements;
  removed = is.removed e;
}

-- ---- delta

some_label : (label : Option Label) → is_some label ≡ true → label ≡ Some (record { name = (label_or_none label).name; version = (label_or_none label).version })
some_label None e = absurd (true≢false (sym e))
some_label (Some l) e = refl

labelled_again : (v : VariantName) (t : TypeName) (xs : List Statement) → is_delta v ≡ true → All (IsStatement v t) xs → AllZip (IsLabelled t) (map labelled_resource xs) xs
labelled_again v t [] e all = tt
labelled_again v t (x ∷ xs) e all =
    let s = All-head (IsStatement v t) x xs all in
    ((from_value-canonical t (record { name = x.name; body = x.body }) s.canonical, some_label x.label (s.labelled ∙ e)), labelled_again v t xs e (All-tail (IsStatement v t) x xs all))

is_delta_one : (v : VariantName) → is_delta v ≡ true → v ≡ variants.Delta
is_delta_one variants.StateOfTheWorld e = absurd (true≢false (sym e))
is_delta_one variants.Delta e = refl

pub delta_again : (a : Answer) → is_delta a.variant ≡ true → IsAnswer a → IsDeltaAnswer (delta_message a) a
delta_again a e is = record {
  variant = is_delta_one a.variant e;
  kind = refl;
  version_info = refl;
  nonce = refl;
  statements = labelled_again a.variant a.kind a.statements e is.statements;
  removed = refl;
}

-- ---- their JSON

pub sotw_spelled : (a : Answer) (json : List ℕ) (m : Response) → m ≡ sotw_message a → is_delta a.variant ≡ false → IsAnswer a
    → (d : Data) × IsJson json d × SpellsResponse d m → SpellsAnswer a json
sotw_spelled a json m same e is s = inl (s.0, s.1, (sotw_message a, subst (SpellsResponse s.0) same s.2, sotw_again a e is))

pub delta_spelled : (a : Answer) (json : List ℕ) (m : DeltaResponse) → m ≡ delta_message a → is_delta a.variant ≡ true → IsAnswer a
    → (d : Data) × IsJson json d × SpellsDeltaResponse d m → SpellsAnswer a json
delta_spelled a json m same e is s = inr (s.0, s.1, (delta_message a, subst (SpellsDeltaResponse s.0) same s.2, delta_again a e is))

-- ---- what is written

pub sotw_text : (a : Answer) (m : Response) (r : Result (String Global) Refusal) → m ≡ sotw_message a → is_delta a.variant ≡ false → IsAnswer a
    → IfOk r (λ s. All (λ d. has_float d ≡ false) m.resources → string_bytes s ≡ compact_text (response_object m)) → IfOk r (λ s. string_bytes s ≡ answer_json a)
sotw_text a m (Ok s) same e is whole =
    let floats = All-map (λ d. has_float d ≡ false) (λ (x : Statement). value_of x.body) a.statements (all_whole a is) in
    whole (subst (λ (x : Response). All (λ d. has_float d ≡ false) x.resources) (sym same) floats)
    ∙ ap (λ (x : Response). compact_text (response_object x)) same
    ∙ sym (ap (λ (b : Bool). if b then compact_text (delta_response_object (delta_message a)) else compact_text (response_object (sotw_message a))) e)
sotw_text a m (Err f) same e is whole = tt

pub delta_text : (a : Answer) (m : DeltaResponse) (r : Result (String Global) Refusal) → m ≡ delta_message a → is_delta a.variant ≡ true → IsAnswer a
    → IfOk r (λ s. All (λ d. has_float d.resource ≡ false) m.resources → string_bytes s ≡ compact_text (delta_response_object m)) → IfOk r (λ s. string_bytes s ≡ answer_json a)
delta_text a m (Ok s) same e is whole =
    let floats = All-map (λ d. has_float d.resource ≡ false) labelled_resource a.statements (all_whole a is) in
    whole (subst (λ (x : DeltaResponse). All (λ d. has_float d.resource ≡ false) x.resources) (sym same) floats)
    ∙ ap (λ (x : DeltaResponse). compact_text (delta_response_object x)) same
    ∙ sym (ap (λ (b : Bool). if b then compact_text (delta_response_object (delta_message a)) else compact_text (response_object (sotw_message a))) e)
delta_text a m (Err f) same e is whole = tt

pub sotw_json : (a : Answer) (m : Response) (r : Result (String Global) Refusal) → m ≡ sotw_message a → is_delta a.variant ≡ false → IsAnswer a
    → IfOk r (λ s. All (λ d. depth d ≤ max_nesting) m.resources → (depth (response_object m) ≤ suc (suc max_nesting)) × (reading (string_bytes s) ≡ Some (response_object m)))
    → IfOk r (λ s. All IsObject m.resources → depth (response_object m) ≤ max_depth → (d : Data) × IsJson (string_bytes s) d × SpellsResponse d m)
    → IfOk r (λ s. SpellsAnswer a (string_bytes s))
sotw_json a m (Ok s) same e is shallow spelled =
    let objects = All-map IsObject (λ (x : Statement). value_of x.body) a.statements (all_objects a is) in
    let low = All-map (λ d. depth d ≤ max_nesting) (λ (x : Statement). value_of x.body) a.statements (all_shallow a is) in
    let few = (shallow (subst (λ (x : Response). All (λ d. depth d ≤ max_nesting) x.resources) (sym same) low)).0 in
    sotw_spelled a (string_bytes s) m same e is (spelled (subst (λ (x : Response). All IsObject x.resources) (sym same) objects) (omega (arith, few)))
sotw_json a m (Err f) same e is shallow spelled = tt

pub delta_json : (a : Answer) (m : DeltaResponse) (r : Result (String Global) Refusal) → m ≡ delta_message a → is_delta a.variant ≡ true → IsAnswer a
    → IfOk r (λ s. All (λ d. depth d.resource ≤ max_nesting) m.resources → (depth (delta_response_object m) ≤ suc (suc (suc max_nesting))) × (reading (string_bytes s) ≡ Some (delta_response_object m)))
    → IfOk r (λ s. All (λ d. IsObject d.resource) m.resources → depth (delta_response_object m) ≤ max_depth → (d : Data) × IsJson (string_bytes s) d × SpellsDeltaResponse d m)
    → IfOk r (λ s. SpellsAnswer a (string_bytes s))
delta_json a m (Ok s) same e is shallow spelled =
    let objects = All-map (λ d. IsObject d.resource) labelled_resource a.statements (all_objects a is) in
    let low = All-map (λ d. depth d.resource ≤ max_nesting) labelled_resource a.statements (all_shallow a is) in
    let few = (shallow (subst (λ (x : DeltaResponse). All (λ d. depth d.resource ≤ max_nesting) x.resources) (sym same) low)).0 in
    delta_spelled a (string_bytes s) m same e is (spelled (subst (λ (x : DeltaResponse). All (λ d. IsObject d.resource) x.resources) (sym same) objects) (omega (arith, few)))
delta_json a m (Err f) same e is shallow spelled = tt
