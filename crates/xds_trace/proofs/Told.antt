-- A draft's answer is what its message is, and what names its bodies give.
use Rattle.std.proofs.Common.{◌≡◌, ℕ, List, [], ◌∷◌, map, All, Result, Ok, Err, refl, ap, sym, ◌∙◌, subst}
use Rattle.std.specs.Prelude.{IsOk}
use Rattle.std.specs.List.{AllZip}
use Rattle.std.proofs.lemmas.List.Elements.{All-head, All-tail}
use Rattle.xds_resource.specs.declared.types.TypeName.{TypeName}
use Rattle.xds_resource.specs.declared.refusal.Refusal.{Refusal}
use Rattle.xds_resource.specs.Resources.{NamedBody, from_value, value_of, resource_of, value_conditions}
use Rattle.xds_resource.proofs.Refusing.{unless_refused-value}
use Rattle.xds_message.proofs.StampedWriteLemmas.{url-injective}
use Rattle.xds_message.specs.Messages.{Response}
use Rattle.xds_message.specs.DeltaMessages.{DeltaResponse}
use Rattle.xds_message.specs.Drafts.{Drafted, DraftedDelta, DraftedResource, IsBodyText, message_of, delta_message_of, drafted_resource}
use Rattle.xds_message.specs.declared.draft.Draft.TheVariants as drafts
use Rattle.xds_check.specs.Answers.{Statement, Answer}
use Rattle.xds_check.specs.Texts.{IsStated, IsLabelled, IsSotwAnswer, IsDeltaAnswer}
use Rattle.xds_check.specs.Words.{Finds}
use Rattle.xds_trace.specs.Making.{own_names, name_read, statement_of, labelled_of, answer_of}
use Rattle.xds_trace.specs.Telling.{IsResource, HoldsResources, Tells}

-- ---- one body

-- what a body's value is as a resource has the body's text
same_body : (t : TypeName) (body : List ℕ) (r : NamedBody) → IsBodyText body → from_value t (value_of body) ≡ Ok r → r ≡ record { name = own_names t body; body = body }
same_body t body r text is =
    let shown : resource_of t (value_of body) ≡ r = unless_refused-value (value_conditions t (value_of body)) (resource_of t (value_of body)) r is in
    let name : r.name ≡ own_names t body = sym (ap name_read is) in
    let kept : r.body ≡ body = sym (ap (λ x. x.body) shown) ∙ text.text in
    λ i. record { name = name i; body = kept i }

is_named : (t : TypeName) (body : List ℕ) (o : Result NamedBody Refusal) → o ≡ from_value t (value_of body) → IsOk o → IsBodyText body
    → from_value t (value_of body) ≡ Ok (record { name = own_names t body; body = body })
is_named t body (Ok r) e ok text = sym e ∙ ap Ok (same_body t body r text (sym e))
is_named t body (Err f) e ok text = absurd cc

-- ---- the state of the world

stated_so : (t : TypeName) (body : List ℕ) (x : Statement) → IsBodyText body → IsStated t (value_of body) x → x ≡ statement_of own_names t body
stated_so t body x text is =
    let same = same_body t body (record { name = x.name; body = x.body }) text is.0 in
    let label = is.1 in
    λ i. record { name = (same i).name; body = (same i).body; label = label i }

all_stated : (t : TypeName) (bodies : List (List ℕ)) (xs : List Statement) → All IsBodyText bodies → AllZip (IsStated t) (map value_of bodies) xs → xs ≡ map (statement_of own_names t) bodies
all_stated t [] [] texts is = refl
all_stated t [] (x ∷ xs) texts is = absurd is
all_stated t (b ∷ bodies) [] texts is = absurd is
all_stated t (b ∷ bodies) (x ∷ xs) texts is =
    let first = stated_so t b x (All-head IsBodyText b bodies texts) is.0 in
    let later = all_stated t bodies xs (All-tail IsBodyText b bodies texts) is.1 in
    λ i. first i ∷ later i

sotw_is : (d : Drafted) (a : Answer) → All IsBodyText d.bodies → IsSotwAnswer (message_of d) a → a ≡ answer_of own_names (drafts.Sotw d)
sotw_is d a texts is =
    let kind = sym (url-injective d.kind a.kind is.kind) in
    let statements = all_stated d.kind d.bodies a.statements texts (subst (λ t. AllZip (IsStated t) (map value_of d.bodies) a.statements) kind is.statements) in
    let variant = is.variant in
    let version_info = is.version_info in
    let nonce = is.nonce in
    let removed = is.removed in
    λ i. record { variant = variant i; kind = kind i; version_info = version_info i; nonce = nonce i; statements = statements i; removed = removed i }

are_stated : (t : TypeName) (bodies : List (List ℕ)) → All IsBodyText bodies → All (IsResource t) bodies → AllZip (IsStated t) (map value_of bodies) (map (statement_of own_names t) bodies)
are_stated t [] texts all = tt
are_stated t (b ∷ bodies) texts all = (
  (is_named t b (from_value t (value_of b)) refl (All-head (IsResource t) b bodies all) (All-head IsBodyText b bodies texts), refl),
  are_stated t bodies (All-tail IsBodyText b bodies texts) (All-tail (IsResource t) b bodies all),
)

is_sotw : (d : Drafted) → All IsBodyText d.bodies → HoldsResources (drafts.Sotw d) → IsSotwAnswer (message_of d) (answer_of own_names (drafts.Sotw d))
is_sotw d texts all = record { variant = refl; kind = refl; version_info = refl; nonce = refl; statements = are_stated d.kind d.bodies texts all; removed = refl }

pub sotw_told : (d : Drafted) (m : Response) (r : Result Answer Refusal) → m ≡ message_of d → All IsBodyText d.bodies → Finds (λ a. a) (IsSotwAnswer m) r
    → Tells (λ a. a) (answer_of own_names (drafts.Sotw d)) (HoldsResources (drafts.Sotw d)) r
sotw_told d m (Ok a) same texts is = sotw_is d a texts (subst (λ x. IsSotwAnswer x a) same is)
sotw_told d m (Err e) same texts is = λ other.
    let k = is other in
    (k.0, λ all. k.1 (answer_of own_names (drafts.Sotw d)) (subst (λ x. IsSotwAnswer x (answer_of own_names (drafts.Sotw d))) (sym same) (is_sotw d texts all)))

-- ---- delta

labelled_so : (t : TypeName) (r : DraftedResource) (x : Statement) → IsBodyText r.body → IsLabelled t (drafted_resource r) x → x ≡ labelled_of own_names t r
labelled_so t r x text is =
    let same = same_body t r.body (record { name = x.name; body = x.body }) text is.0 in
    let label = is.1 in
    λ i. record { name = (same i).name; body = (same i).body; label = label i }

all_labelled : (t : TypeName) (rs : List DraftedResource) (xs : List Statement) → All (λ r. IsBodyText r.body) rs → AllZip (IsLabelled t) (map drafted_resource rs) xs → xs ≡ map (labelled_of own_names t) rs
all_labelled t [] [] texts is = refl
all_labelled t [] (x ∷ xs) texts is = absurd is
all_labelled t (r ∷ rs) [] texts is = absurd is
all_labelled t (r ∷ rs) (x ∷ xs) texts is =
    let first = labelled_so t r x (All-head (λ r. IsBodyText r.body) r rs texts) is.0 in
    let later = all_labelled t rs xs (All-tail (λ r. IsBodyText r.body) r rs texts) is.1 in
    λ i. first i ∷ later i

delta_is : (d : DraftedDelta) (a : Answer) → All (λ r. IsBodyText r.body) d.resources → IsDeltaAnswer (delta_message_of d) a → a ≡ answer_of own_names (drafts.Delta d)
delta_is d a texts is =
    let kind = sym (url-injective d.kind a.kind is.kind) in
    let statements = all_labelled d.kind d.resources a.statements texts (subst (λ t. AllZip (IsLabelled t) (map drafted_resource d.resources) a.statements) kind is.statements) in
    let variant = is.variant in
    let version_info = is.version_info in
    let nonce = is.nonce in
    let removed = is.removed in
    λ i. record { variant = variant i; kind = kind i; version_info = version_info i; nonce = nonce i; statements = statements i; removed = removed i }

are_labelled : (t : TypeName) (rs : List DraftedResource) → All (λ r. IsBodyText r.body) rs → All (λ r. IsResource t r.body) rs → AllZip (IsLabelled t) (map drafted_resource rs) (map (labelled_of own_names t) rs)
are_labelled t [] texts all = tt
are_labelled t (r ∷ rs) texts all = (
  (is_named t r.body (from_value t (value_of r.body)) refl (All-head (λ r. IsResource t r.body) r rs all) (All-head (λ r. IsBodyText r.body) r rs texts), refl),
  are_labelled t rs (All-tail (λ r. IsBodyText r.body) r rs texts) (All-tail (λ r. IsResource t r.body) r rs all),
)

is_delta : (d : DraftedDelta) → All (λ r. IsBodyText r.body) d.resources → HoldsResources (drafts.Delta d) → IsDeltaAnswer (delta_message_of d) (answer_of own_names (drafts.Delta d))
is_delta d texts all = record { variant = refl; kind = refl; version_info = refl; nonce = refl; statements = are_labelled d.kind d.resources texts all; removed = refl }

pub delta_told : (d : DraftedDelta) (m : DeltaResponse) (r : Result Answer Refusal) → m ≡ delta_message_of d → All (λ r. IsBodyText r.body) d.resources → Finds (λ a. a) (IsDeltaAnswer m) r
    → Tells (λ a. a) (answer_of own_names (drafts.Delta d)) (HoldsResources (drafts.Delta d)) r
delta_told d m (Ok a) same texts is = delta_is d a texts (subst (λ x. IsDeltaAnswer x a) same is)
delta_told d m (Err e) same texts is = λ other.
    let k = is other in
    (k.0, λ all. k.1 (answer_of own_names (drafts.Delta d)) (subst (λ x. IsDeltaAnswer x (answer_of own_names (drafts.Delta d))) (sym same) (is_delta d texts all)))
