-- How deep the objects of the incremental variant's messages nest, and that they hold no float where their parts hold none.
use Rattle.std.proofs.Common.{◌≡◌, ℕ, suc, ◌≤◌, List, [], ◌∷◌, false, map, All, refl, arith}
use Rattle.std.proofs.lemmas.Bool.{or_from}
use Rattle.std.specs.FinMap as finmap
use Rattle.serde_json.specs.Data.{string, depth, items_depth, members_depth}
use Rattle.serde_json.specs.View.{items_of}
use Rattle.serde_json.specs.Written.{has_float, items_have_float, members_have_float}
use Rattle.xds_json.specs.Versions.{pairs_data, text_members}
use Rattle.xds_message.specs.DeltaMessages.{DeltaRequest, DeltaResponse, VersionedResource}
use Rattle.xds_message.specs.DeltaWritten.{delta_request_fields, delta_request_object, resource_fields, resource_object, delta_response_fields, delta_response_object}
use Rattle.xds_json.proofs.FieldsWithin.{IsWithin, members_depth-members_set, IsWithin-text_data, IsWithin-list_data, HasNoFloat, members_have_float-members_set, HasNoFloat-text_data, HasNoFloat-list_data, items_depth-texts, items_have_float-texts, IsWithin-identity, IsWithin-failure, HasNoFloat-identity, HasNoFloat-failure}

-- ---- requests

members_depth-text_members : (ps : List (List ℕ × List ℕ)) → members_depth (text_members ps) ≤ 0
members_depth-text_members [] = omega arith
members_depth-text_members (p ∷ ps) = omega (arith, members_depth-text_members ps)

IsWithin-pairs_data : (ps : List (List ℕ × List ℕ)) → IsWithin 1 (pairs_data ps)
IsWithin-pairs_data [] = tt
IsWithin-pairs_data (p ∷ ps) = omega (arith, members_depth-text_members (p ∷ ps))

members_have_float-text_members : (ps : List (List ℕ × List ℕ)) → members_have_float (text_members ps) ≡ false
members_have_float-text_members [] = refl
members_have_float-text_members (p ∷ ps) = members_have_float-text_members ps

HasNoFloat-pairs_data : (ps : List (List ℕ × List ℕ)) → HasNoFloat (pairs_data ps)
HasNoFloat-pairs_data [] = tt
HasNoFloat-pairs_data (p ∷ ps) = members_have_float-text_members (p ∷ ps)

-- a request nests two deep
pub depth-delta_request_object : (m : DeltaRequest) → depth (delta_request_object m) ≤ 2
depth-delta_request_object m =
    let text = λ (s : List ℕ). IsWithin-text_data s 1 in
    let texts = λ (ss : List (List ℕ)). IsWithin-list_data (map string ss) 0 (items_depth-texts ss) in
    let within = members_depth-members_set (delta_request_fields m) 1
    (IsWithin-failure m.error_detail, (IsWithin-pairs_data (finmap.entries m.initial_resource_versions), (IsWithin-identity m.node, (texts m.resource_names_subscribe, (texts m.resource_names_unsubscribe, (text m.response_nonce, (text m.type_url, tt))))))) in
    omega arith

pub has_float-delta_request_object : (m : DeltaRequest) → has_float (delta_request_object m) ≡ false
has_float-delta_request_object m =
    let text = λ (s : List ℕ). HasNoFloat-text_data s in
    let texts = λ (ss : List (List ℕ)). HasNoFloat-list_data (map string ss) (items_have_float-texts ss) in
    members_have_float-members_set (delta_request_fields m)
    (HasNoFloat-failure m.error_detail, (HasNoFloat-pairs_data (finmap.entries m.initial_resource_versions), (HasNoFloat-identity m.node, (texts m.resource_names_subscribe, (texts m.resource_names_unsubscribe, (text m.response_nonce, (text m.type_url, tt)))))))

-- ---- responses

depth-resource_object : (m : VersionedResource) (n : ℕ) → depth m.resource ≤ n → depth (resource_object m) ≤ suc n
depth-resource_object m n h =
    let within = members_depth-members_set (resource_fields m) n (IsWithin-text_data m.name n, (h, (IsWithin-text_data m.version n, tt))) in
    omega arith

has_float-resource_object : (m : VersionedResource) → has_float m.resource ≡ false → has_float (resource_object m) ≡ false
has_float-resource_object m h = members_have_float-members_set (resource_fields m) (HasNoFloat-text_data m.name, (h, (HasNoFloat-text_data m.version, tt)))

items_depth-resources : (ms : List VersionedResource) (n : ℕ) → All (λ r. depth r.resource ≤ n) ms → items_depth (items_of (map resource_object ms)) ≤ suc n
items_depth-resources [] n h = omega arith
items_depth-resources (m ∷ ms) n h = omega (arith, depth-resource_object m n (h 0 m (omega arith)), items_depth-resources ms n (λ k e below. h (suc k) e (omega arith)))

items_have_float-resources : (ms : List VersionedResource) → All (λ r. has_float r.resource ≡ false) ms → items_have_float (items_of (map resource_object ms)) ≡ false
items_have_float-resources [] h = refl
items_have_float-resources (m ∷ ms) h = or_from _ _ (has_float-resource_object m (h 0 m (omega arith))) (items_have_float-resources ms (λ k e below. h (suc k) e (omega arith)))

-- a response nests three levels more than its resources
pub depth-delta_response_object : (m : DeltaResponse) (n : ℕ) → All (λ r. depth r.resource ≤ n) m.resources → depth (delta_response_object m) ≤ suc (suc (suc n))
depth-delta_response_object m n h =
    let text = λ (s : List ℕ). IsWithin-text_data s (suc (suc n)) in
    let removed = IsWithin-list_data (map string m.removed_resources) (suc n) (omega (arith, items_depth-texts m.removed_resources)) in
    let within = members_depth-members_set (delta_response_fields m) (suc (suc n))
    (text m.nonce, (removed, (IsWithin-list_data (map resource_object m.resources) (suc n) (items_depth-resources m.resources n h), (text m.system_version_info, (text m.type_url, tt))))) in
    omega arith

pub has_float-delta_response_object : (m : DeltaResponse) → All (λ r. has_float r.resource ≡ false) m.resources → has_float (delta_response_object m) ≡ false
has_float-delta_response_object m h =
    let text = λ (s : List ℕ). HasNoFloat-text_data s in
    members_have_float-members_set (delta_response_fields m)
    (text m.nonce, (HasNoFloat-list_data (map string m.removed_resources) (items_have_float-texts m.removed_resources), (HasNoFloat-list_data (map resource_object m.resources) (items_have_float-resources m.resources h), (text m.system_version_info, (text m.type_url, tt)))))
