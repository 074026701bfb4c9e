-- How deep the objects of messages nest, and that they hold no float where their parts hold none.
use Rattle.std.proofs.Common.{◌≡◌, ℕ, suc, ◌≤◌, List, false, map, arith}
use Rattle.serde_json.specs.Data.{string, depth, items_depth}
use Rattle.serde_json.specs.View.{items_of}
use Rattle.serde_json.specs.Written.{has_float, items_have_float}
use Rattle.xds_message.specs.Messages.{Request, Response}
use Rattle.xds_message.specs.Written.{request_fields, request_object, response_fields, response_object}
use Rattle.xds_json.proofs.FieldsWithin.{members_depth-members_set, members_have_float-members_set, IsWithin-text_data, HasNoFloat-text_data, IsWithin-list_data, HasNoFloat-list_data, items_depth-texts, items_have_float-texts, IsWithin-identity, HasNoFloat-identity, IsWithin-failure, HasNoFloat-failure}

-- ---- responses

-- a response nests two levels more than its resources
pub depth-response_object : (m : Response) (n : ℕ) → items_depth (items_of m.resources) ≤ n → depth (response_object m) ≤ suc (suc n)
depth-response_object m n h =
    let texts = λ (s : List ℕ). IsWithin-text_data s (suc n) in
    let within = members_depth-members_set (response_fields m) (suc n) (texts m.nonce, (IsWithin-list_data m.resources n h, (texts m.type_url, (texts m.version_info, tt)))) in
    omega arith

-- a response holds no float where its resources hold none
pub has_float-response_object : (m : Response) → items_have_float (items_of m.resources) ≡ false → has_float (response_object m) ≡ false
has_float-response_object m h = members_have_float-members_set (response_fields m) (HasNoFloat-text_data m.nonce, (HasNoFloat-list_data m.resources h, (HasNoFloat-text_data m.type_url, (HasNoFloat-text_data m.version_info, tt))))

-- ---- requests

-- a request nests two deep
pub depth-request_object : (m : Request) → depth (request_object m) ≤ 2
depth-request_object m =
    let text = λ (s : List ℕ). IsWithin-text_data s 1 in
    let within = members_depth-members_set (request_fields m) 1
    (text m.version_info, (IsWithin-identity m.node, (IsWithin-list_data (map string m.resource_names) 0 (items_depth-texts m.resource_names), (text m.type_url, (text m.response_nonce, (IsWithin-failure m.error_detail, tt)))))) in
    omega arith

pub has_float-request_object : (m : Request) → has_float (request_object m) ≡ false
has_float-request_object m =
    let text = λ (s : List ℕ). HasNoFloat-text_data s in
    members_have_float-members_set (request_fields m)
    (text m.version_info, (HasNoFloat-identity m.node, (HasNoFloat-list_data (map string m.resource_names) (items_have_float-texts m.resource_names), (text m.type_url, (text m.response_nonce, (HasNoFloat-failure m.error_detail, tt))))))
