-- The object that is written for a message, in the proto3 JSON mapping: lowerCamelCase names, in the order of their bytes,
-- and no field that holds its default.
--     request_fields    the fields that are written for a request, and its object
--     request_object    the object that is written for it
--     response_fields   the fields that are written for it
--     response_object   the object that is written for it
use Rattle.std.specs.Prelude.{[], ◌∷◌, map, option_map, codes}
use Rattle.serde_json.specs.Data.{Data, string}
use Rattle.xds_message.specs.Messages.{Request, Response}
pub use Rattle.xds_json.specs.WrittenFields.{Fields, text_data, list_data, code_data, put_set, members_set, object_set, identity_fields, identity_object, failure_fields, failure_object}

abbrev pub request_fields : Request → Fields
request_fields m =
    (codes "versionInfo", text_data m.version_info) ∷ (codes "node", option_map identity_object m.node) ∷ (codes "resourceNames", list_data (map string m.resource_names))
    ∷ (codes "typeUrl", text_data m.type_url) ∷ (codes "responseNonce", text_data m.response_nonce) ∷ (codes "errorDetail", option_map failure_object m.error_detail) ∷ []

abbrev pub request_object : Request → Data
request_object m = object_set (request_fields m)

abbrev pub response_fields : Response → Fields
response_fields m =
    (codes "nonce", text_data m.nonce) ∷ (codes "resources", list_data m.resources) ∷ (codes "typeUrl", text_data m.type_url) ∷ (codes "versionInfo", text_data m.version_info) ∷ []

abbrev pub response_object : Response → Data
response_object m = object_set (response_fields m)
