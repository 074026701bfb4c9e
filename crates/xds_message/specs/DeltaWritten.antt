-- The objects that are written for the messages of the incremental variant, in the proto3 JSON mapping.
--     delta_request_fields    the fields that are written for it
--     delta_request_object    the object that is written for it
--     resource_fields         the fields that are written for it
--     resource_object         the object that is written for it
--     delta_response_fields   the fields that are written for it
--     delta_response_object   the object that is written for it
use Rattle.std.specs.Prelude.{[], ◌∷◌, map, Some, option_map, codes}
use Rattle.serde_json.specs.Data.{Data, string}
use Rattle.xds_json.specs.Versions.{versions_data}
use Rattle.xds_message.specs.DeltaMessages.{DeltaRequest, VersionedResource, DeltaResponse}
use Rattle.xds_message.specs.Written.{Fields, object_set, text_data, list_data, identity_object, failure_object}

abbrev pub delta_request_fields : DeltaRequest → Fields
delta_request_fields m =
    (codes "errorDetail", option_map failure_object m.error_detail) ∷ (codes "initialResourceVersions", versions_data m.initial_resource_versions)
    ∷ (codes "node", option_map identity_object m.node) ∷ (codes "resourceNamesSubscribe", list_data (map string m.resource_names_subscribe))
    ∷ (codes "resourceNamesUnsubscribe", list_data (map string m.resource_names_unsubscribe)) ∷ (codes "responseNonce", text_data m.response_nonce)
    ∷ (codes "typeUrl", text_data m.type_url) ∷ []

abbrev pub delta_request_object : DeltaRequest → Data
delta_request_object m = object_set (delta_request_fields m)

abbrev pub resource_fields : VersionedResource → Fields
resource_fields m = (codes "name", text_data m.name) ∷ (codes "resource", Some m.resource) ∷ (codes "version", text_data m.version) ∷ []

abbrev pub resource_object : VersionedResource → Data
resource_object m = object_set (resource_fields m)

abbrev pub delta_response_fields : DeltaResponse → Fields
delta_response_fields m =
    (codes "nonce", text_data m.nonce) ∷ (codes "removedResources", list_data (map string m.removed_resources)) ∷ (codes "resources", list_data (map resource_object m.resources))
    ∷ (codes "systemVersionInfo", text_data m.system_version_info) ∷ (codes "typeUrl", text_data m.type_url) ∷ []

abbrev pub delta_response_object : DeltaResponse → Data
delta_response_object m = object_set (delta_response_fields m)
