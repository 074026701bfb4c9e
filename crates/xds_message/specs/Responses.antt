-- What the responses of the program are, as messages. This project's own.
--     response_of              a response, as the definitions have it
--     resource_of              a resource of a delta response, as the definitions have it
--     delta_response_of        a delta response, as the definitions have it
use Rattle.std.specs.Prelude.{map, string_bytes}
use Rattle.serde_json.specs.View.{view}
use Rattle.xds_message.specs.declared.response.DiscoveryResponse.{DiscoveryResponse}
use Rattle.xds_message.specs.declared.delta_response.DeltaDiscoveryResponse.{DeltaDiscoveryResponse}
use Rattle.xds_message.specs.declared.delta_response.DeltaResource.{DeltaResource}
use Rattle.xds_message.specs.Messages.{Response}
use Rattle.xds_message.specs.DeltaMessages.{VersionedResource, DeltaResponse}

abbrev pub response_of : DiscoveryResponse → Response
response_of r = record { version_info = string_bytes r.version_info; resources = map view r.resources.items; type_url = string_bytes r.type_url; nonce = string_bytes r.nonce }

abbrev pub resource_of : DeltaResource → VersionedResource
resource_of r = record { name = string_bytes r.name; version = string_bytes r.version; resource = view r.resource }

abbrev pub delta_response_of : DeltaDiscoveryResponse → DeltaResponse
delta_response_of r = record {
  system_version_info = string_bytes r.system_version_info;
  resources = map resource_of r.resources.items;
  type_url = string_bytes r.type_url;
  nonce = string_bytes r.nonce;
  removed_resources = map string_bytes r.removed_resources.items;
}
