-- The text of a response in pieces. This project's own.
--     comma_before    a comma, where a text stands before
--     resource_text   the text of a resource of a DeltaDiscoveryResponse, with its name and its version
use Rattle.std.specs.Prelude.{ℕ, List, [], ◌∷◌, Bool, if◌then◌else◌}
use Rattle.serde_json.specs.Written.{compact_text}
use Rattle.xds_message.specs.DeltaWritten.{resource_object}
use Rattle.xds_message.specs.Drafts.{DraftedResource, drafted_resource}

-- a comma, where a text stands before
abbrev pub comma_before : Bool → List ℕ
comma_before later = if later then 44 ∷ [] else []

-- the text of a resource of a DeltaDiscoveryResponse, with its name and its version
abbrev pub resource_text : DraftedResource → List ℕ
resource_text r = compact_text (resource_object (drafted_resource r))
