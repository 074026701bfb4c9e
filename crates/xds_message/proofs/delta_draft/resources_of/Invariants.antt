use Rattle.std.proofs.Common.{◌≡◌, All, take, map}
use Rattle.xds_message.specs.Drafts.{drafted_resource, IsBodyText}
use Rattle.xds_message.specs.Responses.{resource_of}
use Rattle.xds_message.proofs.delta_draft.resources_of.Given as goal

abbrev pub invariant-loop-resource : goal.invariant-loop-resource
invariant-loop-resource l =
    (map resource_of l.messages.items ≡ map drafted_resource (take l.resource-index l.resources)) × All (λ r. IsBodyText r.body) (take l.resource-index l.resources)
