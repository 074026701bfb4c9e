use Rattle.std.proofs.Common.{◌≡◌, take, map}
use Rattle.xds_message.specs.Responses.{resource_of}
use Rattle.xds_message.proofs.delta_response.copy_resources.Given as goal

abbrev pub invariant-loop-resource : goal.invariant-loop-resource
invariant-loop-resource l = map resource_of l.copies.items ≡ map resource_of (take l.resource-index l.resources.items)
