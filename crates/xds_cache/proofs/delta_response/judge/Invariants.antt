use Rattle.std.proofs.Common.{◌≡◌, map, drop}
use Rattle.xds_message.specs.Responses.{resource_of}
use Rattle.xds_cache.specs.Faults.{first_fault, stated_by}
use Rattle.xds_cache.specs.Deliveries.{delta_stated}
use Rattle.xds_cache.proofs.delta_response.judge.Given as goal

-- what is left decides
abbrev pub invariant-loop-resource : goal.invariant-loop-resource
invariant-loop-resource g l = record {
  fault :
      first_fault l.kind g.A.Accept.accepts l.removed l.stated (map delta_stated (map resource_of (drop l.resource-index l.resources)))
      ≡ first_fault l.kind g.A.Accept.accepts l.removed l.initial.stated (map delta_stated (map resource_of l.resources));
  stated :
      stated_by l.kind l.stated (map delta_stated (map resource_of (drop l.resource-index l.resources)))
      ≡ stated_by l.kind l.initial.stated (map delta_stated (map resource_of l.resources));
}
