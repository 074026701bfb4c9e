use Rattle.std.proofs.Common.{◌≡◌, map, drop}
use Rattle.serde_json.specs.View.{view}
use Rattle.xds_cache.specs.Faults.{first_fault, stated_by}
use Rattle.xds_cache.specs.Deliveries.{sotw_stated}
use Rattle.xds_cache.proofs.sotw_response.judge.Given as goal

-- what is left decides
abbrev pub invariant-loop-resource : goal.invariant-loop-resource
invariant-loop-resource g l = record {
  fault :
      first_fault l.kind g.A.Accept.accepts l.removed l.stated (map sotw_stated (map view (drop l.resource-index l.resources)))
      ≡ first_fault l.kind g.A.Accept.accepts l.removed l.initial.stated (map sotw_stated (map view l.resources));
  stated :
      stated_by l.kind l.stated (map sotw_stated (map view (drop l.resource-index l.resources)))
      ≡ stated_by l.kind l.initial.stated (map sotw_stated (map view l.resources));
}
