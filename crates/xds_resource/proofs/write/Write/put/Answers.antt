use Rattle.xds_resource.proofs.Naming.{canonical-valid, canonical-body}
use Rattle.xds_resource.proofs.write.Write.put.Goals as goal

pub invariant_of-result : goal.invariant_of-result
invariant_of-result g c =
    record { named = canonical-valid g.T.ResourceType.TYPE _ c.resource.invariant; body = canonical-body g.T.ResourceType.TYPE _ c.resource.invariant; groups = c.are_kept.ensures; bare = λ e. absurd cc }
