use Rattle.xds_flows.proofs.Orderly.{replicas_are_orderly}
use Rattle.xds_flows.proofs.laws.replicas_are_orderly.Goals as goal

pub returns : goal.returns
returns c = replicas_are_orderly
