use Rattle.xds_world.proofs.Headline.{settled_is_exact, settled_agrees}
use Rattle.xds_world.proofs.laws.settled_clients_are_exact.Goals as goal

pub returns-clause-delta : goal.returns-clause-delta
returns-clause-delta c = settled_is_exact

pub returns-clause-sotw : goal.returns-clause-sotw
returns-clause-sotw c = settled_agrees
