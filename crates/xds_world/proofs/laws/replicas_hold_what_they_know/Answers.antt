use Rattle.xds_world.proofs.Replicas.{holds_what_it_knows, same_knowledge}
use Rattle.xds_world.proofs.laws.replicas_hold_what_they_know.Goals as goal

pub returns-clause-holds : goal.returns-clause-holds
returns-clause-holds c = holds_what_it_knows

pub returns-clause-same : goal.returns-clause-same
returns-clause-same c = same_knowledge
