use Rattle.xds_runs.proofs.Stored.{begins_with_what_is_stored}
use Rattle.xds_runs.proofs.laws.replicas_begin_with_what_is_stored.Goals as goal

pub returns : goal.returns
returns c = begins_with_what_is_stored
