use Rattle.xds_runs.proofs.Gains.{keeps_what_was_stored}
use Rattle.xds_runs.proofs.laws.replicas_keep_what_was_stored.Goals as goal

pub returns : goal.returns
returns c = keeps_what_was_stored
