use Rattle.xds_runs.proofs.Stays.{stored_stays}
use Rattle.xds_runs.proofs.laws.what_is_stored_stays.Goals as goal

pub returns : goal.returns
returns c = stored_stays
