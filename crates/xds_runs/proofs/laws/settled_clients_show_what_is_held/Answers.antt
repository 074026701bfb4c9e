use Rattle.xds_runs.proofs.OneWorld.{delta_shows, sotw_shows}
use Rattle.xds_runs.proofs.laws.settled_clients_show_what_is_held.Goals as goal

pub returns-clause-delta : goal.returns-clause-delta
returns-clause-delta c = delta_shows

pub returns-clause-sotw : goal.returns-clause-sotw
returns-clause-sotw c = sotw_shows
