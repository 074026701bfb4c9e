use Rattle.xds_runs.proofs.OneWorld.{poll_shows}
use Rattle.xds_runs.proofs.laws.polled_clients_show_what_is_held.Goals as goal

pub returns : goal.returns
returns c = poll_shows
