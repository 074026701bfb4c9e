use Rattle.xds_world.proofs.SettlingSettles.{settles_where_all_is_taken}
use Rattle.xds_world.proofs.laws.settling_settles.Goals as goal

pub returns : goal.returns
returns c = settles_where_all_is_taken
