use Rattle.xds_world.proofs.SettlingStops.{what_stops_is_spent}
use Rattle.xds_world.proofs.laws.settling_stops_where_spent.Goals as goal

pub returns : goal.returns
returns c = what_stops_is_spent
