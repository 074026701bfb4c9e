use Rattle.xds_sources.proofs.Leaving.{leaves_the_wanted}
use Rattle.xds_sources.proofs.laws.exactly_the_wanted_is_left.Goals as goal

pub returns : goal.returns
returns c = leaves_the_wanted
