use Rattle.xds_world.proofs.Followed.{links_are_followed}
use Rattle.xds_world.proofs.laws.links_are_followed.Goals as goal

pub returns : goal.returns
returns c = links_are_followed
