use Rattle.xds_runs.proofs.OneWorld.{are_one_world}
use Rattle.xds_runs.proofs.laws.runs_are_one_world.Goals as goal

pub returns : goal.returns
returns c = are_one_world
