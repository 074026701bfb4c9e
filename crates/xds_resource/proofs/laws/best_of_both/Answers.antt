use Rattle.xds_resource.proofs.BestWrites.{best_of_both}
use Rattle.xds_resource.proofs.laws.best_of_both.Goals as goal

pub returns : goal.returns
returns c = best_of_both
