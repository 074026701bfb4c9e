use Rattle.xds_resource.proofs.BestWrites.{best_is_greatest}
use Rattle.xds_resource.proofs.laws.best_is_greatest.Goals as goal

pub returns : goal.returns
returns c = best_is_greatest
