use Rattle.xds_resource.proofs.BestWrites.{best_of_same_writes}
use Rattle.xds_resource.proofs.laws.best_of_the_same_writes.Goals as goal

pub returns : goal.returns
returns c = best_of_same_writes
