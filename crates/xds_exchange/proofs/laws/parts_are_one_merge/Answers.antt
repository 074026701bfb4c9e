use Rattle.xds_exchange.proofs.OneMerge.{parts_one_merge}
use Rattle.xds_exchange.proofs.laws.parts_are_one_merge.Goals as goal

pub returns : goal.returns
returns c = parts_one_merge
