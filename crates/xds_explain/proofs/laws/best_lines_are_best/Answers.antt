use Rattle.xds_explain.proofs.BestOnes.{best_is}
use Rattle.xds_explain.proofs.laws.best_lines_are_best.Goals as goal

pub returns : goal.returns
returns c = best_is
