use Rattle.std.proofs.Common.{rules}
use Rattle.xds_cases.specs.Cases.{unfolded}
use Rattle.xds_cases.proofs.cases.unfolded.Goals as goal

pub returns : goal.returns
unfolding unfolded
returns c = search rules
