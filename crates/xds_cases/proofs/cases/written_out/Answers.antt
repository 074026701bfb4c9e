use Rattle.std.proofs.Common.{rules}
use Rattle.xds_cases.specs.Cases.{written_out}
use Rattle.xds_cases.proofs.cases.written_out.Goals as goal

pub returns : goal.returns
unfolding written_out
returns c = search rules
