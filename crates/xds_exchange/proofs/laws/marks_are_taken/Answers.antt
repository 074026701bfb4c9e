use Rattle.xds_exchange.proofs.Staying.{marks_taken}
use Rattle.xds_exchange.proofs.laws.marks_are_taken.Goals as goal

pub returns : goal.returns
returns c = marks_taken
