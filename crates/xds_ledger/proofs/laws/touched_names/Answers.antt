use Rattle.xds_ledger.proofs.BeliefsByName.{untouched_keeps_belief, touched_is_not_told}
use Rattle.xds_ledger.proofs.laws.touched_names.Goals as goal

pub returns-clause-untouched : goal.returns-clause-untouched
returns-clause-untouched c = untouched_keeps_belief

pub returns-clause-touched : goal.returns-clause-touched
returns-clause-touched c = touched_is_not_told
