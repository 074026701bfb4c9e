use Rattle.xds_ledger.proofs.ByName.{offer_says_it, nothing_owed}
use Rattle.xds_ledger.proofs.BeliefsByName.{accepted_by_name, taken_by_name}
use Rattle.xds_ledger.proofs.laws.name_by_name.Goals as goal

pub returns-clause-offered : goal.returns-clause-offered
returns-clause-offered c = offer_says_it

pub returns-clause-accepted : goal.returns-clause-accepted
returns-clause-accepted c = accepted_by_name

pub returns-clause-taken : goal.returns-clause-taken
returns-clause-taken c = taken_by_name

pub returns-clause-owed : goal.returns-clause-owed
returns-clause-owed c = nothing_owed
