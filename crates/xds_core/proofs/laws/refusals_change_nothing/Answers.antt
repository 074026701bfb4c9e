use Rattle.xds_core.proofs.StepLaws as laws
use Rattle.xds_core.proofs.laws.refusals_change_nothing.Goals as goal

pub returns-clause-refused : goal.returns-clause-refused
returns-clause-refused c = laws.refusals_change_nothing

pub returns-clause-number : goal.returns-clause-number
returns-clause-number c = laws.number_stays
