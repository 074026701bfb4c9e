use Rattle.xds_core.proofs.StepLaws as laws
use Rattle.xds_core.proofs.laws.legal_lists_are_cut.Goals as goal

pub returns-clause-beginnings : goal.returns-clause-beginnings
returns-clause-beginnings c = laws.beginnings_are_legal

pub returns-clause-ends : goal.returns-clause-ends
returns-clause-ends c = laws.ends_are_legal

pub returns-clause-decided : goal.returns-clause-decided
returns-clause-decided c = laws.events_decide
