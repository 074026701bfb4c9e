use Rattle.xds_core.proofs.StepLaws as laws
use Rattle.xds_core.proofs.laws.own_counters_rise.Goals as goal

pub returns-clause-held : goal.returns-clause-held
returns-clause-held c = laws.counters_never_fall

pub returns-clause-put : goal.returns-clause-put
returns-clause-put c = laws.own_counters_rise

pub returns-clause-deleted : goal.returns-clause-deleted
returns-clause-deleted c = laws.own_deletions_rise
