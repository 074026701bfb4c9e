use Rattle.xds_core.proofs.StepLaws as laws
use Rattle.xds_core.proofs.laws.streams_stand_apart.Goals as goal

pub returns-clause-streams : goal.returns-clause-streams
returns-clause-streams c = laws.streams_stand_apart

pub returns-clause-held : goal.returns-clause-held
returns-clause-held c = laws.only_writes_change_the_store
