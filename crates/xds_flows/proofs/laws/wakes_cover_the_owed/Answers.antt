use Rattle.xds_flows.proofs.WakesCover.{only_reached_writes_count, wakes_cover_the_owed, wakes_cover_the_due, wakes_cover_the_held}
use Rattle.xds_flows.proofs.laws.wakes_cover_the_owed.Goals as goal

pub returns-clause-reached : goal.returns-clause-reached
returns-clause-reached c = only_reached_writes_count

pub returns-clause-owed : goal.returns-clause-owed
returns-clause-owed c = wakes_cover_the_owed

pub returns-clause-due : goal.returns-clause-due
returns-clause-due c = wakes_cover_the_due

pub returns-clause-held : goal.returns-clause-held
returns-clause-held c = wakes_cover_the_held
