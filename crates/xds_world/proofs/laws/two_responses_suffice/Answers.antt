use Rattle.xds_world.proofs.SettlingEnds.{two_responses_suffice, quiet_at_the_end}
use Rattle.xds_world.proofs.SettlingRefused.{unsettled_has_refused}
use Rattle.xds_world.proofs.laws.two_responses_suffice.Goals as goal

pub returns-clause-two : goal.returns-clause-two
returns-clause-two c = two_responses_suffice

pub returns-clause-quiet : goal.returns-clause-quiet
returns-clause-quiet c = quiet_at_the_end

pub returns-clause-refused : goal.returns-clause-refused
returns-clause-refused c = unsettled_has_refused
