use Rattle.xds_catalogue.proofs.Joining.{joined_again}
use Rattle.xds_catalogue.proofs.JoinLaws.{repeats_change_nothing, no_change_keeps_all}
use Rattle.xds_catalogue.proofs.laws.writes_come_again.Goals as goal

pub returns-clause-lists : goal.returns-clause-lists
returns-clause-lists c = joined_again

pub returns-clause-repeats : goal.returns-clause-repeats
returns-clause-repeats c = repeats_change_nothing

pub returns-clause-unchanged : goal.returns-clause-unchanged
returns-clause-unchanged c = no_change_keeps_all
