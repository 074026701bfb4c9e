use Rattle.xds_catalogue.proofs.JoinLaws.{none_above, is_reached}
use Rattle.xds_catalogue.proofs.laws.greatest_counter_is_reached.Goals as goal

pub returns-clause-bound : goal.returns-clause-bound
returns-clause-bound c = none_above

pub returns-clause-reached : goal.returns-clause-reached
returns-clause-reached c = is_reached
