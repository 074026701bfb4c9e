use Rattle.xds_interest.proofs.Reaching.{covered_is_reached, without_groups, untouched_keeps_cover}
use Rattle.xds_interest.proofs.laws.reach_and_cover.Goals as goal

pub returns-clause-reached : goal.returns-clause-reached
returns-clause-reached c = covered_is_reached

pub returns-clause-covered : goal.returns-clause-covered
returns-clause-covered c = without_groups

pub returns-clause-untouched : goal.returns-clause-untouched
returns-clause-untouched c = untouched_keeps_cover
