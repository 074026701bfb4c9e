use Rattle.xds_interest.proofs.AskedLaws.{kept_star_is_of_complete, untouched_keeps_reach_of_kept, untouched_keeps_reach_of_kept_in_delta}
use Rattle.xds_interest.proofs.laws.untouched_keeps_reach_of_kept.Goals as goal

pub returns-clause-star : goal.returns-clause-star
returns-clause-star c = kept_star_is_of_complete

pub returns-clause-sotw : goal.returns-clause-sotw
returns-clause-sotw c = untouched_keeps_reach_of_kept

pub returns-clause-delta : goal.returns-clause-delta
returns-clause-delta c = untouched_keeps_reach_of_kept_in_delta
