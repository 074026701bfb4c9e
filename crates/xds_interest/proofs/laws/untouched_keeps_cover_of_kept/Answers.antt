use Rattle.xds_interest.proofs.AskedLaws.{untouched_keeps_cover_of_kept, untouched_keeps_cover_of_kept_in_delta}
use Rattle.xds_interest.proofs.laws.untouched_keeps_cover_of_kept.Goals as goal

pub returns-clause-sotw : goal.returns-clause-sotw
returns-clause-sotw c = untouched_keeps_cover_of_kept

pub returns-clause-delta : goal.returns-clause-delta
returns-clause-delta c = untouched_keeps_cover_of_kept_in_delta
