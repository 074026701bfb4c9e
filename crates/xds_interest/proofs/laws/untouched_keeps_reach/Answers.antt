use Rattle.xds_interest.proofs.SotwLaws.{untouched_keeps_reach}
use Rattle.xds_interest.proofs.DeltaLaws.{untouched_keeps_reach_in_delta}
use Rattle.xds_interest.proofs.laws.untouched_keeps_reach.Goals as goal

pub returns-clause-sotw : goal.returns-clause-sotw
returns-clause-sotw c = untouched_keeps_reach

pub returns-clause-delta : goal.returns-clause-delta
returns-clause-delta c = untouched_keeps_reach_in_delta
