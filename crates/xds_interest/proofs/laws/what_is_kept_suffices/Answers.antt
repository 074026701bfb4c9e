use Rattle.xds_interest.proofs.AskedLaws.{sotw_is_kept, delta_is_kept}
use Rattle.xds_interest.proofs.laws.what_is_kept_suffices.Goals as goal

pub returns-clause-sotw : goal.returns-clause-sotw
returns-clause-sotw c = sotw_is_kept

pub returns-clause-delta : goal.returns-clause-delta
returns-clause-delta c = delta_is_kept
