use Rattle.xds_interest.proofs.AskedLaws.{sotw_touch_is_a_set, delta_touch_is_a_set}
use Rattle.xds_interest.proofs.Again.{unchanged_touches_nothing}
use Rattle.xds_interest.proofs.laws.touched_names_are_a_set.Goals as goal

pub returns-clause-unchanged : goal.returns-clause-unchanged
returns-clause-unchanged c = unchanged_touches_nothing

pub returns-clause-sotw : goal.returns-clause-sotw
returns-clause-sotw c = sotw_touch_is_a_set

pub returns-clause-delta : goal.returns-clause-delta
returns-clause-delta c = delta_touch_is_a_set
