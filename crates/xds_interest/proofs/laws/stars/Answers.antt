use Rattle.xds_interest.proofs.SotwLaws.{sotw_star_is_no_name, sotw_incomplete_has_no_star}
use Rattle.xds_interest.proofs.DeltaLaws.{delta_star_is_no_name, delta_incomplete_has_no_star}
use Rattle.xds_interest.proofs.laws.stars.Goals as goal

pub returns-clause-complete : goal.returns-clause-complete
returns-clause-complete c = λ t name starry. (sotw_star_is_no_name t name starry, delta_star_is_no_name t name starry)

pub returns-clause-incomplete : goal.returns-clause-incomplete
returns-clause-incomplete c = λ t incomplete. (sotw_incomplete_has_no_star t incomplete, delta_incomplete_has_no_star t incomplete)
