use Rattle.xds_interest.proofs.DeltaLaws.{one_request_more, one_request_more_for_the_star}
use Rattle.xds_interest.proofs.laws.delta_requests.Goals as goal

pub returns-clause-names : goal.returns-clause-names
returns-clause-names c = one_request_more

pub returns-clause-star : goal.returns-clause-star
returns-clause-star c = one_request_more_for_the_star
