use Rattle.xds_interest.proofs.Adding.{widening_is_undone, narrowing_is_the_rest}
use Rattle.xds_interest.proofs.laws.requests_in_two_steps.Goals as goal

pub returns-clause-undone : goal.returns-clause-undone
returns-clause-undone c = widening_is_undone

pub returns-clause-rest : goal.returns-clause-rest
returns-clause-rest c = narrowing_is_the_rest
