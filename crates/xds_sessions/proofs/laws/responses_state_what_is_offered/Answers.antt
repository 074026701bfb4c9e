use Rattle.xds_sessions.proofs.Stating.{response_states_the_offer}
use Rattle.xds_sessions.proofs.laws.responses_state_what_is_offered.Goals as goal

pub returns : goal.returns
returns c = response_states_the_offer
