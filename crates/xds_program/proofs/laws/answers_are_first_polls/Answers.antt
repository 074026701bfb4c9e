use Rattle.xds_program.proofs.FirstPoll.{first_poll}
use Rattle.xds_program.proofs.laws.answers_are_first_polls.Goals as goal

pub returns : goal.returns
returns c = first_poll
