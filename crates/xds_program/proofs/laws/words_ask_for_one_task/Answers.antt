use Rattle.xds_program.proofs.OneTask.{ask_one}
use Rattle.xds_program.proofs.RightWords.{faultless_ask}
use Rattle.xds_program.proofs.laws.words_ask_for_one_task.Goals as goal

pub returns-clause-one : goal.returns-clause-one
returns-clause-one c = ask_one

pub returns-clause-faultless : goal.returns-clause-faultless
returns-clause-faultless c = faultless_ask
