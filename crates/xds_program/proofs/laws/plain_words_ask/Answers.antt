use Rattle.xds_program.proofs.RightWords.{answer_plain, check_right, play_right}
use Rattle.xds_program.proofs.laws.plain_words_ask.Goals as goal

pub returns-clause-answer : goal.returns-clause-answer
returns-clause-answer c = answer_plain

pub returns-clause-play : goal.returns-clause-play
returns-clause-play c = play_right

pub returns-clause-check : goal.returns-clause-check
returns-clause-check c = check_right
