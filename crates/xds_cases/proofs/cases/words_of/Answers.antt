use Rattle.xds_cases.proofs.WordsGiven.{words_given}
use Rattle.xds_cases.proofs.cases.words_of.Goals as goal

pub returns-clause-words : goal.returns-clause-words
returns-clause-words c = words_given c.into_iter-word-iterator.result _ c.next.new.self c.loop-word.yielded c.args.text.now _ (cc) c.loop-word.yielded_by c.in-None.ensures.steps c.loop-word.invariant
