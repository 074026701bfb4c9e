use Rattle.std.proofs.Common.{refl}
use Rattle.xds_check.specs.Words.{word_of}
use Rattle.xds_check.specs.Texts.{verb_in}
use Rattle.xds_check.proofs.RulesLining.{text_is, never_cut}
use Rattle.xds_check.proofs.reading.line_in.Goals as goal

pub returns-in-Some : goal.returns-in-Some
returns-in-Some c = text_is c.args.text.now c.in-Some.word.now c.in-Some.rest.now c.line_of.result c.in-Some.ensures c.line_of.ensures

pub returns-in-None : goal.returns-in-None
returns-in-None c = λ other. (refl, λ l is. never_cut c.args.text.now (word_of (verb_in l)) is.0 c.in-None.ensures is.1)
