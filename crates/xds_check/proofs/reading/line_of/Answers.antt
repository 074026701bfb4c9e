use Rattle.std.proofs.Common.{refl}
use Rattle.xds_check.proofs.RulesLining.{line_with, no_verb}
use Rattle.xds_check.proofs.reading.line_of.Goals as goal

pub returns-in-Some : goal.returns-in-Some
returns-in-Some c = line_with c.args.word.now c.args.rest.now c.in-Some.verb c.line_behind.result c.in-Some.ensures c.line_behind.ensures

pub returns-in-None : goal.returns-in-None
returns-in-None c = λ other. (refl, no_verb c.args.word.now c.args.rest.now c.in-None.ensures)
