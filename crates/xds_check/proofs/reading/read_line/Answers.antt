use Rattle.xds_check.proofs.RulesLining.{says_found}
use Rattle.xds_check.proofs.reading.read_line.Goals as goal

pub returns-in-Ok : goal.returns-in-Ok
returns-in-Ok c = says_found c.args.line.now c.in-Ok.text.now c.line_in.result c.in-Ok.ensures.cases c.line_in.ensures
