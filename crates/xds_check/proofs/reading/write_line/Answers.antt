use Rattle.xds_check.proofs.RulesLining.{no_write}
use Rattle.xds_check.proofs.reading.write_line.Goals as goal

pub returns-in-Err : goal.returns-in-Err
returns-in-Err c = λ other. let r = c.in-Err.ensures other in (r.0, no_write c.args.rest.now r.1)
