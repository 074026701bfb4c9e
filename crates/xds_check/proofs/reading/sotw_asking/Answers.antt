use Rattle.xds_check.proofs.RulesLining.{no_sotw_asking}
use Rattle.xds_check.proofs.reading.sotw_asking.Goals as goal

pub returns-in-Err : goal.returns-in-Err
returns-in-Err c = λ other. let r = c.in-Err.ensures other in (r.0, no_sotw_asking c.args.json.now r.1)
