use Rattle.xds_message.specs.Responses.{response_of}
use Rattle.xds_check.proofs.RulesLining.{sotw_found}
use Rattle.xds_check.proofs.reading.sotw_answer.Goals as goal

pub returns-in-Ok : goal.returns-in-Ok
returns-in-Ok c = sotw_found c.args.json.now (response_of c.in-Ok.response) c.of_sotw.result c.in-Ok.ensures c.of_sotw.ensures

pub returns-in-Err : goal.returns-in-Err
returns-in-Err c = λ other. let k = c.in-Err.ensures other in (k.0, λ a is. k.1 is.2.0 (is.0, is.1, is.2.1))
