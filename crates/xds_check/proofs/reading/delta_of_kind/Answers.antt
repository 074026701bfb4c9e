use Rattle.xds_check.proofs.RulesLining.{delta_of}
use Rattle.xds_check.proofs.reading.delta_of_kind.Goals as goal

pub returns : goal.returns
returns c = delta_of c.args.json.now c.delta_answer.result c.delta_answer.ensures
