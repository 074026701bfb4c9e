use Rattle.xds_check.proofs.RulesLining.{sotw_of}
use Rattle.xds_check.proofs.reading.sotw_of_kind.Goals as goal

pub returns : goal.returns
returns c = sotw_of c.args.json.now c.sotw_answer.result c.sotw_answer.ensures
