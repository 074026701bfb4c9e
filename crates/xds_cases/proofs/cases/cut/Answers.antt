use Rattle.xds_cases.proofs.Cutting.{split_once-around}
use Rattle.xds_cases.proofs.cases.cut.Goals as goal

pub returns : goal.returns
returns c = split_once-around c.args.word.now c.args.text.now c.split_once.result c.requires c.split_once.ensures.cases
