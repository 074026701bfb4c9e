use Rattle.std.proofs.Common.{arith}
use Rattle.std.proofs.lemmas.Str.Pattern.{split_once_first}
use Rattle.xds_check.proofs.Cutting.{cut_is}
use Rattle.xds_check.proofs.words.cut.Goals as goal

pub returns : goal.returns
returns c = cut_is c.args.text.now c.split_once.result (split_once_first 32 c.args.text.now c.split_once.result c.split_once.ensures.cases (omega arith))
