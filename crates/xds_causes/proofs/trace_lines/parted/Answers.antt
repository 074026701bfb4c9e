use Rattle.std.proofs.Common.{arith}
use Rattle.std.proofs.lemmas.Str.Pattern.{split_once_first}
use Rattle.xds_causes.proofs.Lining.{one_word}
use Rattle.xds_causes.proofs.trace_lines.parted.Goals as goal

pub returns-in-Some : goal.returns-in-Some
returns-in-Some c =
    let parts = split_once_first 32 c.args.text.now c.split_once.result c.split_once.ensures.cases (omega arith) in
    let here = rw c.in-Some.is at parts in
    (here.1, here.2)

pub returns-in-None : goal.returns-in-None
returns-in-None c =
    let parts = split_once_first 32 c.args.text.now c.split_once.result c.split_once.ensures.cases (omega arith) in
    let here = rw c.in-None.is at parts in
    one_word c.args.text.now here
