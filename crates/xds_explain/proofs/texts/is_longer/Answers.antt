use Rattle.std.proofs.Common.{ap}
use Rattle.std.specs.Prelude.{nat_lt}
use Rattle.std.proofs.lemmas.Iterator.{YieldsList-from_chars}
use Rattle.std.proofs.lemmas.Iterator.Consumers.{count_from_yields_List}
use Rattle.xds_explain.proofs.texts.is_longer.Goals as goal

pub returns : goal.returns
returns c =
    let all = YieldsList-from_chars c.args.text.now c.utf8.text c.chars.ensures.rest in
    ap (nat_lt c.args.most) (count_from_yields_List c.chars.result _ c.count.ensures.ran all)
