use Rattle.std.proofs.Common.{ap, ◌∙◌, arith}
use Rattle.std.specs.Str.Iter.{split_text, split_has_more, split_pattern}
use Rattle.std.proofs.lemmas.Iterator.Consumers.{YieldsList-end}
use Rattle.std.proofs.lemmas.Iterator.Splits.{YieldsList-from_str_split}
use Rattle.xds_script.proofs.texts.pieces_of.Goals as goal

pub returns-clause-pieces : goal.returns-clause-pieces
returns-clause-pieces c =
    let is = c.into_iter-text-iterator.ensures.into_iter_gives in
    let pieces = YieldsList-from_str_split 44 c.args.word.now (omega arith) (ap (λ t. split_text t) is ∙ c.split-text-items.ensures.text) (ap (λ t. split_has_more t) is ∙ c.split-text-items.ensures.has_more) (ap (λ t. split_pattern t) is ∙ c.split-text-items.ensures.pattern) in
    let end = YieldsList-end pieces c.loop-text.yielded _ c.loop-text.yielded_by _ _ c.in-None.is c.next.ensures.steps in
    c.loop-text.invariant.2 ∙ end.0
