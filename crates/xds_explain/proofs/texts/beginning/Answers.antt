use Rattle.std.proofs.Common.{◌∙◌, ap, map-id, sym}
use Rattle.std.specs.Prelude.{encode_utf8, flat_map}
use Rattle.std.specs.Iterator.Adapters.{take_count, take_source}
use Rattle.std.specs.Str.Iter.{chars_rest}
use Rattle.std.proofs.lemmas.Iterator.{YieldsList-from_chars, YieldsList-from_take}
use Rattle.std.proofs.lemmas.Iterator.Consumers.{YieldsList-end}
use Rattle.xds_explain.specs.Shown.{shown_char}
use Rattle.xds_explain.proofs.texts.beginning.Goals as goal

pub returns-clause-ok : goal.returns-clause-ok
returns-clause-ok c =
    let is = c.into_iter-c-iterator.ensures.into_iter_gives in
    let all = YieldsList-from_chars c.args.text.now c.utf8.text (ap (λ t. chars_rest (take_source t)) is ∙ ap chars_rest c.take-c-items.ensures.source ∙ c.chars.ensures.rest) in
    let taken = YieldsList-from_take c.args.most all (ap take_count is ∙ c.take-c-items.ensures.count) in
    let end = YieldsList-end taken c.loop-c.yielded _ c.loop-c.yielded_by _ _ c.in-None.is c.next.ensures.steps in
    c.loop-c.invariant.2 ∙ ap (flat_map (λ x. encode_utf8 (shown_char x))) (sym (map-id c.loop-c.yielded) ∙ end.0)
