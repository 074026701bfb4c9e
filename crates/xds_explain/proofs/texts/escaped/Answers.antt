use Rattle.std.proofs.Common.{◌∙◌, ap, map-id, sym}
use Rattle.std.specs.Prelude.{flat_map}
use Rattle.std.specs.Str.Iter.{chars_rest}
use Rattle.std.proofs.lemmas.Iterator.{YieldsList-from_chars}
use Rattle.std.proofs.lemmas.Iterator.Consumers.{YieldsList-end}
use Rattle.xds_explain.specs.Shown.{xml_char}
use Rattle.xds_explain.proofs.texts.escaped.Goals as goal

pub returns-clause-ok : goal.returns-clause-ok
returns-clause-ok c =
    let is = c.into_iter-c-iterator.ensures.into_iter_gives in
    let all = YieldsList-from_chars c.args.text.now c.utf8.text (ap chars_rest is ∙ c.chars-c-items.ensures.rest) in
    let end = YieldsList-end all c.loop-c.yielded _ c.loop-c.yielded_by _ _ c.in-None.is c.next.ensures.steps in
    c.loop-c.invariant.2 ∙ ap (flat_map xml_char) (sym (map-id c.loop-c.yielded) ∙ end.0)
