use Rattle.std.proofs.Common.{sym, ap, ◌∙◌, refl}
use Rattle.std.specs.Str.{bytes_eq}
use Rattle.xds_interest.proofs.NameSets.{has_name-found, has_name-not_yet, has_name-none}
use Rattle.xds_interest.proofs.lists.has_text.Goals as goal

pub loop-each-init : goal.loop-each-init
loop-each-init c = refl

pub loop-each-preserved : goal.loop-each-preserved
loop-each-preserved c =
    has_name-not_yet _ _ c.each-item.result c.args.text.now c.loop-each-test.true c.each-item.is
    (ap (bytes_eq c.args.text.now) (sym c.as_str.ensures.value) ∙ sym c.eq.ensures ∙ c.if-eq.false) c.loop-each.invariant

pub returns-then-eq : goal.returns-then-eq
returns-then-eq c =
    sym (has_name-found _ _ c.each-item.result c.args.text.now c.loop-each-test.true c.each-item.is
    (ap (bytes_eq c.args.text.now) (sym c.as_str.ensures.value) ∙ sym c.eq.ensures ∙ c.if-eq.true))

pub returns : goal.returns
returns c = sym (has_name-none _ _ c.args.text.now c.loop-each-test.false c.loop-each.invariant)
