use Rattle.std.proofs.Common.{◌≡◌, ◌<◌, length, get_or, rules, arith, sym, ap, ◌∙◌}
use Rattle.xds_resource.specs.Writes.{text_cmp}
use Rattle.xds_resource.proofs.Grouping.{found_at}
use Rattle.xds_resource.proofs.groups.add.Goals as goal

pub returns-in-Equal-clause-ok : goal.returns-in-Equal-clause-ok
returns-in-Equal-clause-ok c =
    let within : c.loop-at.at < length c.args.list.now.items = omega (arith, c.loop-at-test.true, c.len.ensures) in
    let is : c.index.result.now ≡ get_or c.args.list.now.items c.loop-at.at c.index.result.now = search rules in
    found_at c.args.text.now c.args.list.now.items c.loop-at.at c.index.result.now within is (ap (text_cmp c.args.text.now) (sym c.as_str.ensures.value) ∙ sym c.cmp.ensures ∙ c.in-Equal.is) c.loop-at.invariant.1
