use Rattle.std.proofs.Common.{map, sym, ap, ◌∙◌, arith}
use Rattle.std.specs.String.{string_bytes}
use Rattle.xds_resource.specs.Groups.{grouped, placed}
use Rattle.xds_resource.proofs.Grouping.{at_end, gathered_back}
use Rattle.xds_resource.proofs.groups.gathered.Goals as goal

pub loop-start-init : goal.loop-start-init
loop-start-init c = (omega arith, ap (map string_bytes) c.new-list.ensures.items ∙ sym (ap (λ ys. grouped (map string_bytes ys)) (at_end c.args.texts.now)))

pub loop-start-preserved : goal.loop-start-preserved
loop-start-preserved c =
    let within = c.loop-start.invariant.0 in
    let added = c.in_ok-add.ensures.ok ∙ ap (λ t. placed t (map string_bytes c.loop-start.list.items)) c.as_str.ensures.value in
    (omega (arith, within), gathered_back c.args.texts.now c.loop-start.list.items c.add.new.list.items c.loop-start.start c.index-texts-start.result c.loop-start-test.true within c.index-texts-start.is c.loop-start.invariant.1 added)
