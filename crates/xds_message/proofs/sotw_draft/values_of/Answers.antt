use Rattle.std.proofs.Common.{◌≡◌, get_or, subst, arith}
use Rattle.std.proofs.lemmas.Grind.{common_steps}
use Rattle.std.proofs.lemmas.List.Elements.{All-more}
use Rattle.xds_message.specs.Drafts.{IsBodyText}
use Rattle.xds_message.proofs.sotw_draft.values_of.Goals as goal

pub loop-body-preserved : goal.loop-body-preserved
loop-body-preserved c =
    let i = c.loop-body.body-index in
    let x = c.body-item.result in
    let is : x ≡ get_or c.args.bodies.now i x = c.body-item.is in
    (grind (arith, common_steps), All-more IsBodyText c.args.bodies.now i x (omega arith) c.loop-body.invariant.1 (subst IsBodyText is c.value.ensures.sound))
