use Rattle.std.proofs.Common.{◌≡◌, get_or, subst, arith}
use Rattle.std.proofs.lemmas.Grind.{common_steps}
use Rattle.std.proofs.lemmas.List.Elements.{All-more}
use Rattle.xds_message.specs.Drafts.{DraftedResource, IsBodyText}
use Rattle.xds_message.proofs.delta_draft.resources_of.Goals as goal

pub loop-resource-preserved : goal.loop-resource-preserved
loop-resource-preserved c =
    let i = c.loop-resource.resource-index in
    let x = c.resource-item.result in
    let is : x ≡ get_or c.args.resources.now i x = c.resource-item.is in
    (grind (arith, common_steps), All-more (λ (r : DraftedResource). IsBodyText r.body) c.args.resources.now i x (omega arith) c.loop-resource.invariant.1 (subst (λ (r : DraftedResource). IsBodyText r.body) is c.in_ok-message.ensures.sound))
