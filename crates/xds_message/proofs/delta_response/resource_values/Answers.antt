use Rattle.std.proofs.Common.{length, refl, sym, ap, ◌∙◌, arith}
use Rattle.std.proofs.lemmas.List.{append-nil, nil_from_length}
use Rattle.serde_json.specs.View.{view}
use Rattle.xds_message.specs.DeltaWritten.{resource_object}
use Rattle.xds_message.specs.Responses.{resource_of}
use Rattle.xds_json.proofs.Lists.{map-moved, map-twice}
use Rattle.xds_message.proofs.delta_response.resource_values.Goals as goal

pub loop-resource-init : goal.loop-resource-init
loop-resource-init c =
    let gives = c.into_iter-resource-iterator.ensures.into_iter_gives in
    (rw (c.new-values.ensures.items, gives.0) refl, gives.1 ∙ c.args.resources.ok.0 ∙ ap length (sym gives.0))

pub loop-resource-preserved : goal.loop-resource-preserved
loop-resource-preserved c =
    let step = c.in-Some.ensures.steps in
    let so_far = rw step.0 at c.loop-resource.invariant.0 in
    let shown = map-moved view (λ r. resource_object (resource_of r)) c.loop-resource.values.items c.in_ok-into_value.field-0 c.in-Some.resource _ c.in_ok-into_value.ensures.ok in
    let shorter = ap length step.0 in
    (rw c.in_ok-push.ensures.items (shown ∙ so_far), omega (arith, step.1, c.loop-resource.invariant.1, shorter))

pub returns-clause-ok : goal.returns-clause-ok
returns-clause-ok c =
    let none = nil_from_length _ (sym c.loop-resource.invariant.1 ∙ c.in-None.ensures.steps.0) in
    sym (append-nil _) ∙ (rw none at c.loop-resource.invariant.0) ∙ map-twice resource_of resource_object c.args.resources.items
