use Rattle.std.proofs.Common.{[], ◌∷◌, ◌++◌, length, map, refl, sym, ap, ◌∙◌, subst, append_assoc, arith}
use Rattle.std.specs.List.{AllZip}
use Rattle.std.specs.Vec.Iter.{into_iter_items}
use Rattle.std.proofs.lemmas.List.{append-nil, nil_from_length}
use Rattle.serde_json.specs.View.{view}
use Rattle.xds_message.specs.DeltaMessages.{SpellsResource}
use Rattle.xds_message.specs.Responses.{resource_of}
use Rattle.xds_json.proofs.Lists.{AllZip-map-more, AllZip-middle, Reads-refused}
use Rattle.xds_message.proofs.delta_response.resources_from.Goals as goal

pub loop-value-init : goal.loop-value-init
loop-value-init c =
    let gives = c.into_iter-value-iterator.ensures.into_iter_gives in
    ([], rw gives.0 refl, rw c.new-resources.ensures.items tt, gives.1 ∙ c.args.values.ok.0 ∙ ap length (sym gives.0))

pub loop-value-preserved : goal.loop-value-preserved
loop-value-preserved c =
    let before = c.loop-value.invariant in
    let done = before.0 in
    let step = c.in-Some.ensures.steps in
    let d = view c.in-Some.value in
    let shorter = ap length step.0 in (
      done ++ d ∷ [],
      before.1 ∙ ap (λ vs. done ++ map view vs) step.0 ∙ sym (append_assoc done (d ∷ []) (map view (into_iter_items c.next.new.self))),
      rw c.in_ok-push.ensures.items (AllZip-map-more SpellsResource resource_of done c.loop-value.resources.items d c.in_ok-resource_from.field-0 before.2 c.in_ok-resource_from.ensures),
      omega (arith, step.1, before.3, shorter),
    )

pub returns-in_err-resource_from : goal.returns-in_err-resource_from
returns-in_err-resource_from c =
    let before = c.loop-value.invariant in
    let all = before.1 ∙ ap (λ vs. before.0 ++ map view vs) c.in-Some.ensures.steps.0 in
    Reads-refused (AllZip SpellsResource (map view c.args.values.items)) _ _ _ _ c.resource_from.result c.in_err-resource_from.field-0.0 c.from_residual.ensures.1 (grind arith) c.resource_from.ensures
    (λ ms zipped. AllZip-middle SpellsResource before.0 (view c.in-Some.value) (map view (into_iter_items c.next.new.self)) ms (subst (λ ds. AllZip SpellsResource ds ms) all zipped))

pub returns : goal.returns
returns c =
    let before = c.loop-value.invariant in
    let none = nil_from_length _ (sym before.3 ∙ c.in-None.ensures.steps.0) in
    let all = before.1 ∙ ap (λ vs. before.0 ++ map view vs) none ∙ append-nil before.0 in
    subst (λ ds. AllZip SpellsResource ds (map resource_of c.loop-value.resources.items)) (sym all) before.2
