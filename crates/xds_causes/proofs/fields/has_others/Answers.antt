use Rattle.std.proofs.Common.{◌∙◌, ap}
use Rattle.serde_json.specs.View.{items_view}
use Rattle.xds_causes.specs.Told.{has_others}
use Rattle.xds_causes.proofs.FirstWrong.{others_here}
use Rattle.xds_causes.proofs.fields.has_others.Goals as goal

pub returns-then-not-is_object : goal.returns-then-not-is_object
returns-then-not-is_object c =
    others_here c.deref-value-items.result.now c.loop-value.value-index c.value-item.result c.is_object.result c.loop-value-test.true c.value-item.is c.loop-value.invariant c.is_object.ensures
    c.if-not-is_object.true ∙ ap (λ vs. has_others (items_view vs)) c.deref-value-items.ensures.value
