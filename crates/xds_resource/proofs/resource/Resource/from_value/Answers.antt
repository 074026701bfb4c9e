use Rattle.std.proofs.Common.{◌≡◌, ◌≤◌, false, length, ap, sym, subst, ◌∙◌, arith}
use Rattle.std.proofs.lemmas.Bool.{not-true}
use Rattle.serde_json.specs.View.{view}
use Rattle.serde_json.specs.Written.{compact_text, has_float}
use Rattle.xds_resource.specs.Refusals.{Gives}
use Rattle.xds_resource.proofs.Naming.{from_value-from_object}
use Rattle.xds_resource.proofs.resource.Resource.from_value.Goals as goal

pub returns : goal.returns
returns g c =
    let d = view c.args.value in
    let whole : has_float d ≡ false = not-true (has_float d) (sym c.is_whole.ensures ∙ c.if-not-is_whole.false) in
    let text = ap length (c.as_str.ensures.value ∙ c.in_ok-body.ensures.text whole) in
    let short : length (compact_text d) ≤ 1048576 = omega (arith, text) in
    subst (Gives (λ r. r) c.of_object.result) (sym (from_value-from_object g.T.ResourceType.TYPE d whole short (sym c.nests_within.ensures ∙ c.if-not-nests_within.false))) c.of_object.ensures.of_value
