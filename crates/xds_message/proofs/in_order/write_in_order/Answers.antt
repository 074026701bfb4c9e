use Rattle.std.proofs.Common.{◌≡◌, Some, subst}
use Rattle.std.proofs.lemmas.Option.{IfSome_then}
use Rattle.json.specs.Value.{value_view}
use Rattle.serde_json.specs.Read.{read}
use Rattle.xds_json.specs.Ordered.{meaning}
use Rattle.xds_message.proofs.in_order.write_in_order.Goals as goal

pub returns : goal.returns
returns c =
    let d = meaning (value_view c.in_ok-value.value) in
    let text = c.in-Ok.ensures.cases in
    IfSome_then c.any_put_in.result c.any_put_in.ensures (λ w spells. (d, (text.1, subst (λ bytes. read bytes ≡ Some d) text.0 c.in_ok-value.ensures.reads), spells))
