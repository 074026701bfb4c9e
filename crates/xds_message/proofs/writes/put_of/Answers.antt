use Rattle.std.proofs.Common.{arith, ◌≡◌, Ok, IsSomeAnd}
use Rattle.serde_json.specs.View.{view}
use Rattle.xds_resource.specs.Resources.{NamedBody, from_value}
use Rattle.xds_resource.specs.Writes.{StampedWrite}
use Rattle.xds_json.proofs.Lists.{Reads-refused}
use Rattle.xds_message.specs.StampedWrites.{IsBodyOf}
use Rattle.xds_message.proofs.ReadWrites.{bodied, resource_put}
use Rattle.xds_message.proofs.writes.put_of.Goals as goal

pub returns-in_err-resource : goal.returns-in_err-resource
returns-in_err-resource g c =
    let t = g.T.ResourceType.TYPE in
    let d = view c.args.body.now in
    let name = c.args.name.now in
    Reads-refused (λ (w : StampedWrite). IsSomeAnd w.body (IsBodyOf t name d) × (w ≡ bodied name c.args.stamp.counter c.args.stamp.writer c.args.groups w.body))
    (λ (r : NamedBody). (r.name ≡ name) × (from_value t d ≡ Ok r)) _ _ c.from_residual.result c.body_of.result c.in_err-resource.field-0.0 c.from_residual.ensures.1 (grind arith) c.body_of.ensures
    (λ w p. resource_put t name d w.body p.0)
