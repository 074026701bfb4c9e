use Rattle.std.proofs.Common.{codes}
use Rattle.serde_json.specs.View.{view}
use Rattle.xds_resource.specs.Fields.{field}
use Rattle.xds_json.specs.Spelling.{IsInner}
use Rattle.xds_json.specs.Parts.{SpellsIdentity}
use Rattle.xds_causes.proofs.FieldTests.{read_tells_or}
use Rattle.xds_causes.proofs.fields.node_wrong.Goals as goal

pub returns-clause-wrong : goal.returns-clause-wrong
returns-clause-wrong c = read_tells_or (IsInner SpellsIdentity (field (codes "node") (codes "node") (view c.args.value.now))) (λ m. m) _ _ c.node_field.ensures c.is_refused.ensures.tells
