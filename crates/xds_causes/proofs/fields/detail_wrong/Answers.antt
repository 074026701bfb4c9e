use Rattle.std.proofs.Common.{codes}
use Rattle.serde_json.specs.View.{view}
use Rattle.xds_resource.specs.Fields.{field}
use Rattle.xds_json.specs.Spelling.{IsInner}
use Rattle.xds_json.specs.Parts.{SpellsFailure}
use Rattle.xds_causes.proofs.FieldTests.{read_tells_or}
use Rattle.xds_causes.proofs.fields.detail_wrong.Goals as goal

pub returns-clause-wrong : goal.returns-clause-wrong
returns-clause-wrong c = read_tells_or (IsInner SpellsFailure (field (codes "errorDetail") (codes "error_detail") (view c.args.value.now))) (λ m. m) _ _ c.error_detail_field.ensures c.is_refused.ensures.tells
