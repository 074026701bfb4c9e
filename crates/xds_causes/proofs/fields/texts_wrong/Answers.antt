use Rattle.std.proofs.Common.{map, string_bytes}
use Rattle.serde_json.specs.View.{view}
use Rattle.xds_resource.specs.Fields.{field}
use Rattle.xds_json.specs.Spelling.{IsTexts}
use Rattle.xds_causes.proofs.FieldTests.{read_tells_or}
use Rattle.xds_causes.proofs.fields.texts_wrong.Goals as goal

pub returns-clause-wrong : goal.returns-clause-wrong
returns-clause-wrong c = read_tells_or (IsTexts (field c.args.camel.now c.args.proto.now (view c.args.value.now))) (λ v. map string_bytes v.items) _ _ c.texts_field.ensures c.is_refused.ensures.tells
