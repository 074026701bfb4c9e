use Rattle.std.proofs.Common.{string_bytes}
use Rattle.serde_json.specs.View.{view}
use Rattle.xds_resource.specs.Fields.{field}
use Rattle.xds_json.specs.Spelling.{IsText}
use Rattle.xds_causes.proofs.FieldTests.{read_tells_or}
use Rattle.xds_causes.proofs.fields.text_wrong.Goals as goal

pub returns-clause-wrong : goal.returns-clause-wrong
returns-clause-wrong c = read_tells_or (IsText (field c.args.camel.now c.args.proto.now (view c.args.value.now))) string_bytes _ _ c.text_field.ensures c.is_refused.ensures.tells
