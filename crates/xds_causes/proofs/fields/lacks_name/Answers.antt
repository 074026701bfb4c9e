use Rattle.xds_causes.proofs.FieldTests.{name_tells, no_name}
use Rattle.xds_causes.proofs.fields.lacks_name.Goals as goal

pub returns : goal.returns
returns c = name_tells _ _ _ c.is_valid_name.ensures c.in-Some.ensures.found

pub returns-in_default : goal.returns-in_default
returns-in_default c = no_name _ c.in_default.ensures.unknown
