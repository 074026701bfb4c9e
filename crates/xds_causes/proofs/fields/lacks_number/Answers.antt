use Rattle.std.proofs.Common.{Some, subst}
use Rattle.xds_causes.proofs.FieldTests.{no_number, number_tells}
use Rattle.xds_causes.proofs.fields.lacks_number.Goals as goal

pub returns : goal.returns
returns c = number_tells _ _ _ _ c.in-Some.ensures.found c.is_outside.ensures

pub returns-in_default : goal.returns-in_default
returns-in_default c = no_number _ _ c.in_default.ensures.unknown
