use Rattle.xds_causes.proofs.Causing.{name_some}
use Rattle.xds_causes.proofs.cause.name_cause.Goals as goal

pub returns-else-is_empty : goal.returns-else-is_empty
returns-else-is_empty c = name_some _ _ _ c.in-Some.is c.is_empty.ensures c.if-is_empty.false
