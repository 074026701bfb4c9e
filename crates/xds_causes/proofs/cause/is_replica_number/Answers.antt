use Rattle.std.proofs.Common.{◌∙◌}
use Rattle.xds_causes.proofs.Causing.{number_none, number_some}
use Rattle.xds_causes.proofs.cause.is_replica_number.Goals as goal

pub returns-in-Some : goal.returns-in-Some
returns-in-Some c = c.is_within.ensures ∙ number_some _ _ c.in-Some.ensures.shortest

pub returns-in-None : goal.returns-in-None
returns-in-None c = number_none _ _ c.decimal_number.ensures.all c.in-None.is
