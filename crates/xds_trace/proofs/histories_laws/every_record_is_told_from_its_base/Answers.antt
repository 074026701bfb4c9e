use Rattle.xds_trace.proofs.AnyBase.{told_from_base}
use Rattle.xds_trace.proofs.histories_laws.every_record_is_told_from_its_base.Goals as goal

pub returns : goal.returns
returns c = told_from_base
