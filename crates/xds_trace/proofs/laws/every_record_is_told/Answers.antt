use Rattle.xds_trace.proofs.Tellable as laws
use Rattle.xds_trace.proofs.laws.every_record_is_told.Goals as goal

pub returns : goal.returns
returns c = laws.every_record_is_told
