use Rattle.xds_frames.proofs.Readings.{given_first}
use Rattle.xds_frames.proofs.laws.decoders_leave_nothing_out.Goals as goal

pub returns-clause-first : goal.returns-clause-first
returns-clause-first c = given_first
