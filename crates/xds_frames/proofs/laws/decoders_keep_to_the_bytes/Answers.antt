use Rattle.xds_frames.proofs.Readings.{fed_more}
use Rattle.xds_frames.proofs.laws.decoders_keep_to_the_bytes.Goals as goal

pub returns-clause-fed : goal.returns-clause-fed
returns-clause-fed c = fed_more
