use Rattle.xds_frames.proofs.Standing.{found}
use Rattle.xds_frames.proofs.laws.written_frames_are_found.Goals as goal

pub returns : goal.returns
returns c = found
