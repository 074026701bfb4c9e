use Rattle.xds_frames.proofs.Readings.{same_frames}
use Rattle.xds_frames.proofs.laws.any_cutting_gives_the_same_frames.Goals as goal

pub returns : goal.returns
returns c = same_frames
