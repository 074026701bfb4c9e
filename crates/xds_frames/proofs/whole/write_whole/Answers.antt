use Rattle.std.proofs.Common.{refl}
use Rattle.xds_frames.proofs.DeviceWriting.{written-then}
use Rattle.xds_frames.proofs.whole.write_whole.Goals as goal

pub returns-in-Err-clause-failed : goal.returns-in-Err-clause-failed
returns-in-Err-clause-failed g c = (refl, written-then _ _ _ _ _ _ _ c.in_ok-write_bytes.ensures.written c.in_ok-write_bytes.ensures.none_failed c.flush.ensures.bytes c.in-Err.ensures.failed)
