use Rattle.std.proofs.Common.{refl}
use Rattle.xds_frames.proofs.DeviceWriting.{written-more, written-part}
use Rattle.xds_frames.proofs.whole.write_bytes.Goals as goal

pub loop-rest-preserved : goal.loop-rest-preserved
loop-rest-preserved g c = written-more _ _ _ _ _ _ _ _ _ c.loop-rest.invariant c.in-Ok.ensures.bound c.in-Ok.ensures.bytes c.in-Ok.ensures.failed

pub returns-in-Err-clause-failed : goal.returns-in-Err-clause-failed
returns-in-Err-clause-failed g c = (refl, written-part _ _ _ _ _ _ _ _ c.loop-rest.invariant c.in-Err.ensures.bytes c.in-Err.ensures.failed)
