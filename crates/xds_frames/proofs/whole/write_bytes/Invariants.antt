use Rattle.std.proofs.Common.{length}
use Rattle.xds_frames.proofs.DeviceWriting.{IsWrittenTo}
use Rattle.xds_frames.proofs.whole.write_bytes.Given as goal

abbrev pub invariant-loop-rest : goal.invariant-loop-rest
invariant-loop-rest g l = IsWrittenTo (g.W.Write.contents l.fn.writer.inner) (g.W.Write.contents l.writer.inner) l.fn.writer.failed l.writer.failed l.bytes l.rest

abbrev pub decreases-loop-rest : goal.decreases-loop-rest
decreases-loop-rest g l = length l.rest
