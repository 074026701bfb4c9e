use Rattle.std.proofs.Common.{[]}
use Rattle.xds_frames.specs.Devices.{seen}
use Rattle.xds_node.specs.Turning.{GoesOn, IsOpen, left_to_do}
use Rattle.xds_flows.proofs.streams.running.serve.Given as goal

abbrev pub invariant-loop-decoder : goal.invariant-loop-decoder
invariant-loop-decoder g l =
    GoesOn l.stream l.initial.core [] (seen g.R.Read.remaining l.initial.reader l.reader) (seen g.W.Write.contents l.initial.writer l.writer) l.core l.decoder × IsOpen l.stream l.core

abbrev pub decreases-loop-decoder : goal.decreases-loop-decoder
decreases-loop-decoder g l = left_to_do l.reader.calls l.decoder
