use Rattle.std.proofs.Common.{[], take, All}
use Rattle.xds_frames.specs.Devices.{seen}
use Rattle.xds_frames.specs.Gathering.{Passes}
use Rattle.xds_trace.specs.Telling.{IsSoundRecord}
use Rattle.xds_trace.specs.Texts.{records_text}
use Rattle.xds_trace.proofs.texts.write_records.Given as goal

abbrev pub invariant-loop-line : goal.invariant-loop-line
invariant-loop-line g l =
    Passes (seen g.W.Write.contents l.fn.writer l.writer) [] (records_text (take l.line-index l.records)) l.block.items
    × All IsSoundRecord (take l.line-index l.records)
