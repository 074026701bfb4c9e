use Rattle.std.proofs.Common.{◌≡◌, ◌++◌, take, All}
use Rattle.xds_trace.specs.Making.{trace_of}
use Rattle.xds_trace.specs.Telling.{IsSoundRecord}
use Rattle.xds_trace.specs.Joined.{pieces_records}
use Rattle.xds_trace.proofs.histories.push_segments.Given as goal

abbrev pub invariant-loop-segment : goal.invariant-loop-segment
invariant-loop-segment g l =
    (l.lines.items ≡ l.initial.lines.items ++ trace_of (pieces_records (take l.segment-index l.segments)))
    × All IsSoundRecord (pieces_records (take l.segment-index l.segments))
