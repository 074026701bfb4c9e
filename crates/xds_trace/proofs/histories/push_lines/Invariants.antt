use Rattle.std.proofs.Common.{◌≡◌, ◌++◌, take, All}
use Rattle.xds_trace.specs.Making.{trace_of}
use Rattle.xds_trace.specs.Telling.{IsSoundRecord}
use Rattle.xds_trace.proofs.histories.push_lines.Given as goal

abbrev pub invariant-loop-line : goal.invariant-loop-line
invariant-loop-line l =
    (l.lines.items ≡ l.initial.lines.items ++ trace_of (take l.line-index l.records))
    × All IsSoundRecord (take l.line-index l.records)
