use Rattle.std.proofs.Common.{◌≡◌, take, map, All}
use Rattle.xds_trace.specs.Making.{trace_of}
use Rattle.xds_trace.specs.Telling.{IsSoundRecord, record_of}
use Rattle.xds_trace.proofs.telling.all_lines.Given as goal

abbrev pub invariant-loop-record : goal.invariant-loop-record
invariant-loop-record l =
    (l.lines.items ≡ trace_of (map record_of (take l.record-index l.records)))
    × All IsSoundRecord (map record_of (take l.record-index l.records))
