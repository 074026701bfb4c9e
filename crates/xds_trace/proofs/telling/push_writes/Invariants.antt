use Rattle.std.proofs.Common.{◌≡◌, ◌++◌, take, map, All}
use Rattle.xds_resource.specs.PerType.{at}
use Rattle.xds_resource.specs.Resources.{IsWritable}
use Rattle.xds_trace.specs.Making.{write_line}
use Rattle.xds_trace.proofs.telling.push_writes.Given as goal

abbrev pub invariant-loop-index : goal.invariant-loop-index
invariant-loop-index l =
    (l.lines.items ≡ l.initial.lines.items ++ map (write_line l.kind) (take l.index (at l.batch l.kind)))
    × All (IsWritable l.kind) (take l.index (at l.batch l.kind))
