use Rattle.std.proofs.Common.{◌++◌, length, map}
use Rattle.xds_changes.specs.Changes.{change_of}
use Rattle.xds_changes.proofs.Takings.{IsTakenTo}
use Rattle.xds_changes.proofs.held_line.HeldLine.take.Given as goal

abbrev pub invariant-loop-part : goal.invariant-loop-part
invariant-loop-part l = IsTakenTo (l.fn.self.bytes.items ++ l.piece) l.self.bytes.items l.rest (map change_of l.changes.items) l.lines (length l.piece)

abbrev pub decreases-loop-part : goal.decreases-loop-part
decreases-loop-part l = length l.rest
