use Rattle.std.proofs.Common.{◌≤◌, ℕ, take}
use Rattle.xds_changes.specs.Given.{AreBelow}
use Rattle.xds_changes.proofs.given.above_all.Given as goal

abbrev pub invariant-loop-write : goal.invariant-loop-write
invariant-loop-write g l =
    (l.initial.least ≤ l.number) × AreBelow l.number (take l.write-index l.write-items)
    × ((other : ℕ) → l.initial.least ≤ other → AreBelow other l.write-items → l.number ≤ other)
