use Rattle.std.proofs.Common.{◌≤◌, length}
use Rattle.xds_interest.proofs.Again.{InTurn}
use Rattle.xds_interest.proofs.names.NameSet.are_these.Given as goal

abbrev pub invariant-loop-name : goal.invariant-loop-name
invariant-loop-name l = InTurn l.texts l.passed l.initial.name-iterator l.name-iterator × (l.passed ≤ length l.texts)
