use Rattle.std.proofs.Common.{◌-◌}
use Rattle.xds_frames.specs.Devices.{most_calls}
use Rattle.xds_program.proofs.JudgedInput.{IsReadSo}
use Rattle.xds_program.proofs.judge.read_all.Given as goal

-- what came of the input so far was read
abbrev pub invariant-loop : goal.invariant-loop
invariant-loop g l = IsReadSo (g.I.Read.remaining l.initial.input.inner) (g.I.Read.remaining l.input.inner) l.checker

abbrev pub decreases-loop : goal.decreases-loop
decreases-loop g l = most_calls - l.input.calls
