use Rattle.std.proofs.Common.{◌-◌}
use Rattle.xds_frames.specs.Devices.{most_calls}
use Rattle.xds_program.proofs.judge.pass_over.Given as goal

abbrev pub decreases-loop : goal.decreases-loop
decreases-loop g l = most_calls - l.input.calls
