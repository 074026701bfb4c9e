use Rattle.std.proofs.Common.{◌≡◌, ◌++◌, drop, string_bytes}
use Rattle.std.specs.List.{flat_map}
use Rattle.xds_monitor.specs.Recordings.{running_sample, running_text}
use Rattle.xds_monitor.proofs.tapes.running_text.Given as goal

-- what is written, and what is left to write, is all
abbrev pub invariant-loop-shown : goal.invariant-loop-shown
invariant-loop-shown l = string_bytes l.metrics.text ++ flat_map running_sample (drop l.shown-index l.running) ≡ running_text l.running
