use Rattle.std.proofs.Common.{◌≡◌}
use Rattle.std.specs.FinMap as finmap
use Rattle.xds_catalogue.proofs.ByNumbers.{put_entries}
use Rattle.xds_core.proofs.replica.copy_streams.Given as goal

-- what is copied, and what is left, is all
abbrev pub invariant-loop-number : goal.invariant-loop-number
invariant-loop-number l = put_entries l.copies l.number-iterator ≡ put_entries l.initial.copies (finmap.entries l.streams)
