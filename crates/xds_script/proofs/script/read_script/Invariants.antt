use Rattle.std.proofs.Common.{length, map}
use Rattle.xds_script.specs.Commands.{said_of}
use Rattle.xds_script.proofs.Scripting.{IsReadTo}
use Rattle.xds_script.proofs.script.read_script.Given as goal

abbrev pub invariant-loop-bytes : goal.invariant-loop-bytes
invariant-loop-bytes l = IsReadTo l.script l.rest l.line (map said_of l.commands.items)

abbrev pub decreases-loop-bytes : goal.decreases-loop-bytes
decreases-loop-bytes l = length l.rest
