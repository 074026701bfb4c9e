use Rattle.std.proofs.Common.{refl}
use Rattle.xds_changes.proofs.KeptLines.{said_read}
use Rattle.xds_changes.proofs.said_lines.read_said.Goals as goal

pub returns-in-Ok : goal.returns-in-Ok
returns-in-Ok c = (refl, said_read c.in-Ok.change c.args.line.now c.args.number c.in-Ok.ensures.change c.in-Ok.ensures.line)
