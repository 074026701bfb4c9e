use Rattle.std.proofs.Common.{arith}
use Rattle.xds_changes.proofs.KeptLines.{held_more}
use Rattle.xds_changes.proofs.said_lines.Kept.hold.Goals as goal

pub returns-in-Ok-clause-held : goal.returns-in-Ok-clause-held
returns-in-Ok-clause-held c =
    held_more c.args.self.now.bytes.items c.args.part.now _ _ c.saturating_sub-room.result c.min.result c.if-self.false c.args.self.now.short
    (omega (arith, c.saturating_sub-room.ensures, c.as_slice.ensures.len)) (omega (arith, c.min.ensures)) c.in-Ok.ensures.items
