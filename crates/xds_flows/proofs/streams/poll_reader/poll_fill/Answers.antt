use Rattle.xds_flows.proofs.Pollings.{fills}
use Rattle.xds_flows.proofs.streams.poll_reader.poll_fill.Goals as goal

pub returns-in-Ready-Ok-clause-filled : goal.returns-in-Ready-Ok-clause-filled
returns-in-Ready-Ok-clause-filled g c =
    fills _ _ _ _ _ _ c.in-Ready-Ok.count _ _ (rw c.in-Ready-Ok.field-0-is at c.in-Ready-Ok.ensures.got) c.take_piece.ensures
