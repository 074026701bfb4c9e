use Rattle.std.proofs.Common.{ap}
use Rattle.xds_flows.proofs.Owings.{fits_owed, puts_at}
use Rattle.xds_flows.proofs.streams.poll_writer.poll_some.Goals as goal

pub take-requires : goal.take-requires
take-requires g c = fits_owed _ _ _ _ _ c.in-Ready.written c.chunk.ensures c.in-Ready.ensures.takes c.count_of.ensures

pub returns-clause-put : goal.returns-clause-put
returns-clause-put g c = puts_at _ _ _ _ _ _ _ _ _ c.in-Ready.written c.take.result c.chunk.ensures c.in-Ready.ensures.takes c.count_of.ensures c.take.ensures.left c.take.ensures.ends (ap g.P.Writes.contents c.take.ensures.inner)
