use Rattle.std.proofs.Common.{[], None}
use Rattle.xds_flows.specs.Owing.{WriteLeads, write_at}
use Rattle.xds_flows.proofs.streams.writer.write_responses.Given as goal

abbrev pub invariant-loop : goal.invariant-loop
invariant-loop g l =
    WriteLeads l.stream (write_at g.H.Host.told g.H.Host.refused g.W.Write.contents l.initial.seat None [] l.initial.writer) (write_at g.H.Host.told g.H.Host.refused g.W.Write.contents l.seat None [] l.writer)
