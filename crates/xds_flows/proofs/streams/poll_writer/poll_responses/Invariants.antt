use Rattle.futures.specs.Task.{Keeps}
use Rattle.xds_flows.specs.Owing.{WriteLeads, write_at}
use Rattle.xds_flows.proofs.streams.poll_writer.poll_responses.Given as goal

abbrev pub invariant-loop : goal.invariant-loop
invariant-loop g l =
    WriteLeads l.stream (write_at g.H.Host.told g.H.Host.refused g.P.Writes.contents l.initial.seat l.initial.given l.initial.owed l.initial.writer) (write_at g.H.Host.told g.H.Host.refused g.P.Writes.contents l.seat l.given l.owed l.writer)
    × Keeps l.initial.cx l.cx
