use Rattle.std.proofs.Common.{[], None}
use Rattle.xds_flows.specs.Owing.{write_at}
use Rattle.xds_flows.proofs.Owings.{asked_at, gave_up_at}
use Rattle.xds_flows.proofs.streams.writer.write_responses.Goals as goal

pub returns-in-Ok : goal.returns-in-Ok
returns-in-Ok g c =
    c.loop.invariant _ (write_at g.H.Host.told g.H.Host.refused g.W.Write.contents c.write_by.new.seat None [] c.write_by.new.writer) c.write_by.ensures

pub returns-in-Some-give_up : goal.returns-in-Some-give_up
returns-in-Some-give_up g c =
    c.loop.invariant _ (write_at g.H.Host.told g.H.Host.refused g.W.Write.contents c.give_up.new.seat None [] c.loop.writer)
    (gave_up_at _ _ _ _ _ _ _ c.in-Some-give_up.end c.in-Some-give_up.ensures)

pub loop-preserved : goal.loop-preserved
loop-preserved g c = λ r z h. c.loop.invariant r z (asked_at _ _ _ _ _ _ _ None c.in_default-give_up.ensures r z h)
