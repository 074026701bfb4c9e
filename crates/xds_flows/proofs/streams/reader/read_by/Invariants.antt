use Rattle.std.proofs.Common.{[]}
use Rattle.xds_frames.specs.Devices.{seen}
use Rattle.xds_flows.specs.Reading.{IsRead}
use Rattle.xds_node.proofs.Callings.{Told}
use Rattle.xds_flows.proofs.streams.reader.read_by.Given as goal

abbrev pub invariant-loop : goal.invariant-loop
invariant-loop g l =
    Told (g.H.Host.told l.initial.seat) (g.H.Host.told l.seat) (g.H.Host.refused l.initial.seat) (g.H.Host.refused l.seat)
    (λ told tried. IsRead l.stream told tried [] (seen g.D.Read.remaining l.initial.reader l.reader) l.decoder)
