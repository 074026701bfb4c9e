use Rattle.futures.specs.Task.{Keeps}
use Rattle.xds_frames.specs.Devices.{seen}
use Rattle.xds_flows.specs.Reading.{IsRead}
use Rattle.xds_node.proofs.Callings.{Told}
use Rattle.xds_flows.proofs.streams.poll_reader.poll_requests.Given as goal

abbrev pub invariant-loop : goal.invariant-loop
invariant-loop g l =
    Told (g.H.Host.told l.initial.seat) (g.H.Host.told l.seat) (g.H.Host.refused l.initial.seat) (g.H.Host.refused l.seat)
    (λ told tried. IsRead l.stream told tried l.initial.decoder (seen g.P.Reads.remaining l.initial.reader l.reader) l.decoder)
    × Keeps l.initial.cx l.cx
