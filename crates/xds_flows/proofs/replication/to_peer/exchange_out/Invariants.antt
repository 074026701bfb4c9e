use Rattle.std.proofs.Common.{List}
use Rattle.xds_core.specs.Counts.{counts_of}
use Rattle.xds_exchange.specs.Ends.{put_by, taken_by, IsSameEnd, IsSameSource}
use Rattle.xds_flows.specs.Exchanging.{Turn}
use Rattle.xds_flows.proofs.Tellings.{ByTurns}
use Rattle.xds_flows.proofs.replication.to_peer.exchange_out.Given as goal

abbrev pub invariant-loop : goal.invariant-loop
invariant-loop g l =
    ((turns : List Turn) × ByTurns (g.H.Host.told l.initial.seat) (g.H.Host.told l.seat) (g.H.Host.refused l.initial.seat) (g.H.Host.refused l.seat)
    (put_by l.initial.out) (put_by l.out) (taken_by l.initial.receipts) (taken_by l.receipts) turns (counts_of l.peer))
    × IsSameEnd l.initial.out l.out × IsSameSource l.initial.receipts l.receipts
