use Rattle.std.proofs.Common.{◌<◌}
use Rattle.xds_exchange.specs.Ends.{failed_by, put_by, taken_by, IsSameEnd, IsSameSource}
use Rattle.xds_flows.proofs.Mergings.{Merges}
use Rattle.xds_flows.proofs.replication.from_peer.exchange_in.Given as goal

abbrev pub invariant-loop : goal.invariant-loop
invariant-loop g l =
    Merges (g.H.Host.told l.initial.seat) (g.H.Host.told l.seat) (g.H.Host.refused l.initial.seat) (g.H.Host.refused l.seat) (taken_by l.initial.from) (taken_by l.from) (put_by l.initial.receipts) (put_by l.receipts) (failed_by l.initial.receipts) (failed_by l.receipts) l.dropped l.lost
    × IsSameSource l.initial.from l.from × IsSameEnd l.initial.receipts l.receipts × (l.dropped < 9223372036854775807)
