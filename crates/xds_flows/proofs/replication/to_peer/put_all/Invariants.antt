use Rattle.xds_exchange.specs.Ends.{put_by, IsSameEnd}
use Rattle.xds_flows.specs.Parcels.{parcels_of}
use Rattle.xds_flows.proofs.Tellings.{IsPut}
use Rattle.xds_flows.proofs.replication.to_peer.put_all.Given as goal

abbrev pub invariant-loop : goal.invariant-loop
invariant-loop g l = IsPut (parcels_of l.initial.outbox) (put_by l.initial.out) (put_by l.out) (parcels_of l.outbox) × IsSameEnd l.initial.out l.out
