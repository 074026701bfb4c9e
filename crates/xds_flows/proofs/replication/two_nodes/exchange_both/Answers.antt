use Rattle.xds_flows.proofs.Comparing.{exchanged, of_same}
use Rattle.xds_flows.proofs.replication.two_nodes.exchange_both.Goals as goal

-- what a closure ensures has its clauses in a row: the end, and behind it what is left, and what was told
pub compare-requires : goal.compare-requires
compare-requires g c =
    of_same c.args.parcels.0 c.join-teller.result.0.2 c.args.parcels.1 c.join-teller.result.1.3 c.requires.parcels.0 c.join-teller.ensures.first.0 c.join-teller.ensures.second.1.0

pub compare-requires-2 : goal.compare-requires-2
compare-requires-2 g c =
    of_same c.args.receipts.0 c.join-teller.result.1.2 c.args.receipts.1 c.join-teller.result.0.3 c.requires.receipts.0 c.join-teller.ensures.second.0 c.join-teller.ensures.first.1.0

pub returns : goal.returns
returns g c =
    exchanged _ _ _ _ _ _ _ _ _ _ _ _ _ _ _ _ _ _ _ _ _ c.join-teller.ensures.first.1.1 c.join-teller.ensures.second.1.1 (c.requires.parcels.1, c.requires.parcels.2)
    (c.requires.receipts.1, c.requires.receipts.2) c.compare.ensures c.compare-2.ensures c.failed-failed.ensures
