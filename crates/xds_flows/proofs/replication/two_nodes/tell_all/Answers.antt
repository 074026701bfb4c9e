use Rattle.xds_flows.proofs.Comparing.{left_same, tells_left}
use Rattle.xds_flows.proofs.replication.two_nodes.tell_all.Goals as goal

pub returns-clause-left : goal.returns-clause-left
returns-clause-left g c = left_same c.args.receipts c.exchange_out-ended.new.receipts c.leave.result c.exchange_out-ended.ensures.source c.leave.ensures.end

pub returns-clause-told : goal.returns-clause-told
returns-clause-told g c = tells_left _ _ _ _ _ _ _ _ _ _ _ c.end.ensures.put c.leave.ensures.taken c.exchange_out-ended.ensures.told
