use Rattle.xds_flows.proofs.Comparing.{left_same, merges_left}
use Rattle.xds_flows.proofs.replication.two_nodes.merge_all.Goals as goal

pub returns-clause-left : goal.returns-clause-left
returns-clause-left g c = left_same c.args.from c.exchange_in-dropped.new.from c.leave.result c.exchange_in-dropped.ensures.source c.leave.ensures.end

pub returns-clause-merged : goal.returns-clause-merged
returns-clause-merged g c = merges_left _ _ _ _ _ _ _ _ _ _ _ _ _ _ c.leave.ensures.taken c.end.ensures.put c.end.ensures.failed c.exchange_in-dropped.ensures.merged
