use Rattle.xds_node.proofs.Askings.{open_done}
use Rattle.xds_node.proofs.node.asking.open.Goals as goal

pub returns-clause-ok : goal.returns-clause-ok
returns-clause-ok c = (open_done _ _ _ _ c.number_in.ensures c.in_ok-reply.ensures.steps).0

pub returns-clause-open : goal.returns-clause-open
returns-clause-open c = (open_done _ _ _ _ c.number_in.ensures c.in_ok-reply.ensures.steps).1
