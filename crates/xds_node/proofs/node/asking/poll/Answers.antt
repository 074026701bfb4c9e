use Rattle.xds_node.proofs.Askings.{poll_done}
use Rattle.xds_node.proofs.node.asking.poll.Goals as goal

pub returns-clause-ok : goal.returns-clause-ok
returns-clause-ok c = (poll_done _ _ _ _ _ c.draft_in.ensures c.requires c.in_ok-reply.ensures.steps).0

pub returns-clause-open : goal.returns-clause-open
returns-clause-open c = (poll_done _ _ _ _ _ c.draft_in.ensures c.requires c.in_ok-reply.ensures.steps).1

pub returns-clause-fewer : goal.returns-clause-fewer
returns-clause-fewer c = (poll_done _ _ _ _ _ c.draft_in.ensures c.requires c.in_ok-reply.ensures.steps).2
