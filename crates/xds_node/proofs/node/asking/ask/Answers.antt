use Rattle.xds_node.proofs.Askings.{ask_is}
use Rattle.xds_node.proofs.node.asking.ask.Goals as goal

pub returns-clause-ok : goal.returns-clause-ok
returns-clause-ok c = (ask_is _ _ _ _ _ c.requires c.in_ok-step.ensures.steps).0

pub returns-clause-open : goal.returns-clause-open
returns-clause-open c = (ask_is _ _ _ _ _ c.requires c.in_ok-step.ensures.steps).1
