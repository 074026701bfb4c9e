use Rattle.xds_node.proofs.Callings.{closed_by}
use Rattle.xds_node.proofs.node.calls.close.Goals as goal

pub returns : goal.returns
returns g c = closed_by _ _ _ _ _ c.called.result c.called.ensures.told c.called.ensures.unrecorded c.called.ensures.err c.called.ensures.tried
